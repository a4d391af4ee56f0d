-- Reading what one byte stands for is exact.
use Rattle.std.proofs.Common.{◌≡◌, ℕ, List, [], ◌∷◌, ◌++◌, length, refl, sym, ap, ◌∙◌, Option, Some, None, Ok, Err}
use Rattle.ci_reading.specs.LineReading.{Stop, stop}
use Rattle.ci_reading.specs.Fields.{found_before}
use Rattle.ci_reading.proofs.Languages.{Plainly}
use Rattle.ci_reading.proofs.Exact.{IsStop, plain_stop, plain_exact}
use Rattle.ci_reading.proofs.Readers.{PlainReader}
use Rattle.ci_netlist.specs.private.Reading.{Kinds, found}

-- no stop has a kind
abbrev pub Other : Kinds → ℕ → Type 0
Other k b = ⊥

-- no text that is read is longer
abbrev pub most : ℕ
most = 268435456

abbrev pub TextReader : Type 0 → Type 1
TextReader A = PlainReader ℕ Kinds A Other most

module _ {A : Type 0} (f : ℕ → Option A) where
  abbrev pub IsFound : List ℕ → A → Type 0
  IsFound ys a = (x : ℕ) × (ys ≡ x ∷ []) × (f x ≡ Some a)

  module _ (x0 : ℕ) (a0 : A) (is0 : f x0 ≡ Some a0) where
    pub whole : (ys : List ℕ) (a : A) (rest : List ℕ) → IsFound ys a → found f (ys ++ rest) ≡ Ok (a, rest)
    whole ys a rest is =
        ap (λ v. found f (v ++ rest)) is.1 ∙ ap (found_before {K = Kinds} (length (is.0 ∷ rest)) rest) is.2

    pub sound : (xs : List ℕ) (a : A) (rest : List ℕ) → found f xs ≡ Ok (a, rest)
        → (ys : List ℕ) × (xs ≡ ys ++ rest) × IsFound ys a
    sound [] a rest read = absurd cc
    sound (x ∷ xs) a rest read = by (f x) refl read
      where
        by : (o : Option A) → f x ≡ o → found_before {K = Kinds} (length (x ∷ xs)) xs o ≡ Ok (a, rest)
            → (ys : List ℕ) × (x ∷ xs ≡ ys ++ rest) × IsFound ys a
        by (Some v) is read =
            let both : ◌≡◌ {A = A × List ℕ} (v, xs) (a, rest) = cc in
            (x ∷ [], ap (λ (p : A × List ℕ). x ∷ p.1) both, (x, refl, is ∙ ap (λ (p : A × List ℕ). Some p.0) both))
        by None is read = absurd cc

    pub stops : (n : ℕ) (xs : List ℕ) (s : Stop Kinds) → found f xs ≡ Err s → IsStop n (found f) (Plainly IsFound) xs s
    stops n [] s read =
        plain_stop [] [] (x0 ∷ []) a0 [] s refl (let e : s ≡ stop 0 = cc in e) (x0, refl, is0)
        (λ b tail other at. absurd cc)
    stops n (x ∷ xs) s read = by (f x) refl read
      where
        by : (o : Option A) → f x ≡ o → found_before {K = Kinds} (length (x ∷ xs)) xs o ≡ Err s
            → IsStop n (found f) (Plainly IsFound) (x ∷ xs) s
        by (Some v) is read = absurd cc
        by None is read =
            plain_stop [] (x ∷ xs) (x0 ∷ []) a0 (x ∷ xs) s refl (let e : s ≡ stop (length (x ∷ xs)) = cc in e)
            (x0, refl, is0)
            (λ b tail other at.
            let first : x ≡ b = cc in
            ap (found_before {K = Kinds} (length (b ∷ other)) other) (ap f (sym first) ∙ is))

    abbrev pub a_found : TextReader A
    a_found = record {
      read = found f;
      Is = IsFound;
      exact = λ n. plain_exact whole (λ xs a rest few read. sound xs a rest read) (λ xs s few read. stops n xs s read);
      some = (x0 ∷ [], a0, (x0, refl, is0));
    }
