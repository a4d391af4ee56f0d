-- Reading a word is exact.
use Rattle.std.proofs.Common.{◌≡◌, ℕ, Bool, true, false, cond, eqb, List, [], ◌∷◌, ◌++◌, length, refl, sym, ap, subst, arith, Ok, Err}
use Rattle.std.proofs.lemmas.Bool.{eqb-true}
use Rattle.std.proofs.lemmas.Bool.Decides.{nat_tests}
use Rattle.ci_reading.specs.LineReading.{Stop, stop, word}
use Rattle.ci_reading.proofs.Languages.{Plainly}
use Rattle.ci_reading.proofs.Exact.{IsExact, plain_stop, plain_exact}

eqb-same : (x : ℕ) → eqb x x ≡ true
eqb-same x = grind (arith, nat_tests)

pub data IsWord (due : List ℕ) : List ℕ → Unit {0} → Type 0 where
  is_word : IsWord due due tt

module _ {K : Type 0} where
  pub word_again : (due rest : List ℕ) → word {K = K} due (due ++ rest) ≡ Ok (tt, rest)
  word_again [] rest = refl
  word_again (x ∷ due) rest = rw (eqb-same x) (word_again due rest)

  pub word_sound : (due xs : List ℕ) (a : Unit {0}) (rest : List ℕ) → word {K = K} due xs ≡ Ok (a, rest) → xs ≡ due ++ rest
  word_sound [] xs a rest e = let both : (tt, xs) ≡ (a, rest) = cc in ap (λ (x : Unit {0} × List ℕ). x.1) both
  word_sound (d ∷ due) [] a rest e = absurd (cc)
  word_sound (d ∷ due) (x ∷ xs) a rest e = by (word_sound due xs a rest) (eqb x d) refl e
    where
      by : (word {K = K} due xs ≡ Ok (a, rest) → xs ≡ due ++ rest) → (b : Bool) → eqb x d ≡ b
          → cond b (word {K = K} due xs) (Err (stop (length (x ∷ xs)))) ≡ Ok (a, rest) → x ∷ xs ≡ d ∷ due ++ rest
      by others true same e = λ i. eqb-true x d same i ∷ others e i
      by others false other e = absurd (cc)

  -- where a word stops: before a byte that differs from the one due
  pub record IsWordStop (due xs : List ℕ) (s : Stop K) : Type 0 where
    pub front : List ℕ
    pub rest : List ℕ
    pub byte : ℕ
    pub others : List ℕ
    pub splits : xs ≡ front ++ rest
    pub is_front : due ≡ front ++ byte ∷ others
    pub is_stop : s ≡ stop (length rest)
    pub here : (b : ℕ) (tail : List ℕ) → rest ≡ b ∷ tail → eqb b byte ≡ false

  pub word_stops : (due xs : List ℕ) (s : Stop K) → word due xs ≡ Err s → IsWordStop due xs s
  word_stops [] xs s e = absurd (cc)
  word_stops (d ∷ due) [] s e =
      record { front = []; rest = []; byte = d; others = due; splits = refl; is_front = refl; is_stop = cc; here = λ b tail at. absurd (cc) }
  word_stops (d ∷ due) (x ∷ xs) s e = by (word_stops due xs s) (eqb x d) refl e
    where
      by : (word due xs ≡ Err s → IsWordStop due xs s) → (b : Bool) → eqb x d ≡ b
          → cond b (word due xs) (Err (stop (length (x ∷ xs)))) ≡ Err s → IsWordStop (d ∷ due) (x ∷ xs) s
      by stops true same e =
          let o = stops e in
          record {
            front = d ∷ o.front;
            rest = o.rest;
            byte = o.byte;
            others = o.others;
            splits = λ i. eqb-true x d same i ∷ o.splits i;
            is_front = ap (λ v. d ∷ v) o.is_front;
            is_stop = o.is_stop;
            here = o.here;
          }
      by stops false other e = record {
        front = [];
        rest = x ∷ xs;
        byte = d;
        others = due;
        splits = refl;
        is_front = refl;
        is_stop = cc;
        here = λ b tail at. let same : x ≡ b = cc in subst (λ v. eqb v d ≡ false) same other;
      }

  word_front : (front : List ℕ) (d b : ℕ) (others other : List ℕ) → eqb b d ≡ false
      → word {K = K} (front ++ d ∷ others) (front ++ b ∷ other) ≡ Err (stop (length (b ∷ other)))
  word_front [] d b others other e = rw e refl
  word_front (x ∷ front) d b others other e = rw (eqb-same x) (word_front front d b others other e)

  pub word_exact : {Other : K → ℕ → Type 0} {most : ℕ} (n : ℕ) (due : List ℕ) → IsExact Other most n (word due) (Plainly (IsWord due))
  word_exact n due =
      plain_exact whole_by (λ xs a rest small e. (due, word_sound due xs a rest e, is_word))
      (λ xs s small e.
      let o = word_stops due xs s e in
      plain_stop o.front o.rest (o.byte ∷ o.others) tt xs s o.splits o.is_stop (subst (λ v. IsWord due v tt) o.is_front is_word)
      (λ b tail other at. subst (λ v. word {K = K} v (o.front ++ b ∷ other) ≡ Err (stop (length (b ∷ other))))
      (sym o.is_front) (word_front o.front o.byte b o.others other (o.here b tail at))))
    where
      whole_by : (ys : List ℕ) (a : Unit {0}) (rest : List ℕ) → IsWord due ys a → word {K = K} due (ys ++ rest) ≡ Ok (a, rest)
      whole_by _ _ rest is_word = word_again due rest
