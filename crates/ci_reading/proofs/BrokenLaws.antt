-- The first broken element of lists that are put together.
use Rattle.std.proofs.Common.{◌≡◌, ℕ, suc, zero, ◌+◌, ◌<◌, ◌≤◌, List, [], ◌∷◌, ◌++◌, refl, ap, sym, ◌∙◌, arith}
use Rattle.std.proofs.Common.{append_assoc, add-one, length, get_or, length-append, inl, inr, subst, Bool, true, false}
use Rattle.std.proofs.Common.{cond, Option, Some, None}
use Rattle.std.specs.Option.{option_to_list}
use Rattle.std.proofs.lemmas.List.{append-nil, get_or_append_left}
use Rattle.std.proofs.Math.Seq.{get_or-append_seam}
use Rattle.std.proofs.lemmas.Bool.{cases_lt}
use Rattle.std.specs.List.{AllByRecursion, AllPairs, Contains}
use Rattle.std.proofs.lemmas.List.Elements.{Contains-append_left, Contains-append_right, Contains-append_cases, Contains-get_or}
use Rattle.std.proofs.lemmas.List.Quantifiers.{all_pairs_push}
use Rattle.ci_reading.specs.Broken.{IsFirstBroken, each_below, those_below}

module _ {A : Type 0} (P : A → Type 0) where
  pub kept_append : (xs ys : List A) → AllByRecursion P xs → AllByRecursion P ys → AllByRecursion P (xs ++ ys)
  kept_append [] ys f s = s
  kept_append (x ∷ xs) ys f s = (f.0, kept_append xs ys f.1 s)

  pub broken_here : (x : A) (xs : List A) → ¬ P x → IsFirstBroken P (x ∷ xs) x
  broken_here x xs fails = record { before = []; after = xs; split = refl; kept = tt; broken = fails }

  pub broken_in_front : (xs ys : List A) (x : A) → IsFirstBroken P xs x → IsFirstBroken P (xs ++ ys) x
  broken_in_front xs ys x b = record {
    before = b.before;
    after = b.after ++ ys;
    split = ap (λ l. l ++ ys) b.split ∙ append_assoc b.before (x ∷ b.after) ys;
    kept = b.kept;
    broken = b.broken;
  }

  pub broken_behind : (xs ys : List A) (x : A) → AllByRecursion P xs → IsFirstBroken P ys x → IsFirstBroken P (xs ++ ys) x
  broken_behind xs ys x all b = record {
    before = xs ++ b.before;
    after = b.after;
    split = ap (λ l. xs ++ l) b.split ∙ sym (append_assoc xs b.before (x ∷ b.after));
    kept = kept_append xs b.before all b.kept;
    broken = b.broken;
  }

  -- lists made number by number
  pub kept_each : (n : ℕ) (f : ℕ → List A) → ((k : ℕ) → k < n → AllByRecursion P (f k)) → AllByRecursion P (each_below n f)
  unfolding each_below
  kept_each zero f all = tt
  kept_each (suc n) f all = kept_append (each_below n f) (f n) (kept_each n f (λ k h. all k (omega arith))) (all n (omega arith))

  pub broken_each :
      (n k : ℕ) (f : ℕ → List A) (x : A) → k < n → ((j : ℕ) → j < k → AllByRecursion P (f j)) → IsFirstBroken P (f k) x
      → IsFirstBroken P (each_below n f) x
  unfolding each_below
  broken_each zero k f x h kept b = absurd (omega arith)
  broken_each (suc n) k f x h kept b = elim (cases_lt k n) [
    | inl l ↦ broken_in_front (each_below n f) (f n) x (broken_each n k f x l kept b)
    | inr l ↦
        let same : k ≡ n = omega arith in
        broken_behind (each_below n f) (f n) x (kept_each n f (λ j i. kept j (omega arith))) (subst (λ m. IsFirstBroken P (f m) x) same b)
  ]

-- a list of one element more
pub each_below_more : {A : Type 0} (n : ℕ) (f : ℕ → List A) → each_below (n + 1) f ≡ each_below n f ++ f n
unfolding each_below
each_below_more n f = rw add-one refl

-- what holds of all such lists holds of each
module _ {A : Type 0} (P : A → Type 0) where
  pub kept_front : (xs ys : List A) → AllByRecursion P (xs ++ ys) → AllByRecursion P xs
  kept_front [] ys all = tt
  kept_front (x ∷ xs) ys all = (all.0, kept_front xs ys all.1)

  pub kept_back : (xs ys : List A) → AllByRecursion P (xs ++ ys) → AllByRecursion P ys
  kept_back [] ys all = all
  kept_back (x ∷ xs) ys all = kept_back xs ys all.1

  pub kept_at : (n k : ℕ) (f : ℕ → List A) → k < n → AllByRecursion P (each_below n f) → AllByRecursion P (f k)
  unfolding each_below
  kept_at zero k f h all = absurd (omega arith)
  kept_at (suc n) k f h all = elim (cases_lt k n) [
    | inl l ↦ kept_at n k f l (kept_front (each_below n f) (f n) all)
    | inr l ↦
        let same : n ≡ k = omega arith in
        subst (λ m. AllByRecursion P (f m)) same (kept_back (each_below n f) (f n) all)
  ]

pub each_below_none : {A : Type 0} (f : ℕ → List A) → each_below 0 f ≡ []
unfolding each_below
each_below_none f = refl

-- one number more, of which is known what it adds
pub those_below_step :
    {A : Type 0} (test : ℕ → Bool) (f : ℕ → A) (n : ℕ) (o : Option A) → o ≡ cond (test n) (Some (f n)) None
    → those_below (n + 1) test f ≡ those_below n test f ++ option_to_list o
those_below_step test f n o is =
    rw (each_below_more n (λ k. cond (test k) (f k ∷ []) []), is) (go (test n))
  where
    go : (b : Bool) → those_below n test f ++ cond b (f n ∷ []) [] ≡ those_below n test f ++ option_to_list (cond b (Some (f n)) None)
    go true = refl
    go false = refl

-- an element for each number
module _ {A : Type 0} (g : ℕ → A) where
  pub length_singles : (n : ℕ) → length (each_below n (λ k. g k ∷ [])) ≡ n
  unfolding each_below
  length_singles zero = refl
  length_singles (suc n) = rw (length-append, length_singles n) (omega arith)

  pub singles_at : (n k : ℕ) (d : A) → k < n → get_or (each_below n (λ i. g i ∷ [])) k d ≡ g k
  unfolding each_below
  singles_at zero k d h = absurd (omega arith)
  singles_at (suc n) k d h = elim (cases_lt k n) [
    | inl l ↦ get_or_append_left (each_below n (λ i. g i ∷ [])) (g n ∷ []) d k (rw (length_singles n) l) ∙ singles_at n k d l
    | inr l ↦
        let same : k ≡ n = omega arith in
        rw same (subst (λ m. get_or (each_below n (λ i. g i ∷ []) ++ g n ∷ []) m d ≡ g n) (length_singles n)
        (get_or-append_seam (each_below n (λ i. g i ∷ [])) (g n) [] d))
  ]

-- what the list of those that pass a test contains
module _ {A : Type 0} (test : ℕ → Bool) (f : ℕ → A) where
  step_contains : (b : Bool) (n : ℕ) → b ≡ true → Contains (cond b (f n ∷ []) []) (f n)
  step_contains true n is = (0, omega arith, refl)
  step_contains false n is = cc

  contained_step : (b : Bool) (n : ℕ) (x : A) → Contains (cond b (f n ∷ []) []) x → (b ≡ true) × (x ≡ f n)
  contained_step true n x c =
      let first : c.0 ≡ 0 = omega (arith, c.1) in
      (refl, sym c.2 ∙ ap (λ k. get_or (f n ∷ []) k x) first)
  contained_step false n x c = absurd (omega (arith, c.1))

  pub those_contain : (n k : ℕ) → k < n → test k ≡ true → Contains (those_below n test f) (f k)
  unfolding each_below
  those_contain zero k h is = absurd (omega arith)
  those_contain (suc n) k h is = elim (cases_lt k n) [
    | inl l ↦ Contains-append_left (those_below n test f) (cond (test n) (f n ∷ []) []) (f k) (those_contain n k l is)
    | inr l ↦
        let same : k ≡ n = omega arith in
        rw same (Contains-append_right (those_below n test f) (cond (test n) (f n ∷ []) []) (f n)
        (step_contains (test n) n (ap test (sym same) ∙ is)))
  ]

  pub contained_those : (n : ℕ) (x : A) → Contains (those_below n test f) x → (k : ℕ) × (k < n) × (test k ≡ true) × (x ≡ f k)
  unfolding each_below
  contained_those zero x c = absurd (omega (arith, c.1))
  contained_those (suc n) x c = elim (Contains-append_cases (those_below n test f) (cond (test n) (f n ∷ []) []) x c) [
    | inl l ↦ let r = contained_those n x l in (r.0, omega (arith, r.1), r.2, r.3)
    | inr l ↦ let r = contained_step (test n) n x l in (n, omega arith, r.0, r.1)
  ]

-- what holds of each two of those that pass a test
module _ {A : Type 0} (R : A → A → Type 0) (test : ℕ → Bool) (f : ℕ → A) where
  pairs_step :
      (xs : List A) (b : Bool) (x : A) → AllPairs R xs → ((k : ℕ) (d : A) → b ≡ true → k < length xs → R (get_or xs k d) x)
      → AllPairs R (xs ++ cond b (x ∷ []) [])
  pairs_step xs true x pairs last = all_pairs_push R xs x pairs (λ k d h. last k d refl h)
  pairs_step xs false x pairs last = rw append-nil pairs

  pub those_pairs :
      (n : ℕ) → ((j k : ℕ) → j < k → k < n → test j ≡ true → test k ≡ true → R (f j) (f k))
      → AllPairs R (those_below n test f)
  unfolding each_below
  those_pairs zero each = λ i j d h l. absurd (omega arith)
  those_pairs (suc n) each =
      pairs_step (those_below n test f) (test n) (f n) (those_pairs n (λ j k h l. each j k h (omega arith)))
      (λ i d is h.
      let among = contained_those test f n _ (Contains-get_or (those_below n test f) i d h) in
      subst (λ x. R x (f n)) (sym among.3) (each among.0 n among.1 (omega arith) among.2 is))

-- at most all numbers pass a test
module _ {A : Type 0} (test : ℕ → Bool) (f : ℕ → A) where
  one_more : (b : Bool) (n : ℕ) → length (cond b (f n ∷ []) []) ≤ 1
  one_more true n = omega arith
  one_more false n = omega arith

  pub length_those : (n : ℕ) → length (those_below n test f) ≤ n
  unfolding each_below
  length_those zero = omega arith
  length_those (suc n) =
      omega (arith, length_those n, one_more (test n) n, length-append (those_below n test f) (cond (test n) (f n ∷ []) []))
