-- The list of the numbers below a bound that pass a test: which number stands at a place, and lists made of it one by one.
use Rattle.std.proofs.Common.{◌≡◌, ℕ, zero, suc, ◌+◌, ◌<◌, Bool, false, IsTrue, if◌then◌else◌, List, [], ◌∷◌, ◌++◌, map}
use Rattle.std.specs.Prelude.{true, ◌==◌, nat_lt, length, slice_index}
use Rattle.std.specs.List.{list_any}
use Rattle.std.proofs.Common.{get_or, subst, sym, ap, ◌∙◌, inl, inr, arith, add-one}
use Rattle.std.proofs.lemmas.Bool.{cases_lt, cases_Bool, or_from, and_from, lt-ltb}
use Rattle.std.proofs.lemmas.List.{map-append, append-nil}
use Rattle.std.proofs.Math.ListN.{get_or-append}
use Rattle.std.proofs.Math.Seq.{get_or-append_seam}
use Rattle.ci_word.specs.Numbers.{numbers_below, count_below, some_below}
use Rattle.ci_word.proofs.NumberLaws.{some_below-suc, numbers_below-suc, count_below-zero, length-numbers_below, list_any-numbers_below}
use Rattle.ci_cut.proofs.RisingCounts.{count_below-one, count_below-skip, count_below-more, count_below-rises}

module _ (p : ℕ → Bool) where
  listed_here : (k : ℕ) → IsTrue (p k) → numbers_below (suc k) p ≡ numbers_below k p ++ k ∷ []
  listed_here k here = numbers_below-suc k p ∙ ap (λ b. numbers_below k p ++ (if b then k ∷ [] else [])) here

  listed_elsewhere : (k : ℕ) → p k ≡ false → numbers_below (suc k) p ≡ numbers_below k p
  listed_elsewhere k fails =
      numbers_below-suc k p ∙ ap (λ b. numbers_below k p ++ (if b then k ∷ [] else [])) fails ∙ append-nil (numbers_below k p)

  -- ---- the number at a place

  -- it passes, and as many as the place come before it
  pub record IsNumberAt (n j k : ℕ) : Type 0 where
    pub below : k < n
    pub passes : IsTrue (p k)
    pub counted : count_below k p ≡ j
    pub there : (d : ℕ) → get_or (numbers_below n p) j d ≡ k

  later_number : (n j k : ℕ) → j < count_below n p → IsNumberAt n j k → IsNumberAt (suc n) j k
  later_number n j k within is =
      record {
        below = omega (arith, is.below);
        passes = is.passes;
        counted = is.counted;
        there = λ d. elim (cases_Bool (p n)) [
          | inl here ↦
              ap (λ (l : List ℕ). get_or l j d) (listed_here n here)
              ∙ get_or-append (numbers_below n p) (n ∷ []) d j (omega (arith, within, length-numbers_below n p))
              ∙ is.there d
          | inr fails ↦ ap (λ (l : List ℕ). get_or l j d) (listed_elsewhere n fails) ∙ is.there d
        ];
      }

  last_number : (n j : ℕ) → IsTrue (p n) → j ≡ count_below n p → IsNumberAt (suc n) j n
  last_number n j here last =
      record {
        below = omega arith;
        passes = here;
        counted = sym last;
        there = λ d.
            ap (λ (l : List ℕ). get_or l j d) (listed_here n here)
            ∙ ap (λ (i : ℕ). get_or (numbers_below n p ++ n ∷ []) i d) (last ∙ sym (length-numbers_below n p))
            ∙ get_or-append_seam (numbers_below n p) n [] d;
      }

  pub number_at : (n j : ℕ) → j < count_below n p → (k : ℕ) × IsNumberAt n j k
  number_at zero j within = absurd (omega (arith, within, count_below-zero p))
  number_at (suc n) j within = elim (cases_lt j (count_below n p)) [
    | inl earlier ↦ let before = number_at n j earlier in (before.0, later_number n j before.0 earlier before.1)
    | inr past ↦ elim (cases_Bool (p n)) [
      | inl here ↦ (n, last_number n j here (omega (arith, within, count_below-one p n here)))
      | inr fails ↦ absurd (omega (arith, within, count_below-skip p n fails))
    ]
  ]

  -- numbers that pass with as many below them are one
  pub same_count : (j k : ℕ) → IsTrue (p j) → IsTrue (p k) → count_below j p ≡ count_below k p → j ≡ k
  same_count j k one other same = elim (cases_lt j k) [
    | inl before ↦ absurd (omega (arith, count_below-more p j k one before, same))
    | inr from ↦ elim (cases_lt k j) [
      | inl behind ↦ absurd (omega (arith, count_below-more p k j other behind, same))
      | inr back ↦ omega arith
    ]
  ]

  -- so a number that passes stands at the place of as many as are below it
  pub number_there : (n k d : ℕ) → k < n → IsTrue (p k) → get_or (numbers_below n p) (count_below k p) d ≡ k
  number_there n k d below passes =
      let found = number_at n (count_below k p) (omega (arith, count_below-more p k n passes below)) in
      found.1.there d ∙ same_count found.0 k found.1.passes passes found.1.counted

  -- ---- the list, where it is known

  module _ (n : ℕ) (numbers : List ℕ) (same : numbers_below n p ≡ numbers) where
    pub passes_there : (i : ℕ) → i < length numbers → IsTrue (p (slice_index numbers i))
    passes_there i within =
        let count : count_below n p ≡ length numbers = sym (length-numbers_below n p) ∙ ap length same in
        let found = number_at n i (omega (arith, count)) in
        subst (λ k. IsTrue (p k)) (sym (found.1.there 0) ∙ ap (λ (l : List ℕ). get_or l i 0) same) found.1.passes

  -- ---- a list made of those below k, and one step more

  module _ {X : Type 0} (f : ℕ → X) (k : ℕ) (items : List X) (so_far : items ≡ map f (numbers_below k p)) where
    pub made_here : (x : X) → IsTrue (p k) → x ≡ f k → items ++ x ∷ [] ≡ map f (numbers_below (k + 1) p)
    made_here x here is =
        (λ i. so_far i ++ is i ∷ [])
        ∙ sym (map-append f (numbers_below k p) (k ∷ []))
        ∙ ap (map f) (sym (listed_here k here) ∙ ap (λ n. numbers_below n p) (sym (add-one k)))

    pub not_made : p k ≡ false → items ≡ map f (numbers_below (k + 1) p)
    not_made fails = so_far ∙ ap (map f) (sym (listed_elsewhere k fails) ∙ ap (λ n. numbers_below n p) (sym (add-one k)))

-- where none below k passes, and k doesn't, none below the next number does
pub none_more : (p : ℕ → Bool) (k : ℕ) → some_below k p ≡ false → p k ≡ false → some_below (k + 1) p ≡ false
none_more p k before last =
    ap (λ n. some_below n p) (add-one k) ∙ some_below-suc k p ∙ or_from (some_below k p) (p k) before last
