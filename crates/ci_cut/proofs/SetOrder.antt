-- The order of sets of nodes.
use Rattle.std.proofs.Common.{◌≡◌, ℕ, zero, suc, ◌<◌, ◌≤◌, Bool, true, false, ◌⊎◌, inl, inr, IsTrue, sym, ap, ◌∙◌, arith, true≢false}
use Rattle.std.proofs.lemmas.Bool.{cases_eq, cases_order, cases_Bool, false_from_ne_true}
use Rattle.ci_cut.specs.Best.{ComesBefore, ComesBeforeFrom, IsSameSet}

-- sets that are the same from some number on are one, or one of them comes before the other
pub compare_sets : (n : ℕ) (s t : ℕ → Bool) → ((k : ℕ) → n ≤ k → s k ≡ t k) → IsSameSet s t ⊎ (ComesBefore s t ⊎ ComesBefore t s)
compare_sets zero s t same = inl (λ k. same k (omega arith))
compare_sets (suc n) s t same = elim (cases_Bool (s n)) [
  | inl s_in ↦ elim (cases_Bool (t n)) [
    | inl t_in ↦ compare_sets n s t (one_more (s_in ∙ sym t_in))
    | inr t_out ↦ inr (inl (record { place = n; in_first = s_in; not_in_second = t_out; same_above = λ k above. same k (omega arith) }))
  ]
  | inr s_out ↦ elim (cases_Bool (t n)) [
    | inl t_in ↦ inr (inr (record { place = n; in_first = t_in; not_in_second = s_out; same_above = λ k above. sym (same k (omega arith)) }))
    | inr t_out ↦ compare_sets n s t (one_more (s_out ∙ sym t_out))
  ]
]
  where
    one_more : s n ≡ t n → (k : ℕ) → n ≤ k → s k ≡ t k
    one_more here k from = elim (cases_eq k n) [ inl last ↦ ap s last ∙ here ∙ sym (ap t last) | inr other ↦ same k (omega arith) ]

-- ---- the greatest number that only the first set has

module _ (first second : ℕ → Bool) (from : ℕ) where
  pub none_before : ((k : ℕ) → IsTrue (first k) → ¬ IsTrue (second k) → ⊥) → ComesBeforeFrom from first second → ⊥
  none_before none (before, down) = none before.place before.in_first (λ in_. true≢false (sym in_ ∙ before.not_in_second))

  module _ (place : ℕ) (in_ : IsTrue (first place)) (out : ¬ IsTrue (second place))
      (most : (k : ℕ) → IsTrue (first k) → ¬ IsTrue (second k) → k ≤ place) where
    most_before : (before : ComesBefore first second) → before.place ≤ place
    most_before before = most before.place before.in_first (λ also. true≢false (sym also ∙ before.not_in_second))

    pub too_low : place < from → ComesBeforeFrom from first second → ⊥
    too_low below (before, down) = omega (arith, most_before before)

    -- it comes before if what only the second set has lies below
    pub before_if_below : from ≤ place → ((k : ℕ) → IsTrue (second k) → ¬ IsTrue (first k) → k < place) → ComesBeforeFrom from first second
    before_if_below down below = (
      record {
        place = place;
        in_first = in_;
        not_in_second = false_from_ne_true (second place) out;
        same_above = λ k above. by_cases k above (cases_Bool (first k)) (cases_Bool (second k));
      },
      down,
    )
      where
        by_cases : (k : ℕ) → place < k → (first k ≡ true) ⊎ (first k ≡ false) → (second k ≡ true) ⊎ (second k ≡ false) → first k ≡ second k
        by_cases k above (inl yes_) (inl also) = yes_ ∙ sym also
        by_cases k above (inl yes_) (inr no_) = absurd (omega (arith, most k yes_ (λ also. true≢false (sym also ∙ no_))))
        by_cases k above (inr no_) (inl also) = absurd (omega (arith, below k also (λ yes_. true≢false (sym yes_ ∙ no_))))
        by_cases k above (inr no_) (inr neither) = no_ ∙ sym neither

    pub below_if_before : (other : ℕ) → IsTrue (second other) → ¬ IsTrue (first other) → ComesBeforeFrom from first second → other < place
    below_if_before other also not_first (before, down) = elim (cases_order other before.place) [
      | inl same ↦ absurd (true≢false (sym also ∙ ap second same ∙ before.not_in_second))
      | inr (inl lower) ↦ omega (arith, most_before before)
      | inr (inr higher) ↦ absurd (not_first (before.same_above other higher ∙ also))
    ]
