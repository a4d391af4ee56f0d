-- An accepted log shows that no pair is better than the best.
use Rattle.std.proofs.Common.{◌≡◌, ℕ, zero, suc, ◌<◌, ◌≤◌, false, ◌⊎◌, inl, inr, List, [], ◌∷◌, ◌++◌, length}
use Rattle.std.proofs.Common.{refl, sym, ap, ◌∙◌, arith, ℤ, pos, ◌≤ℤ◌, ◌<ℤ◌, subst, Some, None, MatchOption}
use Rattle.std.proofs.lemmas.Bool.{cases_Bool, cases_eq}
use Rattle.std.proofs.lemmas.Int.{ints}
use Rattle.std.specs.List.{AllByRecursion}
use Rattle.ci_cut.specs.declared.graph.Limits.{Limits}
use Rattle.ci_cut.specs.FlowGraph.{FlowGraph}
use Rattle.ci_cut.specs.GraphRules.{IsFlowGraph}
use Rattle.ci_cut.proofs.PrefixLaws.{eligible_below}
use Rattle.ci_cut.proofs.FirstWrongLaws.{all_left, all_right}
use Rattle.ci_cut.proofs.NeedLaws.{compare_gains}
use Rattle.ci_pair.specs.declared.log.PairItem.{PairItem}
use Rattle.ci_pair.specs.declared.log.PairItem.TheVariants.{B, O, C, I, X, M, G, F}
use Rattle.ci_pair.specs.Pairs.{NodePair, FitTogether, pair_gain, IsSamePair, ComesBefore, IsBestPair, HasNoPair, Label, First, Second, Out, label_of, label, rank}
use Rattle.ci_pair.specs.Prefixes.{PairPrefix}
use Rattle.ci_pair.specs.Trees.{IsLeaf, IsTree, leaf, branch}
use Rattle.ci_pair.specs.Rules.{Given, best_gain, IsGood, IsAfterBest, IsBeforeBest, IsBetter, IsRight, stations, IsRightAt, IsAccepted}
use Rattle.ci_pair.specs.private.Reached.{Completes}
use Rattle.ci_pair.proofs.PrefixLaws.{cases_label, completes_none, completes_more, whole_pair, next_there}
use Rattle.ci_pair.proofs.PrefixLaws.{not_both_greatest, stays_mirrored, stays_crossing, before_completions}
use Rattle.ci_pair.proofs.BoundLaws.{pair_bound, first_bounded, second_bounded}

-- ---- the order of pairs

order_of : (l m : Label) → (l ≡ m) ⊎ ((rank l < rank m) ⊎ (rank m < rank l))
order_of First First = inl refl
order_of First Second = inr (inl (omega arith))
order_of First Out = inr (inl (omega arith))
order_of Second First = inr (inr (omega arith))
order_of Second Second = inl refl
order_of Second Out = inr (inl (omega arith))
order_of Out First = inr (inr (omega arith))
order_of Out Second = inr (inr (omega arith))
order_of Out Out = inl refl

-- pairs with the same labels from some number on are one, or one of them comes before the other
pub compare_pairs : (n : ℕ) (p q : NodePair) → ((k : ℕ) → n ≤ k → label p k ≡ label q k)
    → IsSamePair p q ⊎ (ComesBefore p q ⊎ ComesBefore q p)
compare_pairs zero p q same = inl (λ k. same k (omega arith))
compare_pairs (suc n) p q same = elim (order_of (label p n) (label q n)) [
  | inl here ↦ compare_pairs n p q (λ k from. elim (cases_eq k n) [
    | inl last ↦ ap (label p) last ∙ here ∙ sym (ap (label q) last)
    | inr other ↦ same k (omega arith)
  ])
  | inr (inl less) ↦ inr (inl (record { place = n; earlier = less; same_above = λ k above. same k (omega arith) }))
  | inr (inr more) ↦ inr (inr (record { place = n; earlier = more; same_above = λ k above. sym (same k (omega arith)) }))
]

-- ---- pairs that are no better

less_than : {a b c : ℤ} → a ≤ℤ b → b <ℤ c → a <ℤ c
less_than h k = omega (arith, ints)

-- the pair is the best, or comes after it
abbrev IsNotBefore : Given → NodePair → Type 0
IsNotBefore None pair = Unit {0}
IsNotBefore (Some best) pair = IsSamePair best pair ⊎ ComesBefore best pair

-- the pair gains less than the best, or as much and is not before it
abbrev IsNoBetter : FlowGraph → Given → NodePair → Type 0
IsNoBetter graph best pair =
    (pair_gain graph pair <ℤ best_gain graph best) ⊎ ((pair_gain graph pair ≡ best_gain graph best) × IsNotBefore best pair)

module _ (graph : FlowGraph) (flows : IsFlowGraph graph) (limits : Limits) where
  not_before : (best : Given) (prefix : PairPrefix) (pair : NodePair) → IsAfterBest graph best prefix → Completes graph prefix pair → IsNotBefore best pair
  not_before None prefix pair after goes = tt
  not_before (Some best) prefix pair after goes = inr (before_completions graph prefix pair goes best after)

  -- past the nodes all are in no set
  out_past : (pair : NodePair) → FitTogether graph limits pair → (k : ℕ) → length graph.nodes ≤ k → label pair k ≡ Out
  out_past pair fit k past =
      let first : pair.first k ≡ false = elim (cases_Bool (pair.first k)) [
        | inl here ↦ absurd (omega (arith, eligible_below graph k (fit.first_fits.eligible k here)))
        | inr out ↦ out
      ] in
      let second : pair.second k ≡ false = elim (cases_Bool (pair.second k)) [
        | inl here ↦ absurd (omega (arith, eligible_below graph k (fit.second_fits.eligible k here)))
        | inr out ↦ out
      ] in
      λ i. label_of (first i) (second i)

  -- a pair that fits together and isn't better
  from_not_better : (best : Given) (pair : NodePair) → IsGood graph limits best → FitTogether graph limits pair
      → ¬ IsBetter graph limits best pair → IsNoBetter graph best pair
  from_not_better best pair good fit not_better = elim (compare_gains (pair_gain graph pair) (best_gain graph best)) [
    | inl less ↦ inl less
    | inr (inr more) ↦ absurd (not_better (record { fit = fit; more = inl more }))
    | inr (inl same) ↦ inr (same, by_order best good (λ before. not_better (record { fit = fit; more = inr (sym same, before) })))
  ]
    where
      by_order : (best : Given) → IsGood graph limits best → ¬ IsBeforeBest best pair → IsNotBefore best pair
      by_order None good not_first = tt
      by_order (Some best) good not_first =
          elim (compare_pairs (length graph.nodes) best pair (λ k past. out_past best good.0 k past ∙ sym (out_past pair fit k past))) [
            | inl same ↦ inl same
            | inr (inl first) ↦ inr first
            | inr (inr second) ↦ absurd (not_first second)
          ]

  module _ (best : Given) (good : IsGood graph limits best) (pair : NodePair) (fit : FitTogether graph limits pair) where
    at_leaf : (item : PairItem) → IsLeaf item → (prefix : PairPrefix) → IsRight graph limits best prefix item → Completes graph prefix pair
        → IsNoBetter graph best pair
    at_leaf B is prefix right goes = absurd is
    at_leaf O is prefix (inl first) goes = absurd (omega (arith, first, (first_bounded graph flows prefix pair goes limits fit).outputs_within))
    at_leaf O is prefix (inr second) goes = absurd (omega (arith, second, (second_bounded graph flows prefix pair goes limits fit).outputs_within))
    at_leaf C is prefix right goes =
        absurd (right ((first_bounded graph flows prefix pair goes limits fit).convex, (second_bounded graph flows prefix pair goes limits fit).convex))
    at_leaf I is prefix (inl first) goes = absurd (omega (arith, first, (first_bounded graph flows prefix pair goes limits fit).inputs_within))
    at_leaf I is prefix (inr second) goes = absurd (omega (arith, second, (second_bounded graph flows prefix pair goes limits fit).inputs_within))
    at_leaf X is prefix right goes = absurd (fit.uncrossed (stays_crossing graph prefix pair goes right))
    at_leaf M is prefix right goes = absurd (not_both_greatest pair.first pair.second fit.has_greatest (stays_mirrored graph prefix pair goes right))
    at_leaf G is prefix (inl less) goes = inl (less_than (pair_bound graph flows prefix pair goes) less)
    at_leaf G is prefix (inr (same, after)) goes = elim (compare_gains (pair_gain graph pair) (best_gain graph best)) [
      | inl less ↦ inl less
      | inr (inl equal) ↦ inr (equal, not_before best prefix pair after goes)
      | inr (inr more) ↦ absurd (too_much (pair_bound graph flows prefix pair goes) same more)
    ]
      where
        too_much : {a b c : ℤ} → a ≤ℤ b → b ≡ c → c <ℤ a → ⊥
        too_much h k m = omega (arith, ints)
    at_leaf F is prefix (whole, not_better) goes =
        from_not_better best pair good fit
        (subst (λ p. ¬ IsBetter graph limits best p) (sym (whole_pair graph prefix pair whole goes)) not_better)

    -- a pair that goes on from a tree's prefix is followed down to a leaf
    pub no_better : {items : List PairItem} (tree : IsTree items) (prefix : PairPrefix)
        → AllByRecursion (IsRightAt graph limits best) (stations tree prefix) → Completes graph prefix pair
        → IsNoBetter graph best pair
    no_better (leaf {item = item} is) prefix right goes = at_leaf item is prefix right.0 goes
    no_better (branch first second out) prefix right goes =
        let next = next_there graph prefix right.0 in
        let behind = all_right (IsRightAt graph limits best) (stations first (First ∷ prefix)) _ right.1 in
        elim (cases_label (label pair next.0)) [
          | inl is ↦ no_better first (First ∷ prefix)
              (all_left (IsRightAt graph limits best) _ (stations second (Second ∷ prefix) ++ stations out (Out ∷ prefix)) right.1)
              (completes_more graph prefix pair next.0 First goes next.1 is)
          | inr (inl is) ↦ no_better second (Second ∷ prefix)
              (all_left (IsRightAt graph limits best) _ (stations out (Out ∷ prefix)) behind)
              (completes_more graph prefix pair next.0 Second goes next.1 is)
          | inr (inr is) ↦ no_better out (Out ∷ prefix)
              (all_right (IsRightAt graph limits best) (stations second (Second ∷ prefix)) _ behind)
              (completes_more graph prefix pair next.0 Out goes next.1 is)
        ]

  from_start : (pair : NodePair) → FitTogether graph limits pair → Completes graph [] pair
  from_start pair fit = completes_none graph pair fit.first_fits.eligible fit.second_fits.eligible fit.disjoint

  -- an accepted log implies that the pair is best, or that there is none
  pub accepted_is_best : (best : Given) (items : List PairItem) → IsAccepted graph limits best items
      → MatchOption best (HasNoPair graph limits) (IsBestPair graph limits)
  accepted_is_best None items accepted =
      λ pair fit. none_more pair (no_better None accepted.good pair fit accepted.tree [] accepted.right (from_start pair fit))
    where
      none_more : (pair : NodePair) → IsNoBetter graph None pair → pair_gain graph pair ≤ℤ pos 0
      none_more pair (inl less) = omega (arith, ints)
      none_more pair (inr (same, _)) = omega (arith, ints)
  accepted_is_best (Some best) items accepted = record {
    fit = accepted.good.0;
    positive = accepted.good.1;
    best = λ other fit. no_better (Some best) accepted.good other fit accepted.tree [] accepted.right (from_start other fit);
  }
