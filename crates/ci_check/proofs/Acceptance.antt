-- An accepted log shows that no set that fits is better than the best cut.
use Rattle.std.proofs.Common.{◌≡◌, ℕ, ◌<◌, ◌≤◌, Bool, true, false, not, ◌⊎◌, inl, inr, List, [], ◌∷◌, ◌++◌, length, sym}
use Rattle.std.proofs.Common.{◌∙◌, arith, ℤ, pos, ◌≤ℤ◌, ◌<ℤ◌, subst, Some, None, MatchOption}
use Rattle.std.proofs.lemmas.Bool.{cases_Bool}
use Rattle.std.proofs.lemmas.Int.{ints}
use Rattle.std.specs.List.{AllByRecursion}
use Rattle.std.specs.FinSet as set
use Rattle.ci_cut.specs.declared.graph.Limits.{Limits}
use Rattle.ci_cut.specs.FlowGraph.{FlowGraph}
use Rattle.ci_cut.specs.GraphRules.{IsFlowGraph}
use Rattle.ci_cut.specs.Gain.{Fits, gain}
use Rattle.ci_cut.specs.Best.{ComesBefore, IsSameSet, IsBest, HasNoCut}
use Rattle.ci_log.specs.declared.log.Item.{Item}
use Rattle.ci_log.specs.declared.log.Item.TheVariants.{B, O, C, I, G, F}
use Rattle.ci_log.specs.Trees.{IsLeaf, IsTree, leaf, branch}
use Rattle.ci_cut.specs.Prefixes.{Prefix, taken, IsBefore}
use Rattle.ci_check.specs.Rules.{Given, best_gain, IsGood, IsAfterBest, IsBeforeBest, IsBetter, IsRight, stations, IsRightAt, IsAccepted}
use Rattle.ci_cut.specs.private.Reached.{Completes}
use Rattle.ci_cut.proofs.PrefixLaws.{same_test, eligible_below, next_exists, decided_above, possible_parts, completes_none, completes_more, whole_choice}
use Rattle.ci_cut.proofs.BoundLaws.{completion_bound, completion_bounded}
use Rattle.ci_cut.proofs.FirstWrongLaws.{all_left, all_right}
use Rattle.ci_cut.proofs.SetOrder.{compare_sets}
use Rattle.ci_cut.proofs.NeedLaws.{compare_gains}

-- ---- integers

less_than : {a b c : ℤ} → a ≤ℤ b → b <ℤ c → a <ℤ c
less_than h k = omega (arith, ints)

-- ---- sets that are no better

-- the set is the best cut, or comes after it
abbrev IsNotBefore : Given → (ℕ → Bool) → Type 0
IsNotBefore None cut = Unit {0}
IsNotBefore (Some best) cut = IsSameSet (set.contains best) cut ⊎ ComesBefore (set.contains best) cut

-- the set gains less than the best cut, or as much and is not before it
abbrev IsNoBetter : FlowGraph → Given → (ℕ → Bool) → Type 0
IsNoBetter graph best cut = (gain graph cut <ℤ best_gain graph best) ⊎ ((gain graph cut ≡ best_gain graph best) × IsNotBefore best cut)

module _ (graph : FlowGraph) (flows : IsFlowGraph graph) (limits : Limits) where
  -- a set that comes before a prefix comes before each set that goes on from it
  pub before_completions : (cut other : ℕ → Bool) (prefix : Prefix) → IsBefore graph cut prefix → Completes graph prefix other → ComesBefore cut other
  before_completions cut other prefix before goes = record {
    place = before.node;
    in_first = before.in_cut;
    not_in_second = out_of_other (cases_Bool (other before.node));
    same_above = λ k above. before.same_above k above ∙ same k above;
  }
    where
      out_of_other : (other before.node ≡ true) ⊎ (other before.node ≡ false) → other before.node ≡ false
      out_of_other (inl here) = absurd ((possible_parts graph prefix before.node (goes.within before.node here)).1 before.out_of_prefix)
      out_of_other (inr out) = out

      same : (k : ℕ) → before.node < k → taken graph prefix k ≡ other k
      same k above = same_test (taken graph prefix k) (other k) (goes.has k) (λ here.
          let parts = possible_parts graph prefix k (goes.within k here) in
          elim (decided_above graph not prefix before.node k before.out_of_prefix (omega arith) parts.0) [ inl in_ ↦ in_ | inr out ↦ absurd (parts.1 out) ])

  not_before : (best : Given) (prefix : Prefix) (cut : ℕ → Bool) → IsAfterBest graph best prefix → Completes graph prefix cut → IsNotBefore best cut
  not_before None prefix cut after goes = tt
  not_before (Some best) prefix cut after goes = inr (before_completions (set.contains best) cut prefix after goes)

  fits_nodes : (cut : ℕ → Bool) → Fits graph limits cut → (k : ℕ) → length graph.nodes ≤ k → cut k ≡ false
  fits_nodes cut fits k past = elim (cases_Bool (cut k)) [
    | inl here ↦ absurd (omega (arith, eligible_below graph k (fits.eligible k here)))
    | inr out ↦ out
  ]

  -- a set that fits and isn't a better cut
  from_not_better : (best : Given) (cut : ℕ → Bool) → IsGood graph limits best → Fits graph limits cut
      → ¬ IsBetter graph limits best cut → IsNoBetter graph best cut
  from_not_better best cut good fits not_better = elim (compare_gains (gain graph cut) (best_gain graph best)) [
    | inl less ↦ inl less
    | inr (inr more) ↦ absurd (not_better (record { fits = fits; more = inl more }))
    | inr (inl same) ↦ inr (same, by_order best good (λ before. not_better (record { fits = fits; more = inr (sym same, before) })))
  ]
    where
      by_order : (best : Given) → IsGood graph limits best → ¬ IsBeforeBest best cut → IsNotBefore best cut
      by_order None good not_first = tt
      by_order (Some best) good not_first =
          elim (compare_sets (length graph.nodes) (set.contains best) cut
          (λ k past. fits_nodes (set.contains best) good.0 k past ∙ sym (fits_nodes cut fits k past))) [
            | inl same ↦ inl same
            | inr (inl first) ↦ inr first
            | inr (inr second) ↦ absurd (not_first second)
          ]

  module _ (best : Given) (good : IsGood graph limits best) (cut : ℕ → Bool) (fits : Fits graph limits cut) where
    at_leaf : (item : Item) → IsLeaf item → (prefix : Prefix) → IsRight graph limits best prefix item → Completes graph prefix cut → IsNoBetter graph best cut
    at_leaf B is prefix right goes = absurd is
    at_leaf O is prefix right goes = absurd (omega (arith, right, (completion_bounded graph flows prefix cut goes limits fits).outputs_within))
    at_leaf C is prefix right goes = absurd (right (completion_bounded graph flows prefix cut goes limits fits).convex)
    at_leaf I is prefix right goes = absurd (omega (arith, right, (completion_bounded graph flows prefix cut goes limits fits).inputs_within))
    at_leaf G is prefix (inl less) goes = inl (less_than (completion_bound graph flows prefix cut goes) less)
    at_leaf G is prefix (inr (same, after)) goes = elim (compare_gains (gain graph cut) (best_gain graph best)) [
      | inl less ↦ inl less
      | inr (inl equal) ↦ inr (equal, not_before best prefix cut after goes)
      | inr (inr more) ↦ absurd (too_much (completion_bound graph flows prefix cut goes) same more)
    ]
      where
        too_much : {a b c : ℤ} → a ≤ℤ b → b ≡ c → c <ℤ a → ⊥
        too_much h k m = omega (arith, ints)
    at_leaf F is prefix (whole, not_better) goes =
        let same : cut ≡ taken graph prefix = λ i k. whole_choice graph prefix cut whole goes k i in
        from_not_better best cut good fits (subst (λ s. ¬ IsBetter graph limits best s) (sym same) not_better)

    -- a set that goes on from a tree's prefix is followed down to a leaf
    pub no_better : {items : List Item} (tree : IsTree items) (prefix : Prefix)
        → AllByRecursion (IsRightAt graph limits best) (stations tree prefix) → Completes graph prefix cut
        → IsNoBetter graph best cut
    no_better (leaf {item = item} is) prefix right goes = at_leaf item is prefix right.0 goes
    no_better (branch first second) prefix right goes =
        let next = next_exists graph prefix right.0 in
        elim (cases_Bool (cut next.0)) [
          | inl in_ ↦ no_better first (true ∷ prefix)
              (all_left (IsRightAt graph limits best) _ (stations second (false ∷ prefix)) right.1)
              (completes_more graph prefix cut next.0 true goes next.1 in_)
          | inr out ↦ no_better second (false ∷ prefix)
              (all_right (IsRightAt graph limits best) (stations first (true ∷ prefix)) _ right.1)
              (completes_more graph prefix cut next.0 false goes next.1 out)
        ]

  -- an accepted log implies that the cut is best, or that there is none
  pub accepted_is_best : (best : Given) (items : List Item) → IsAccepted graph limits best items
      → MatchOption best (HasNoCut graph limits) (λ cut. IsBest graph limits (set.contains cut))
  accepted_is_best None items accepted =
      λ cut fits. none_more cut (no_better None accepted.good cut fits accepted.tree [] accepted.right (completes_none graph cut fits.eligible))
    where
      none_more : (cut : ℕ → Bool) → IsNoBetter graph None cut → gain graph cut ≤ℤ pos 0
      none_more cut (inl less) = omega (arith, ints)
      none_more cut (inr (same, _)) = omega (arith, ints)
  accepted_is_best (Some best) items accepted = record {
    fits = accepted.good.0;
    positive = accepted.good.1;
    best = λ other fits. no_better (Some best) accepted.good other fits accepted.tree [] accepted.right (completes_none graph other fits.eligible);
  }
