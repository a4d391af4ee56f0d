-- How many slots a search takes of a region that was cleared for it.
use Rattle.std.proofs.Common.{◌≡◌, suc, ◌-◌, ◌≤◌, ◌↔◌, inl, inr, ap, ◌∙◌, arith}
use Rattle.std.proofs.lemmas.Bool.{cases_lt}
use Rattle.std.specs.FinMap as map
use Rattle.std.specs.Ordering.{nat_cmp}
use Rattle.ci_region.specs.BoundedMap.{BoundedMap, used}
use Rattle.ci_cut.specs.declared.graph.Limits.{Limits}
use Rattle.ci_cut.specs.FlowGraph.{FlowGraph}
use Rattle.ci_cut.specs.Need.{IsNeed, IsOpen, NeedExceeds}
use Rattle.ci_cut.proofs.ListCountLaws.{AtLeast-fewer}
use Rattle.ci_log.specs.declared.flattening.LogNode.{LogNode}
use Rattle.ci_search.specs.declared.searching.Found.{Found}
use Rattle.ci_search.specs.Answered.{free, IsSpent}

module _ (before cleared : BoundedMap LogNode) (is : cleared ≡ record { values = map.empty; capacity = before.capacity }) where
  none_used : used cleared ≡ 0
  none_used = ap (λ (region : BoundedMap LogNode). used region) is ∙ map.len-empty nat_cmp LogNode

  -- all slots are free
  pub all_free : free cleared ≡ before.capacity
  all_free = omega (arith, none_used, ap (λ (region : BoundedMap LogNode). region.capacity) is)

  -- and a tree takes no more than there are
  pub few_used :
      (graph : FlowGraph) (limits : Limits) (after : BoundedMap LogNode) (found : Found)
      → IsSpent found ↔ NeedExceeds graph limits (free cleared)
      → (¬ IsSpent found → IsNeed graph limits (used after - used cleared)) → ¬ IsSpent found
      → used after ≤ before.capacity
  few_used graph limits after found spent need unspent = elim (cases_lt before.capacity (used after)) [
    | inl more ↦
        absurd (unspent (spent.1 (AtLeast-fewer (IsOpen graph limits) (need unspent).at_least (suc (free cleared))
        (omega (arith, none_used, all_free)))))
    | inr few ↦ few
  ]
