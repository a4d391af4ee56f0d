-- What a search for pairs answers once it has passed all pairs.
use Rattle.std.proofs.Common.{◌≡◌, ℕ, zero, suc, ◌+◌, ◌*◌, ◌≤◌, ◌^◌, inl, List, [], ◌∷◌, ◌++◌, length, length-append, Option, Some, None, MatchOption, refl, sym, ap, subst, arith, pos}
use Rattle.std.specs.FinMap as map
use Rattle.ci_region.specs.BoundedMap.{BoundedMap}
use Rattle.ci_region.proofs.TreeLaws.{rest_is_kept}
use Rattle.ci_cut.specs.declared.graph.Limits.{Limits}
use Rattle.ci_cut.specs.FlowGraph.{FlowGraph}
use Rattle.ci_cut.specs.GraphRules.{IsFlowGraph}
use Rattle.ci_cut.specs.Prefixes.{eligible_nodes}
use Rattle.ci_cut.specs.ListCounts.{AtLeast}
use Rattle.ci_cut.proofs.ListCountLaws.{AtLeast-length}
use Rattle.ci_pair.specs.declared.flattening.PairChild.{PairChild}
use Rattle.ci_pair.specs.declared.flattening.PairNode.{PairNode}
use Rattle.ci_pair.specs.declared.pair.Pair.{Pair}
use Rattle.ci_pair.specs.declared.rules.PairIncumbent.{PairIncumbent}
use Rattle.ci_pair.specs.Answered.{free, HasLog, IsAnswer, IsSpent, IsOptimal}
use Rattle.ci_pair.specs.Pairs.{IsBestPair, HasNoPair, First, Second, Out}
use Rattle.ci_pair.specs.Prefixes.{PairPrefix, IsOpen, NeedExceeds, continuations}
use Rattle.ci_pair.specs.PairSets.{given}
use Rattle.ci_pair.specs.private.SearchTrees.{left, IsSearched, IsGivenUp, found_at, answer_of}
use Rattle.ci_pair.proofs.Acceptance.{accepted_is_best}

all_left : (graph : FlowGraph) → left graph [] ≡ eligible_nodes graph
all_left graph = omega arith

-- what is open from the start on is all that is open
pub needed : (graph : FlowGraph) (limits : Limits) (budget : ℕ)
    → AtLeast (IsOpen graph limits) (suc budget) (continuations (left graph []) []) → NeedExceeds graph limits budget
needed graph limits budget = subst (λ (n : ℕ). AtLeast (IsOpen graph limits) (suc budget) (continuations n [])) (all_left graph)

module _ (graph : FlowGraph) (flows : IsFlowGraph graph) (limits : Limits) (before after : BoundedMap PairNode) where
  -- the search of all pairs ended so, with this best one
  abbrev Ended : Option PairChild → PairIncumbent → Type 0
  Ended root best = MatchOption root (IsGivenUp graph limits before after)
      (IsSearched graph limits [] (record { pair = None; gain = pos 0 }) best before after)

  log_of : (root : PairChild) (best : PairIncumbent) → IsSearched graph limits [] (record { pair = None; gain = pos 0 }) best before after root
      → HasLog graph limits (given best.pair) before after root
  log_of root best is = record {
    items = is.items;
    tree = is.tree;
    accepted = record {
      good = is.logged.measured.good;
      tree = is.logged.tree;
      right = is.logged.right (given best.pair) (inl refl);
    };
  }

  answer_at : (pair : Option Pair) (root : PairChild) → HasLog graph limits (given pair) before after root → IsAnswer graph limits before after (found_at pair root)
  answer_at None root log = log
  answer_at (Some pair) root log = log

  pub answer_is : (root : Option PairChild) (best : PairIncumbent) (budget : ℕ) → budget ≡ free before → Ended root best
      → IsAnswer graph limits before after (answer_of root best.pair budget)
  answer_is None best budget is_free (same, found) = (is_free, same)
  answer_is (Some root) best budget is_free is = answer_at best.pair root (log_of root best is)

  not_spent : (pair : Option Pair) (root : PairChild) → ¬ IsSpent (found_at pair root)
  not_spent None root is = is
  not_spent (Some pair) root is = is

  pub spent_is : (root : Option PairChild) (best : PairIncumbent) (budget : ℕ) → Ended root best
      → IsSpent (answer_of root best.pair budget) → NeedExceeds graph limits (free before)
  spent_is None best budget (same, found) _ = found
  spent_is (Some root) best budget is spent = absurd (not_spent best.pair root spent)

  pub optimal_is : (root : Option PairChild) (best : PairIncumbent) (budget : ℕ) → Ended root best
      → IsOptimal graph limits (answer_of root best.pair budget)
  unfolding log_of
  optimal_is None best budget is = tt
  optimal_is (Some root) best budget is =
      by_pair best.pair (accepted_is_best graph flows limits (given best.pair) is.items (log_of root best is).accepted)
    where
      by_pair : (pair : Option Pair) → MatchOption (given pair) (HasNoPair graph limits) (IsBestPair graph limits)
          → IsOptimal graph limits (found_at pair root)
      by_pair None optimal = optimal
      by_pair (Some pair) optimal = optimal

  pub kept_is : (root : Option PairChild) (best : PairIncumbent) → Ended root best
      → (slot : ℕ) (node : PairNode) → map.get before.values slot ≡ Some node → map.get after.values slot ≡ Some node
  kept_is None best (same, found) slot node here = subst (λ (m : BoundedMap PairNode). map.get m.values slot ≡ Some node) (sym same) here
  kept_is (Some root) best is slot node here = rest_is_kept is.tree slot node here

  pub capacity_is : (root : Option PairChild) (best : PairIncumbent) → Ended root best → after.capacity ≡ before.capacity
  capacity_is None best (same, found) = ap (λ (m : BoundedMap PairNode). m.capacity) same
  capacity_is (Some root) best is = is.same_capacity

-- ---- how many slots are enough

-- a node more makes three times as many prefixes, and one
how_many : (undecided : ℕ) (prefix : PairPrefix) → 2 * length (continuations undecided prefix) + 1 ≡ 3 ^ undecided
unfolding continuations
how_many zero prefix = refl
how_many (suc undecided) prefix =
    let firsts : List PairPrefix = continuations undecided (First ∷ prefix) in
    let seconds : List PairPrefix = continuations undecided (Second ∷ prefix) in
    let outs : List PairPrefix = continuations undecided (Out ∷ prefix) in
    omega (
      arith,
      length-append firsts (seconds ++ outs),
      length-append seconds outs,
      how_many undecided (First ∷ prefix),
      how_many undecided (Second ∷ prefix),
      how_many undecided (Out ∷ prefix),
    )

pub enough : (graph : FlowGraph) (limits : Limits) (budget : ℕ) → 3 ^ eligible_nodes graph ≤ budget → ¬ NeedExceeds graph limits budget
enough graph limits budget fits exceeds =
    omega (arith, fits, AtLeast-length (IsOpen graph limits) exceeds, how_many (eligible_nodes graph) [])
