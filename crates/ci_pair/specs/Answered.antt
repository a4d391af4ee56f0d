-- What a search for pairs answers.
use Rattle.std.specs.Prelude.{◌≡◌, ℕ, ◌-◌, ◌^◌, ◌≤◌, List, Some, None}
use Rattle.std.specs.FinMap as map
use Rattle.ci_region.specs.BoundedMap.{BoundedMap, used}
use Rattle.ci_cut.specs.declared.graph.Limits.{Limits}
use Rattle.ci_cut.specs.FlowGraph.{FlowGraph}
use Rattle.ci_cut.specs.Prefixes.{eligible_nodes}
use Rattle.ci_pair.specs.declared.log.PairItem.{PairItem}
use Rattle.ci_pair.specs.declared.flattening.PairChild.{PairChild}
use Rattle.ci_pair.specs.declared.flattening.PairNode.{PairNode}
use Rattle.ci_pair.specs.declared.searching.PairFound.{PairFound}
use Rattle.ci_pair.specs.declared.searching.PairFound.TheVariants.{Best, NoPair, Spent}
use Rattle.ci_pair.specs.Pairs.{IsBestPair, HasNoPair}
use Rattle.ci_pair.specs.Prefixes.{NeedExceeds}
use Rattle.ci_pair.specs.RegionTrees.{IsTreeIn}
use Rattle.ci_pair.specs.PairSets.{sets}
use Rattle.ci_pair.specs.Rules.{Given, IsAccepted}

-- how many slots are free
abbrev pub free : BoundedMap PairNode → ℕ
free region = region.capacity - used region

-- The tree of the root lies in the region, beside all that the region held before. Its items in preorder are a log that
-- is accepted for the best pair, or for none.
pub record HasLog (graph : FlowGraph) (limits : Limits) (best : Given) (before after : BoundedMap PairNode)
    (root : PairChild) : Type 0 where
  pub items : List PairItem
  pub tree : IsTreeIn after.values root items before.values
  pub accepted : IsAccepted graph limits best items

-- what is answered, and what the region holds then
abbrev pub IsAnswer : FlowGraph → Limits → BoundedMap PairNode → BoundedMap PairNode → PairFound → Type 0
IsAnswer graph limits before after (Best pair root) = HasLog graph limits (Some (sets pair)) before after root
IsAnswer graph limits before after (NoPair root) = HasLog graph limits None before after root
IsAnswer graph limits before after (Spent budget) = (budget ≡ free before) × (after ≡ before)

abbrev pub IsSpent : PairFound → Type 0
IsSpent (Best pair root) = ⊥
IsSpent (NoPair root) = ⊥
IsSpent (Spent budget) = Unit {0}

-- the pair is the best one, and there is none where none is found
abbrev pub IsOptimal : FlowGraph → Limits → PairFound → Type 0
IsOptimal graph limits (Best pair root) = IsBestPair graph limits (sets pair)
IsOptimal graph limits (NoPair root) = HasNoPair graph limits
IsOptimal graph limits (Spent budget) = Unit {0}

-- What a search answers of a graph, and what the region holds then.
pub record IsPairSearchBy (graph : FlowGraph) (limits : Limits) (before after : BoundedMap PairNode) (found : PairFound)
    : Type 0 where
  pub answer : IsAnswer graph limits before after found
  -- it is given up only where more branches are needed than slots are free
  pub spent : IsSpent found → NeedExceeds graph limits (free before)
  -- as many free slots as there are ways to label the eligible nodes are enough
  pub enough : 3 ^ eligible_nodes graph ≤ free before → ¬ IsSpent found
  pub best : IsOptimal graph limits found
  -- slots that were live hold what they held
  pub kept : (slot : ℕ) (node : PairNode) → map.get before.values slot ≡ Some node
      → map.get after.values slot ≡ Some node
  pub capacity : after.capacity ≡ before.capacity
