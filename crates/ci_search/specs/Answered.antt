-- What a search answers.
use Rattle.std.specs.Prelude.{◌≡◌, ◌↔◌, ℕ, ◌-◌, ◌^◌, ◌≤◌, List, Some, None}
use Rattle.std.specs.FinMap as map
use Rattle.std.specs.FinSet as set
use Rattle.ci_region.specs.BoundedMap.{BoundedMap, used}
use Rattle.ci_cut.specs.declared.graph.Limits.{Limits}
use Rattle.ci_cut.specs.FlowGraph.{FlowGraph}
use Rattle.ci_cut.specs.Best.{IsBest, HasNoCut}
use Rattle.ci_cut.specs.Prefixes.{eligible_nodes}
use Rattle.ci_cut.specs.Need.{IsNeed, NeedExceeds}
use Rattle.ci_log.specs.declared.log.Item.{Item}
use Rattle.ci_log.specs.declared.flattening.Child.{Child}
use Rattle.ci_log.specs.declared.flattening.LogNode.{LogNode}
use Rattle.ci_log.specs.RegionTrees.{IsTreeIn}
use Rattle.ci_check.specs.Rules.{Given, IsAccepted}
use Rattle.ci_search.specs.declared.searching.Found.{Found}
use Rattle.ci_search.specs.declared.searching.Found.TheVariants.{Best, NoCut, Spent}

-- how many slots are free
abbrev pub free : BoundedMap LogNode → ℕ
free region = region.capacity - used region

-- The tree of the root lies in the region, beside all that the region held before. Its items in preorder are a log that
-- is accepted for the best cut, or for none.
pub record HasLog (graph : FlowGraph) (limits : Limits) (best : Given)
    (before after : BoundedMap LogNode) (root : Child)
    : Type 0 where
  pub items : List Item
  pub tree : IsTreeIn after.values root items before.values
  pub accepted : IsAccepted graph limits best items

-- what is answered, and what the region holds then
abbrev pub IsAnswer : FlowGraph → Limits → BoundedMap LogNode → BoundedMap LogNode → Found → Type 0
IsAnswer graph limits before after (Best cut root) = HasLog graph limits (Some cut) before after root
IsAnswer graph limits before after (NoCut root) = HasLog graph limits None before after root
IsAnswer graph limits before after (Spent budget) = (budget ≡ free before) × (after ≡ before)

abbrev pub IsSpent : Found → Type 0
IsSpent (Best cut root) = ⊥
IsSpent (NoCut root) = ⊥
IsSpent (Spent budget) = Unit {0}

-- the cut is the best one, and there is none where none is found
abbrev pub IsOptimal : FlowGraph → Limits → Found → Type 0
IsOptimal graph limits (Best cut root) = IsBest graph limits (set.contains cut)
IsOptimal graph limits (NoCut root) = HasNoCut graph limits
IsOptimal graph limits (Spent budget) = Unit {0}

-- What a search answers of a graph, and what the region holds then.
pub record IsSearchBy (graph : FlowGraph) (limits : Limits) (before after : BoundedMap LogNode) (found : Found)
    : Type 0 where
  pub answer : IsAnswer graph limits before after found
  -- it is given up exactly where more branches are needed than slots are free
  pub spent : IsSpent found ↔ NeedExceeds graph limits (free before)
  -- as many free slots as there are sets of eligible nodes are enough
  pub enough : 2 ^ eligible_nodes graph ≤ free before → ¬ IsSpent found
  pub best : IsOptimal graph limits found
  -- slots that were live hold what they held
  pub kept : (slot : ℕ) (node : LogNode) → map.get before.values slot ≡ Some node → map.get after.values slot ≡ Some node
  pub capacity : after.capacity ≡ before.capacity
  -- else as many more slots are live as branches are needed
  pub slots : ¬ IsSpent found → IsNeed graph limits (used after - used before)
