-- What a choice under a limit answers.
use Rattle.std.specs.Prelude.{◌≡◌, ℕ, ◌-◌, ◌^◌, ◌≤◌, Bool, List, length, Some}
use Rattle.std.specs.FinMap as map
use Rattle.std.specs.FinSet as set
use Rattle.ci_region.specs.BoundedMap.{BoundedMap, used}
use Rattle.ci_area.specs.declared.flattening.AreaChild.{AreaChild}
use Rattle.ci_area.specs.declared.flattening.AreaNode.{AreaNode}
use Rattle.ci_area.specs.declared.log.AreaItem.{AreaItem}
use Rattle.ci_area.specs.declared.piece.Piece.{Piece}
use Rattle.ci_area.specs.declared.searching.AreaFound.{AreaFound}
use Rattle.ci_area.specs.declared.searching.AreaFound.TheVariants.{Best, Spent}
use Rattle.ci_area.specs.AreaNeed.{NeedExceeds}
use Rattle.ci_area.specs.AreaRegionTrees.{IsTreeIn}
use Rattle.ci_area.specs.AreaRules.{IsAccepted}
use Rattle.ci_area.specs.Pieces.{IsBestSet}

-- how many slots are free
abbrev pub free : BoundedMap AreaNode → ℕ
free region = region.capacity - used region

-- The tree of the root lies in the region, beside all that the region held before. Its items in preorder are a log that
-- is accepted for the set.
pub record HasLog (pieces : List Piece) (limit : ℕ) (best : ℕ → Bool) (before after : BoundedMap AreaNode)
    (root : AreaChild) : Type 0 where
  pub items : List AreaItem
  pub tree : IsTreeIn after.values root items before.values
  pub accepted : IsAccepted pieces limit best items

-- what is answered, and what the region holds then
abbrev pub IsAnswer : List Piece → ℕ → BoundedMap AreaNode → BoundedMap AreaNode → AreaFound → Type 0
IsAnswer pieces limit before after (Best chosen root) =
    HasLog pieces limit (set.contains chosen) before after root × IsBestSet pieces limit (set.contains chosen)
IsAnswer pieces limit before after (Spent budget) =
    (budget ≡ free before) × (after ≡ before) × NeedExceeds pieces limit (free before)

abbrev pub IsSpent : AreaFound → Type 0
IsSpent (Best chosen root) = ⊥
IsSpent (Spent budget) = Unit {0}

pub record IsChoice (pieces : List Piece) (limit : ℕ) (before after : BoundedMap AreaNode) (found : AreaFound)
    : Type 0 where
  pub answer : IsAnswer pieces limit before after found
  -- as many free slots as there are sets of pieces are enough
  pub enough : 2 ^ length pieces ≤ free before → ¬ IsSpent found
  -- slots that were live hold what they held
  pub kept : (slot : ℕ) (node : AreaNode) → map.get before.values slot ≡ Some node
      → map.get after.values slot ≡ Some node
  pub capacity : after.capacity ≡ before.capacity
