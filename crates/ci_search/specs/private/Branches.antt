-- For private contracts: two trees in a region, and a branch that joins them.
use Rattle.std.specs.Prelude.{◌≡◌, ◌+◌, ◌<◌, List, ◌∷◌, ◌++◌}
use Rattle.ci_region.specs.BoundedMap.{BoundedMap, used}
use Rattle.ci_log.specs.declared.log.Item.{Item}
use Rattle.ci_log.specs.declared.log.Item.TheVariants.{B}
use Rattle.ci_log.specs.declared.flattening.Child.{Child}
use Rattle.ci_log.specs.declared.flattening.LogNode.{LogNode}
use Rattle.ci_log.specs.RegionTrees.{Slots, IsTreeIn}

-- two trees that lie beside each other, and their items
pub record AreTreesOf (region : BoundedMap LogNode) (taken left_out : Child)
    (in_items out_items : List Item) (rest : Slots)
    : Type 0 where
  pub between : Slots
  pub out_tree : IsTreeIn region.values left_out out_items between
  pub in_tree : IsTreeIn between taken in_items rest

-- both are below one root, in one slot more
pub record IsBranch (before after : BoundedMap LogNode) (taken left_out root : Child) : Type 0 where
  pub one_more : used after ≡ used before + 1
  pub was_free : used before < before.capacity
  pub same_capacity : after.capacity ≡ before.capacity
  pub tree : (in_items out_items : List Item) (rest : Slots) → AreTreesOf before taken left_out in_items out_items rest
      → IsTreeIn after.values root (B ∷ (in_items ++ out_items)) rest
