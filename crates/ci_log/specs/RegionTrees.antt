-- Trees of logs in a region.
use Rattle.std.specs.Prelude.{◌≡◌, List, [], ◌∷◌}
use Rattle.std.specs.Ordering.{nat_cmp}
use Rattle.std.specs.FinMap as map
use Rattle.ci_region.specs.BoundedMap.{BoundedMap}
use Rattle.ci_region.specs.Trees.{Place, TreeKind, AreTreesIn}
use Rattle.ci_region.specs.Trees as trees
use Rattle.ci_log.specs.declared.log.Item.{Item}
use Rattle.ci_log.specs.declared.log.Item.TheVariants.{B}
use Rattle.ci_log.specs.declared.flattening.Child.{Child}
use Rattle.ci_log.specs.declared.flattening.Child.TheVariants.{Leaf, Inner}
use Rattle.ci_log.specs.declared.flattening.LogNode.{LogNode}
use Rattle.ci_log.specs.Trees.{IsLeaf}

-- what the live slots hold
abbrev pub Slots : Type 0
Slots = map.FinMap nat_cmp LogNode

abbrev pub place : Child → Place Item
place (Leaf item) = trees.Leaf item
place (Inner slot) = trees.Inner slot

-- a branch has two children, that where the next node is taken in and that where it is left out
abbrev pub log_tree : TreeKind LogNode Child Item
log_tree = record {
  children = λ (node : LogNode). node.taken ∷ node.left_out ∷ [];
  place = place;
  IsLeaf = IsLeaf;
  branch = B;
}

-- the tree of a child: its items in preorder, and what the slots hold besides
abbrev pub IsTreeIn : Slots → Child → List Item → Slots → Type 0
IsTreeIn slots child items rest = AreTreesIn log_tree slots (child ∷ []) items rest

-- the tree of the child lies in the region
abbrev pub LiesIn : BoundedMap LogNode → Child → Type 0
LiesIn region child = (items : List Item) × (rest : Slots) × IsTreeIn region.values child items rest

-- these are the items of the tree of the child in the region
abbrev pub StandsFor : BoundedMap LogNode → Child → List Item → Type 0
StandsFor region child items =
    (listed : List Item) (rest : Slots) → IsTreeIn region.values child listed rest → items ≡ listed
