-- Trees of logs of choices in a region.
use Rattle.std.specs.Prelude.{◌≡◌, List, [], ◌∷◌}
use Rattle.std.specs.Ordering.{nat_cmp}
use Rattle.std.specs.FinMap as map
use Rattle.ci_region.specs.BoundedMap.{BoundedMap}
use Rattle.ci_region.specs.Trees.{Place, TreeKind, AreTreesIn}
use Rattle.ci_region.specs.Trees as trees
use Rattle.ci_area.specs.declared.log.AreaItem.{AreaItem}
use Rattle.ci_area.specs.declared.log.AreaItem.TheVariants.{B}
use Rattle.ci_area.specs.declared.flattening.AreaChild.{AreaChild}
use Rattle.ci_area.specs.declared.flattening.AreaChild.TheVariants.{Leaf, Inner}
use Rattle.ci_area.specs.declared.flattening.AreaNode.{AreaNode}
use Rattle.ci_area.specs.AreaTrees.{IsLeaf}

-- what the live slots hold
abbrev pub Slots : Type 0
Slots = map.FinMap nat_cmp AreaNode

abbrev pub place : AreaChild → Place AreaItem
place (Leaf item) = trees.Leaf item
place (Inner slot) = trees.Inner slot

-- a branch has two children, that where the next piece is taken in and that where it is left out
abbrev pub area_tree : TreeKind AreaNode AreaChild AreaItem
area_tree = record {
  children = λ (node : AreaNode). node.taken ∷ node.left_out ∷ [];
  place = place;
  IsLeaf = IsLeaf;
  branch = B;
}

-- the tree of a child: its items in preorder, and what the slots hold besides
abbrev pub IsTreeIn : Slots → AreaChild → List AreaItem → Slots → Type 0
IsTreeIn slots child items rest = AreTreesIn area_tree slots (child ∷ []) items rest

-- the tree of the child lies in the region
abbrev pub LiesIn : BoundedMap AreaNode → AreaChild → Type 0
LiesIn region child = (items : List AreaItem) × (rest : Slots) × IsTreeIn region.values child items rest

-- these are the items of the tree of the child in the region
abbrev pub StandsFor : BoundedMap AreaNode → AreaChild → List AreaItem → Type 0
StandsFor region child items =
    (listed : List AreaItem) (rest : Slots) → IsTreeIn region.values child listed rest → items ≡ listed
