-- Trees of logs of pairs in a region.
use Rattle.std.specs.Prelude.{◌≡◌, List, [], ◌∷◌}
use Rattle.std.specs.Ordering.{nat_cmp}
use Rattle.std.specs.FinMap as map
use Rattle.ci_region.specs.BoundedMap.{BoundedMap}
use Rattle.ci_region.specs.Trees.{Place, TreeKind, AreTreesIn}
use Rattle.ci_region.specs.Trees as trees
use Rattle.ci_pair.specs.declared.log.PairItem.{PairItem}
use Rattle.ci_pair.specs.declared.log.PairItem.TheVariants.{B}
use Rattle.ci_pair.specs.declared.flattening.PairChild.{PairChild}
use Rattle.ci_pair.specs.declared.flattening.PairChild.TheVariants.{Leaf, Inner}
use Rattle.ci_pair.specs.declared.flattening.PairNode.{PairNode}
use Rattle.ci_pair.specs.Trees.{IsLeaf}

-- what the live slots hold
abbrev pub Slots : Type 0
Slots = map.FinMap nat_cmp PairNode

abbrev pub place : PairChild → Place PairItem
place (Leaf item) = trees.Leaf item
place (Inner slot) = trees.Inner slot

-- a branch has three children, where the next node is in the first set, in the second, and in none
abbrev pub pair_tree : TreeKind PairNode PairChild PairItem
pair_tree = record {
  children = λ (node : PairNode). node.first ∷ node.second ∷ node.out ∷ [];
  place = place;
  IsLeaf = IsLeaf;
  branch = B;
}

-- the tree of a child: its items in preorder, and what the slots hold besides
abbrev pub IsTreeIn : Slots → PairChild → List PairItem → Slots → Type 0
IsTreeIn slots child items rest = AreTreesIn pair_tree slots (child ∷ []) items rest

-- the tree of the child lies in the region
abbrev pub LiesIn : BoundedMap PairNode → PairChild → Type 0
LiesIn region child = (items : List PairItem) × (rest : Slots) × IsTreeIn region.values child items rest

-- these are the items of the tree of the child in the region
abbrev pub StandsFor : BoundedMap PairNode → PairChild → List PairItem → Type 0
StandsFor region child items =
    (listed : List PairItem) (rest : Slots) → IsTreeIn region.values child listed rest → items ≡ listed
