-- Trees of logs in a region.
use Rattle.std.proofs.Common.{◌≡◌, ℕ, ◌<◌, ◌^◌, List, [], ◌∷◌, ◌++◌, Some, refl, arith}
use Rattle.std.specs.FinMap as map
use Rattle.ci_region.specs.Trees.{leaf_tree, inner_tree, in_front}
use Rattle.ci_region.proofs.TreeLaws.{count_items}
use Rattle.ci_log.specs.declared.log.Item.{Item}
use Rattle.ci_log.specs.declared.log.Item.TheVariants.{B}
use Rattle.ci_log.specs.declared.flattening.Child.{Child}
use Rattle.ci_log.specs.declared.flattening.Child.TheVariants.{Leaf, Inner}
use Rattle.ci_log.specs.declared.flattening.LogNode.{LogNode}
use Rattle.ci_log.specs.Trees as log
use Rattle.ci_log.specs.Trees.{IsLeaf, IsTree, IsLog}
use Rattle.ci_log.specs.RegionTrees.{Slots, IsTreeIn}

-- ---- a leaf, and a branch

pub at_leaf : {slots : Slots} {item : Item} → IsLeaf item → IsTreeIn slots (Leaf item) (item ∷ []) slots
at_leaf is = leaf_tree refl is

pub at_inner : {slots between rest : Slots} {slot : ℕ} {node : LogNode} {taken left_out : List Item}
    → map.get slots slot ≡ Some node → IsTreeIn (map.remove slots slot) node.left_out left_out between
    → IsTreeIn between node.taken taken rest → IsTreeIn slots (Inner slot) (B ∷ (taken ++ left_out)) rest
at_inner here out_tree in_tree = inner_tree refl here (in_front out_tree in_tree)

-- ---- the items are a log

pub items_are_tree : {slots rest : Slots} {child : Child} {items : List Item} → IsTreeIn slots child items rest
    → IsTree items
items_are_tree (leaf_tree is right) = log.leaf right
items_are_tree (inner_tree is here (in_front out_tree in_tree)) = log.branch (items_are_tree in_tree) (items_are_tree out_tree)

pub items_are_log : {slots rest : Slots} {child : Child} {items : List Item} → IsTreeIn slots child items rest
    → map.len slots < 2 ^ 31 → IsLog items
items_are_log tree few = record {
  is_tree = items_are_tree tree;
  few = omega (arith, count_items 2 (λ node. refl) tree, few);
}
