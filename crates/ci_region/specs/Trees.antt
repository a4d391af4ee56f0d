-- Trees whose nodes stand in slots, of any kind of nodes.
use Rattle.std.specs.Prelude.{◌≡◌, ℕ, List, [], ◌∷◌, ◌++◌, Some}
use Rattle.std.specs.Ordering.{nat_cmp}
use Rattle.std.specs.FinMap as map

-- what a child is: a leaf, which is an item, or the node in a slot
pub data Place (Item : Type 0) : Type 0 where
  Leaf : Item → Place Item
  Inner : ℕ → Place Item

-- a kind of trees: the children of a node, in order; what a child is; the items that leaves may have, and that of nodes
pub record TreeKind (Node Child Item : Type 0) : Type 1 where
  pub children : Node → List Child
  pub place : Child → Place Item
  pub IsLeaf : Item → Type 0
  pub branch : Item

module _ {Node Child Item : Type 0} (kind : TreeKind Node Child Item) where
  -- The trees of some children, in order: their items in preorder, and what the slots hold besides. Each slot that the
  -- trees reach is live, and is reached once, since it is taken out there; the last tree is taken out first.
  pub data AreTreesIn : map.FinMap nat_cmp Node → List Child → List Item → map.FinMap nat_cmp Node → Type 0 where
    no_tree : {slots : map.FinMap nat_cmp Node} → AreTreesIn slots [] [] slots
    leaf_tree : {slots : map.FinMap nat_cmp Node} {child : Child} {item : Item} → kind.place child ≡ Leaf item
        → kind.IsLeaf item → AreTreesIn slots (child ∷ []) (item ∷ []) slots
    inner_tree : {slots rest : map.FinMap nat_cmp Node} {child : Child} {slot : ℕ} {node : Node} {items : List Item}
        → kind.place child ≡ Inner slot → map.get slots slot ≡ Some node
        → AreTreesIn (map.remove slots slot) (kind.children node) items rest
        → AreTreesIn slots (child ∷ []) (kind.branch ∷ items) rest
    in_front : {slots between rest : map.FinMap nat_cmp Node} {child next : Child} {others : List Child}
        {items later : List Item} → AreTreesIn slots (next ∷ others) later between
        → AreTreesIn between (child ∷ []) items rest → AreTreesIn slots (child ∷ next ∷ others) (items ++ later) rest
