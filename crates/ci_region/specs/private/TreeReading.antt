-- For private contracts: trees read by a walk with a list of children that wait. Crates above use it too.
use Rattle.std.specs.Prelude.{◌≡◌, ℕ, List, [], ◌∷◌, ◌++◌, reverse, Some}
use Rattle.std.specs.Ordering.{nat_cmp}
use Rattle.std.specs.FinMap as map
use Rattle.ci_region.specs.Trees.{Leaf, Inner, TreeKind}

module _ {Node Child Item : Type 0} (kind : TreeKind Node Child Item) where
  -- the items of the trees of these children in preorder, whatever they have in common
  pub data AreRead (slots : map.FinMap nat_cmp Node) : List Child → List Item → Type 0 where
    read_all : AreRead slots [] []
    read_leaf : {child : Child} {others : List Child} {item : Item} {items : List Item} → kind.place child ≡ Leaf item
        → AreRead slots others items → AreRead slots (child ∷ others) (item ∷ items)
    read_inner : {child : Child} {others : List Child} {slot : ℕ} {node : Node} {items : List Item}
        → kind.place child ≡ Inner slot → map.get slots slot ≡ Some node
        → AreRead slots (kind.children node ++ others) items → AreRead slots (child ∷ others) (kind.branch ∷ items)

  -- of all items these were read, and the others are those of the children that wait, the next one last
  pub record IsReadUpTo (slots : map.FinMap nat_cmp Node) (waiting : List Child) (before all : List Item) : Type 0 where
    pub later : List Item
    pub are_read : AreRead slots (reverse waiting) later
    pub splits : all ≡ before ++ later
