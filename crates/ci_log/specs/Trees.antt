-- Logs: trees of items in preorder, and their letters.
use Rattle.std.specs.Prelude.{ℕ, ◌<◌, ◌^◌, List, [], ◌∷◌, ◌++◌, length, map}
use Rattle.ci_log.specs.declared.log.Item.{Item}
use Rattle.ci_log.specs.declared.log.Item.TheVariants.{B, O, C, I, G, F}

-- each item but a branch
abbrev pub IsLeaf : Item → Type 0
IsLeaf B = ⊥
IsLeaf O = Unit {0}
IsLeaf C = Unit {0}
IsLeaf I = Unit {0}
IsLeaf G = Unit {0}
IsLeaf F = Unit {0}

-- the items of one tree in preorder: a leaf, or a branch and then the items of its two children
pub data IsTree : List Item → Type 0 where
  leaf : {item : Item} → IsLeaf item → IsTree (item ∷ [])
  branch : {taken left_out : List Item} → IsTree taken → IsTree left_out → IsTree (B ∷ (taken ++ left_out))

pub record IsLog (items : List Item) : Type 0 where
  pub is_tree : IsTree items
  pub few : length items < 2 ^ 32

-- the item's letter, in ASCII
abbrev pub letter : Item → ℕ
letter B = 66
letter O = 79
letter C = 67
letter I = 73
letter G = 71
letter F = 70

abbrev pub letters : List Item → List ℕ
letters items = map letter items
