-- Logs of choices: trees of items in preorder.
use Rattle.std.specs.Prelude.{◌<◌, ◌^◌, length, List, [], ◌∷◌, ◌++◌}
use Rattle.ci_area.specs.declared.log.AreaItem.{AreaItem}
use Rattle.ci_area.specs.declared.log.AreaItem.TheVariants.{B, A, G, F}

-- each item but a branch
abbrev pub IsLeaf : AreaItem → Type 0
IsLeaf B = ⊥
IsLeaf A = Unit {0}
IsLeaf (G num den) = Unit {0}
IsLeaf F = Unit {0}

-- the items of one tree in preorder: a leaf, or a branch and then the items of its two children
pub data IsTree : List AreaItem → Type 0 where
  leaf : {item : AreaItem} → IsLeaf item → IsTree (item ∷ [])
  branch : {taken left_out : List AreaItem} → IsTree taken → IsTree left_out → IsTree (B ∷ (taken ++ left_out))

pub record IsLog (items : List AreaItem) : Type 0 where
  pub is_tree : IsTree items
  pub few : length items < 2 ^ 32
