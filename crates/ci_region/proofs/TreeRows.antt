-- What the definition of trees in slots gives on small trees whose nodes have three children.
use Rattle.std.proofs.Common.{◌≡◌, ℕ, List, [], ◌∷◌, is_some, true≢false, refl, sym, ap, ◌∙◌, arith}
use Rattle.std.specs.Ordering.{nat_cmp}
use Rattle.std.specs.FinMap as map
use Rattle.std.specs.FinMap.{get-empty}
use Rattle.ci_region.specs.Trees.{Place, Leaf, Inner, TreeKind, AreTreesIn, leaf_tree, inner_tree, in_front}
use Rattle.ci_region.proofs.MapLaws.{get-insert_other, get-remove_same}
use Rattle.ci_region.proofs.TreeLaws.{joined, rest_is_kept}

record Node : Type 0 where
  first : Place ℕ
  second : Place ℕ
  third : Place ℕ

-- a leaf has a number from 1 on, and a node has 0
abbrev three : TreeKind Node (Place ℕ) ℕ
three = record {
  children = λ (node : Node). node.first ∷ node.second ∷ node.third ∷ [];
  place = λ (child : Place ℕ). child;
  IsLeaf = λ item. ¬ (item ≡ 0);
  branch = 0;
}

abbrev Slots : Type 0
Slots = map.FinMap nat_cmp Node

abbrev below : Node
below = record { first = Leaf 8; second = Leaf 9; third = Leaf 6 }

abbrev root : Node
root = record { first = Leaf 5; second = Inner 4; third = Leaf 7 }

one_leaf : (slots : Slots) (item : ℕ) → ¬ (item ≡ 0) → AreTreesIn three slots (Leaf item ∷ []) (item ∷ []) slots
one_leaf slots item some = leaf_tree refl some

abbrev one_slot : Slots
one_slot = map.insert map.empty 4 below

-- the second child's tree stands between the items of the others, and the slots hold nothing besides
two_nodes : AreTreesIn three (map.insert one_slot 1 root) (Inner 1 ∷ []) (0 ∷ 5 ∷ 0 ∷ 8 ∷ 9 ∷ 6 ∷ 7 ∷ []) map.empty
two_nodes =
    let leaves = in_front (in_front (one_leaf map.empty 6 (λ e. omega (arith, e))) (one_leaf map.empty 9 (λ e. omega (arith, e))))
    (one_leaf map.empty 8 (λ e. omega (arith, e))) in
    let inside = joined map.empty map.empty 4 below (Inner 4) _ leaves (get-empty nat_cmp 4) refl in
    let free = get-insert_other map.empty 4 below 1 (λ e. omega (arith, e)) ∙ get-empty nat_cmp 1 in
    joined one_slot map.empty 1 root (Inner 1) _
    (in_front (in_front (one_leaf one_slot 7 (λ e. omega (arith, e))) inside) (one_leaf map.empty 5 (λ e. omega (arith, e))))
    free refl

-- no trees reach a slot twice
not_twice : {slots rest : Slots} {slot : ℕ} {items : List ℕ}
    → ¬ AreTreesIn three slots (Inner slot ∷ Inner slot ∷ []) items rest
not_twice (in_front (leaf_tree is right) first) = absurd (cc)
not_twice (in_front (inner_tree is here in_it) (leaf_tree other right)) = absurd (cc)
not_twice (in_front (inner_tree {slots = slots} {slot = slot} is here in_it) (inner_tree {slot = again} {node = node} other there in_other)) =
    let same : again ≡ slot = cc in
    let kept = rest_is_kept in_it again node there in
    true≢false (sym (ap is_some kept) ∙ ap (λ k. is_some (map.get (map.remove slots slot) k)) same
    ∙ ap is_some (get-remove_same slots slot))
