-- Trees of logs of choices in a region.
use Rattle.std.proofs.Common.{◌≡◌, ℕ, ◌+◌, ◌<◌, ◌≤◌, ◌^◌, List, [], ◌∷◌, ◌++◌, Some, None, inl, inr, refl, sym, ap, ◌∙◌, subst, arith}
use Rattle.std.proofs.lemmas.Bool.{cases_eq}
use Rattle.std.specs.FinMap as map
use Rattle.ci_region.specs.BoundedMap.{BoundedMap, used, with_value}
use Rattle.ci_region.specs.Trees as trees
use Rattle.ci_region.specs.Trees.{Place, leaf_tree, inner_tree, in_front}
use Rattle.ci_region.proofs.MapLaws.{given_back, get-insert_same, len-take}
use Rattle.ci_region.proofs.TreeLaws.{count_items}
use Rattle.ci_area.specs.declared.log.AreaItem.{AreaItem}
use Rattle.ci_area.specs.declared.log.AreaItem.TheVariants.{B}
use Rattle.ci_area.specs.declared.flattening.AreaChild.{AreaChild}
use Rattle.ci_area.specs.declared.flattening.AreaChild.TheVariants.{Leaf, Inner}
use Rattle.ci_area.specs.declared.flattening.AreaNode.{AreaNode}
use Rattle.ci_area.specs.AreaTrees as log
use Rattle.ci_area.specs.AreaTrees.{IsLeaf, IsTree, IsLog}
use Rattle.ci_area.specs.AreaRegionTrees.{Slots, IsTreeIn, place}

-- ---- a leaf, and a branch

pub at_leaf : {slots : Slots} {item : AreaItem} → IsLeaf item → IsTreeIn slots (Leaf item) (item ∷ []) slots
at_leaf is = leaf_tree refl is

pub at_inner : {slots between rest : Slots} {slot : ℕ} {node : AreaNode} {taken left_out : List AreaItem}
    → map.get slots slot ≡ Some node → IsTreeIn (map.remove slots slot) node.left_out left_out between
    → IsTreeIn between node.taken taken rest → IsTreeIn slots (Inner slot) (B ∷ (taken ++ left_out)) rest
at_inner here out_tree in_tree = inner_tree refl here (in_front out_tree in_tree)

-- ---- the items are a log

pub items_are_tree : {slots rest : Slots} {child : AreaChild} {items : List AreaItem} → IsTreeIn slots child items rest
    → IsTree items
items_are_tree (leaf_tree is right) = log.leaf right
items_are_tree (inner_tree is here (in_front out_tree in_tree)) = log.branch (items_are_tree in_tree) (items_are_tree out_tree)

pub items_are_log : {slots rest : Slots} {child : AreaChild} {items : List AreaItem} → IsTreeIn slots child items rest
    → map.len slots < 2 ^ 31 → IsLog items
items_are_log tree few = record {
  is_tree = items_are_tree tree;
  few = omega (arith, count_items 2 (λ node. refl) tree, few);
}

-- ---- the trees below a branch

pub record Below (slots : Slots) (slot : ℕ) (node : AreaNode) (rest : Slots) : Type 0 where
  pub firsts : List AreaItem
  pub seconds : List AreaItem
  pub between : Slots
  pub second_tree : IsTreeIn (map.remove slots slot) node.left_out seconds between
  pub first_tree : IsTreeIn between node.taken firsts rest

inner_is : (at : Place AreaItem) (a b : ℕ) → at ≡ trees.Inner a → at ≡ trees.Inner b → a ≡ b
inner_is at a b first second = cc

not_leaf : (at : Place AreaItem) (a : ℕ) (item : AreaItem) → at ≡ trees.Inner a → at ≡ trees.Leaf item → ⊥
not_leaf at a item first second = absurd (cc)

some_is : (a b : AreaNode) → Some a ≡ Some b → a ≡ b
some_is a b same = cc

pub below_inner : {slots rest : Slots} {root : AreaChild} {items : List AreaItem} (slot : ℕ) (node : AreaNode) → root ≡ Inner slot
    → map.get slots slot ≡ Some node → IsTreeIn slots root items rest → Below slots slot node rest
below_inner slot node is_inner here (leaf_tree is right) = absurd (not_leaf _ slot _ (ap place is_inner) is)
below_inner {slots = slots} {rest = rest} slot node is_inner here (inner_tree {slot = s} {node = n} is at
    (in_front {between = between} {items = xs} {later = ys} second first)) =
    let same_slot : s ≡ slot = inner_is _ s slot is (ap place is_inner) in
    let same_node : n ≡ node = some_is n node (sym at ∙ ap (map.get slots) same_slot ∙ here) in
    record {
      firsts = xs;
      seconds = ys;
      between = between;
      second_tree = subst (λ (m : AreaNode). IsTreeIn (map.remove slots slot) m.left_out ys between) same_node
          (subst (λ (k : ℕ). IsTreeIn (map.remove slots k) n.left_out ys between) same_slot second);
      first_tree = subst (λ (m : AreaNode). IsTreeIn between m.taken xs rest) same_node first;
    }

-- a leaf takes no slot
pub leaf_rest : {slots rest : Slots} {root : AreaChild} {items : List AreaItem} {item : AreaItem} → root ≡ Leaf item
    → IsTreeIn slots root items rest → slots ≡ rest
leaf_rest is_leaf (leaf_tree is right) = refl
leaf_rest is_leaf (inner_tree {slot = s} is at below) = absurd (not_leaf _ s _ is (ap place is_leaf))

-- ---- a slot more

pub joined : (before after : BoundedMap AreaNode) (first second : AreaChild) (slot : ℕ)
    → after ≡ with_value before slot (record { taken = first; left_out = second }) → map.get before.values slot ≡ None
    → (firsts seconds : List AreaItem) (between rest : Slots) → IsTreeIn before.values second seconds between
    → IsTreeIn between first firsts rest → IsTreeIn after.values (Inner slot) (B ∷ (firsts ++ seconds)) rest
joined before after first second slot holds was_free firsts seconds between rest second_tree first_tree =
    let node : AreaNode = record { taken = first; left_out = second } in
    let bare = given_back before.values slot node was_free in
    subst (λ (m : BoundedMap AreaNode). IsTreeIn m.values (Inner slot) (B ∷ (firsts ++ seconds)) rest) (sym holds)
    (at_inner {node = node} (get-insert_same before.values slot node)
    (subst (λ (m : Slots). IsTreeIn m second seconds between) (sym bare) second_tree) first_tree)

pub one_more_used : (before after : BoundedMap AreaNode) (slot : ℕ) (node : AreaNode) → after ≡ with_value before slot node
    → map.get before.values slot ≡ None → used after ≡ used before + 1
one_more_used before after slot node holds was_free = ap used holds ∙ len-take before.values slot node was_free

pub below_unless : {m n : ℕ} → m ≤ n → ¬ (m ≡ n) → m + 1 ≤ n
below_unless {m = m} {n = n} within differ = elim (cases_eq m n) [ inl same ↦ absurd (differ same) | inr apart ↦ omega arith ]

-- ---- no slot is free

-- the node that comes back is that which was to be put in, and the region is as it was
pub second_back : (before after : BoundedMap AreaNode) (first second : AreaChild) (node : AreaNode) → after ≡ before
    → node ≡ record { taken = first; left_out = second } → (items : List AreaItem) (between : Slots)
    → IsTreeIn before.values second items between → IsTreeIn after.values node.left_out items between
second_back before after first second node same back items between tree =
    subst (λ (m : BoundedMap AreaNode). IsTreeIn m.values node.left_out items between) (sym same)
    (subst (λ (n : AreaNode). IsTreeIn before.values n.left_out items between) (sym back) tree)

pub first_back : (first second : AreaChild) (node : AreaNode) → node ≡ record { taken = first; left_out = second }
    → (items : List AreaItem) (between rest : Slots) (after : BoundedMap AreaNode) (capacity : ℕ)
    → after ≡ record { values = between; capacity = capacity } → IsTreeIn between first items rest
    → IsTreeIn after.values node.taken items rest
first_back first second node back items between rest after capacity is tree =
    subst (λ (m : BoundedMap AreaNode). IsTreeIn m.values node.taken items rest) (sym is)
    (subst (λ (n : AreaNode). IsTreeIn between n.taken items rest) (sym back) tree)
