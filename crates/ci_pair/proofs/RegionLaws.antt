-- Trees of logs of pairs in a region.
use Rattle.std.proofs.Common.{◌≡◌, ℕ, ◌<◌, ◌^◌, List, [], ◌∷◌, ◌++◌, Some, None, refl, sym, ap, ◌∙◌, subst, inl, inr, ◌+◌, ◌≤◌, arith}
use Rattle.std.specs.FinMap as map
use Rattle.std.proofs.lemmas.Bool.{cases_eq}
use Rattle.ci_region.specs.Trees as trees
use Rattle.ci_region.specs.Trees.{Place, leaf_tree, inner_tree, in_front}
use Rattle.ci_region.specs.BoundedMap.{BoundedMap, used, with_value}
use Rattle.ci_region.proofs.MapLaws.{given_back, get-insert_same, len-take}
use Rattle.ci_region.proofs.TreeLaws.{count_items}
use Rattle.ci_pair.specs.declared.log.PairItem.{PairItem}
use Rattle.ci_pair.specs.declared.log.PairItem.TheVariants.{B}
use Rattle.ci_pair.specs.declared.flattening.PairChild.{PairChild}
use Rattle.ci_pair.specs.declared.flattening.PairChild.TheVariants.{Leaf, Inner}
use Rattle.ci_pair.specs.declared.flattening.PairNode.{PairNode}
use Rattle.ci_pair.specs.Trees as log
use Rattle.ci_pair.specs.Trees.{IsLeaf, IsTree, IsLog}
use Rattle.ci_pair.specs.RegionTrees.{Slots, IsTreeIn, place}

-- ---- a leaf, and a branch

pub at_leaf : {slots : Slots} {item : PairItem} → IsLeaf item → IsTreeIn slots (Leaf item) (item ∷ []) slots
at_leaf is = leaf_tree refl is

pub at_inner : {slots behind between rest : Slots} {slot : ℕ} {node : PairNode} {first second out : List PairItem}
    → map.get slots slot ≡ Some node → IsTreeIn (map.remove slots slot) node.out out behind
    → IsTreeIn behind node.second second between → IsTreeIn between node.first first rest
    → IsTreeIn slots (Inner slot) (B ∷ (first ++ (second ++ out))) rest
at_inner here out_tree second_tree first_tree = inner_tree refl here (in_front (in_front out_tree second_tree) first_tree)

-- ---- the items are a log

pub items_are_tree : {slots rest : Slots} {child : PairChild} {items : List PairItem} → IsTreeIn slots child items rest
    → IsTree items
items_are_tree (leaf_tree is right) = log.leaf right
items_are_tree (inner_tree is here (in_front (in_front out_tree second_tree) first_tree)) =
    log.branch (items_are_tree first_tree) (items_are_tree second_tree) (items_are_tree out_tree)

pub items_are_log : {slots rest : Slots} {child : PairChild} {items : List PairItem} → IsTreeIn slots child items rest
    → map.len slots < 2 ^ 30 → IsLog items
items_are_log tree few = record {
  is_tree = items_are_tree tree;
  few = omega (arith, count_items 3 (λ node. refl) tree, few);
}

-- ---- the trees below a branch

pub record Below (slots : Slots) (slot : ℕ) (node : PairNode) (rest : Slots) : Type 0 where
  pub firsts : List PairItem
  pub seconds : List PairItem
  pub outs : List PairItem
  pub behind : Slots
  pub between : Slots
  pub out_tree : IsTreeIn (map.remove slots slot) node.out outs behind
  pub second_tree : IsTreeIn behind node.second seconds between
  pub first_tree : IsTreeIn between node.first firsts rest

inner_is : (at : Place PairItem) (a b : ℕ) → at ≡ trees.Inner a → at ≡ trees.Inner b → a ≡ b
inner_is at a b first second = cc

not_leaf : (at : Place PairItem) (a : ℕ) (item : PairItem) → at ≡ trees.Inner a → at ≡ trees.Leaf item → ⊥
not_leaf at a item first second = absurd (cc)

some_is : (a b : PairNode) → Some a ≡ Some b → a ≡ b
some_is a b same = cc

pub below_inner : {slots rest : Slots} {root : PairChild} {items : List PairItem} (slot : ℕ) (node : PairNode) → root ≡ Inner slot
    → map.get slots slot ≡ Some node → IsTreeIn slots root items rest → Below slots slot node rest
below_inner slot node is_inner here (leaf_tree is right) =
    absurd (not_leaf _ slot _ (ap place is_inner) is)
below_inner {slots = slots} {rest = rest} slot node is_inner here (inner_tree {slot = s} {node = n} is at
    (in_front {between = behind} {items = xs} {later = ys} (in_front {between = a} {items = zs} {later = outs} out second) first)) =
    let same_slot : s ≡ slot = inner_is _ s slot is (ap place is_inner) in
    let same_node : n ≡ node = some_is n node (sym at ∙ ap (map.get slots) same_slot ∙ here) in
    record {
      firsts = xs;
      seconds = zs;
      outs = outs;
      behind = a;
      between = behind;
      out_tree = subst (λ (m : PairNode). IsTreeIn (map.remove slots slot) m.out outs a) same_node (subst (λ (k : ℕ). IsTreeIn (map.remove slots k) n.out outs a) same_slot out);
      second_tree = subst (λ (m : PairNode). IsTreeIn a m.second zs behind) same_node second;
      first_tree = subst (λ (m : PairNode). IsTreeIn behind m.first xs rest) same_node first;
    }

-- ---- a slot more

pub joined : (before after : BoundedMap PairNode) (first second out : PairChild) (slot : ℕ)
    → after ≡ with_value before slot (record { first = first; second = second; out = out }) → map.get before.values slot ≡ None
    → (firsts seconds outs : List PairItem) (behind between rest : Slots) → IsTreeIn before.values out outs behind
    → IsTreeIn behind second seconds between → IsTreeIn between first firsts rest
    → IsTreeIn after.values (Inner slot) (B ∷ (firsts ++ (seconds ++ outs))) rest
joined before after first second out slot holds was_free firsts seconds outs behind between rest out_tree second_tree first_tree =
    let node : PairNode = record { first = first; second = second; out = out } in
    let bare = given_back before.values slot node was_free in
    subst (λ (m : BoundedMap PairNode). IsTreeIn m.values (Inner slot) (B ∷ (firsts ++ (seconds ++ outs))) rest) (sym holds)
    (at_inner {node = node} (get-insert_same before.values slot node)
    (subst (λ (m : Slots). IsTreeIn m out outs behind) (sym bare) out_tree) second_tree first_tree)

pub one_more_used : (before after : BoundedMap PairNode) (slot : ℕ) (node : PairNode) → after ≡ with_value before slot node
    → map.get before.values slot ≡ None → used after ≡ used before + 1
one_more_used before after slot node holds was_free = ap used holds ∙ len-take before.values slot node was_free

pub below_unless : {m n : ℕ} → m ≤ n → ¬ (m ≡ n) → m + 1 ≤ n
below_unless {m = m} {n = n} within differ = elim (cases_eq m n) [ inl same ↦ absurd (differ same) | inr apart ↦ omega arith ]

-- a leaf takes no slot
pub leaf_rest : {slots rest : Slots} {root : PairChild} {items : List PairItem} {item : PairItem} → root ≡ Leaf item → IsTreeIn slots root items rest
    → slots ≡ rest
leaf_rest is_leaf (leaf_tree is right) = refl
leaf_rest is_leaf (inner_tree {slot = s} is at below) =
    absurd (not_leaf _ s _ is (ap place is_leaf))

-- a tree lies in another value of the region that is the same
pub moved : (before after : BoundedMap PairNode) (root other : PairChild) (items : List PairItem) (rest : Slots) → after ≡ before → other ≡ root
    → IsTreeIn before.values root items rest → IsTreeIn after.values other items rest
moved before after root other items rest same is tree =
    subst (λ (m : BoundedMap PairNode). IsTreeIn m.values other items rest) (sym same)
    (subst (λ (child : PairChild). IsTreeIn before.values child items rest) (sym is) tree)
