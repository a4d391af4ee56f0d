use Rattle.std.specs.Prelude.{MatchOption}
use Rattle.std.proofs.Common.{ℕ, Option, ◌≡◌, List, [], ◌∷◌, ◌++◌, append_assoc, length, length-append, refl, sym, ap, ◌∙◌, subst, arith}
use Rattle.ci_region.specs.private.TreeReading.{IsReadUpTo}
use Rattle.ci_region.proofs.TreeLaws.{at_first, fewer_left, leaf_read, slot_is_live, node_read}
use Rattle.ci_log.specs.declared.log.Item.{Item}
use Rattle.ci_log.specs.declared.log.Item.TheVariants.{B}
use Rattle.ci_log.specs.declared.flattening.Child.{Child}
use Rattle.ci_log.specs.declared.flattening.Child.TheVariants.{Inner}
use Rattle.ci_log.specs.RegionTrees.{Slots, place, log_tree}
use Rattle.ci_log.specs.Trees.{IsLog}
use Rattle.ci_log.proofs.RegionTreeLaws.{items_are_log}
use Rattle.ci_log.proofs.flattening.flatten.Goals as goal

-- what `first_branch` says of the slot that it finds, if any
abbrev IsListed : Slots → List Child → List Item → List Item → Option ℕ → Type 0
IsListed slots waiting items listed found =
    MatchOption found (items ≡ listed) (λ slot. IsReadUpTo log_tree slots (waiting ++ Inner slot ∷ []) items listed)

pub new-requires : goal.new-requires
new-requires c =
    let tree = c.requires.tree in
    let all : c.first_branch.new.items.items ≡ tree.0 =
    subst (IsListed c.args.region.now.values c.first_branch.new.waiting.items c.first_branch.new.items.items tree.0)
    c.in_default.is
    (c.in_ok-slot.ensures.listed c.args.region.now.values tree.0
    (at_first _ tree.0 tree.1 c.args.root _ _ tree.2
    (ap (λ (cs : List Child). cs ++ c.args.root ∷ []) c.new-waiting.ensures.items) c.new-items.ensures.items)) in
    subst IsLog (sym all) (items_are_log tree.2 c.requires.few)

pub returns-in_default : goal.returns-in_default
returns-in_default c listed rest tree =
    c.new.ensures
    ∙ subst (IsListed c.args.region.now.values c.first_branch.new.waiting.items c.first_branch.new.items.items listed)
    c.in_default.is
    (c.in_ok-slot.ensures.listed c.args.region.now.values listed
    (at_first _ listed rest c.args.root _ _ tree
    (ap (λ (cs : List Child). cs ++ c.args.root ∷ []) c.new-waiting.ensures.items) c.new-items.ensures.items))

pub loop-waiting-init : goal.loop-waiting-init
loop-waiting-init c listed rest tree =
    subst (IsListed c.args.region.now.values c.first_branch.new.waiting.items c.first_branch.new.items.items listed)
    c.in-Some.is
    (c.in_ok-slot.ensures.listed c.args.region.now.values listed
    (at_first _ listed rest c.args.root _ _ tree
    (ap (λ (cs : List Child). cs ++ c.args.root ∷ []) c.new-waiting.ensures.items) c.new-items.ensures.items))

pub get-node-requires : goal.get-node-requires
get-node-requires c =
    let tree = c.requires.tree in
    slot_is_live _ tree.0 _ c.loop-waiting.waiting.items (Inner c.loop-waiting.slot) _ refl
    (c.loop-waiting.invariant tree.0 tree.1 tree.2) c.loop-waiting.slot refl

pub new-requires-in_default-2 : goal.new-requires-in_default-2
new-requires-in_default-2 c =
    let tree = c.requires.tree in
    let node = c.get-node.result.now in
    let all : c.first_branch-in-Leaf.new.items.items ≡ tree.0 =
    subst (IsListed c.args.region.now.values c.first_branch-in-Leaf.new.waiting.items c.first_branch-in-Leaf.new.items.items tree.0)
    c.in_default-2.is
    (c.in_ok-next-in-Leaf.ensures.listed c.args.region.now.values tree.0
    (leaf_read _ tree.0 _ (c.loop-waiting.waiting.items ++ node.left_out ∷ []) node.taken _
    (sym (append_assoc c.loop-waiting.waiting.items (node.left_out ∷ []) (node.taken ∷ [])))
    (node_read _ tree.0 _ c.loop-waiting.waiting.items (Inner c.loop-waiting.slot) _ refl
    (c.loop-waiting.invariant tree.0 tree.1 tree.2) c.loop-waiting.slot refl node c.get-node.ensures _ _ refl
    c.in_ok-push.ensures.items)
    c.in-Leaf.item (ap place c.in-Leaf.is) _ c.in_ok-push-in-Leaf.ensures.items)) in
    subst IsLog (sym all) (items_are_log tree.2 c.requires.few)

pub returns-in_default-2 : goal.returns-in_default-2
returns-in_default-2 c listed rest tree =
    let node = c.get-node.result.now in
    c.new-in_default-2.ensures
    ∙ subst (IsListed c.args.region.now.values c.first_branch-in-Leaf.new.waiting.items c.first_branch-in-Leaf.new.items.items listed)
    c.in_default-2.is
    (c.in_ok-next-in-Leaf.ensures.listed c.args.region.now.values listed
    (leaf_read _ listed _ (c.loop-waiting.waiting.items ++ node.left_out ∷ []) node.taken _
    (sym (append_assoc c.loop-waiting.waiting.items (node.left_out ∷ []) (node.taken ∷ [])))
    (node_read _ listed _ c.loop-waiting.waiting.items (Inner c.loop-waiting.slot) _ refl
    (c.loop-waiting.invariant listed rest tree) c.loop-waiting.slot refl node c.get-node.ensures _ _ refl
    c.in_ok-push.ensures.items)
    c.in-Leaf.item (ap place c.in-Leaf.is) _ c.in_ok-push-in-Leaf.ensures.items))

pub loop-waiting-smaller-in_ok-push-in-Inner : goal.loop-waiting-smaller-in_ok-push-in-Inner
loop-waiting-smaller-in_ok-push-in-Inner c =
    let tree = c.requires.tree in
    fewer_left _ tree.0 _ c.loop-waiting.waiting.items (Inner c.loop-waiting.slot) _ refl
    (c.loop-waiting.invariant tree.0 tree.1 tree.2) 2 (λ node. refl) c.args.root tree.1 tree.2 _ _
    c.in_ok-push.ensures.items

pub loop-waiting-preserved-in_ok-push-in-Inner : goal.loop-waiting-preserved-in_ok-push-in-Inner
loop-waiting-preserved-in_ok-push-in-Inner c listed rest tree =
    let node = c.get-node.result.now in
    let behind : c.push-in-Inner.new.self.items ++ Inner c.in-Inner.next ∷ []
    ≡ c.loop-waiting.waiting.items ++ node.left_out ∷ node.taken ∷ [] =
    grind (arith, append_assoc, c.in_ok-push-in-Inner.ensures.items, c.in-Inner.is) in
    node_read _ listed _ c.loop-waiting.waiting.items (Inner c.loop-waiting.slot) _ refl
    (c.loop-waiting.invariant listed rest tree) c.loop-waiting.slot refl node c.get-node.ensures _ _ behind
    c.in_ok-push.ensures.items

pub loop-waiting-smaller : goal.loop-waiting-smaller
loop-waiting-smaller c =
    let tree = c.requires.tree in
    let fewer = fewer_left _ tree.0 _ c.loop-waiting.waiting.items (Inner c.loop-waiting.slot) _ refl
    (c.loop-waiting.invariant tree.0 tree.1 tree.2) 2 (λ node. refl) c.args.root tree.1 tree.2 B _
    c.in_ok-push.ensures.items in
    omega (
      arith,
      fewer,
      c.in_ok-next-in-Leaf.ensures.longer,
      ap (λ (xs : List Item). length xs) c.in_ok-push-in-Leaf.ensures.items,
      length-append c.push.new.self.items (c.in-Leaf.item ∷ []),
    )

pub loop-waiting-preserved : goal.loop-waiting-preserved
loop-waiting-preserved c listed rest tree =
    let node = c.get-node.result.now in
    subst (IsListed c.args.region.now.values c.first_branch-in-Leaf.new.waiting.items c.first_branch-in-Leaf.new.items.items listed)
    c.in-Some-2.is
    (c.in_ok-next-in-Leaf.ensures.listed c.args.region.now.values listed
    (leaf_read _ listed _ (c.loop-waiting.waiting.items ++ node.left_out ∷ []) node.taken _
    (sym (append_assoc c.loop-waiting.waiting.items (node.left_out ∷ []) (node.taken ∷ [])))
    (node_read _ listed _ c.loop-waiting.waiting.items (Inner c.loop-waiting.slot) _ refl
    (c.loop-waiting.invariant listed rest tree) c.loop-waiting.slot refl node c.get-node.ensures _ _ refl
    c.in_ok-push.ensures.items)
    c.in-Leaf.item (ap place c.in-Leaf.is) _ c.in_ok-push-in-Leaf.ensures.items))
