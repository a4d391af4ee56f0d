use Rattle.std.proofs.Common.{◌≡◌, List, [], ◌∷◌, ◌++◌, append_assoc, length, refl, sym, ap, ◌∙◌, subst, arith}
use Rattle.ci_region.proofs.TreeLaws.{at_first, fewer_left, leaf_read, slot_is_live, node_read, all_are_read}
use Rattle.ci_area.specs.declared.flattening.AreaChild.{AreaChild}
use Rattle.ci_area.specs.AreaRegionTrees.{place}
use Rattle.ci_area.specs.AreaTrees.{IsLog}
use Rattle.ci_area.proofs.AreaRegionLaws.{items_are_log}
use Rattle.ci_area.proofs.flattening.flatten_area.Goals as goal

pub loop-child-init : goal.loop-child-init
loop-child-init c listed rest tree =
    at_first _ listed rest c.args.root _ _ tree
    (c.in_ok-push.ensures.items ∙ ap (λ (cs : List AreaChild). cs ++ c.args.root ∷ []) c.new-waiting.ensures.items)
    c.new-items.ensures.items

pub loop-child-smaller-in-Continue-branch-2 : goal.loop-child-smaller-in-Continue-branch-2
loop-child-smaller-in-Continue-branch-2 c =
    let tree = c.requires.tree in
    fewer_left _ tree.0 _ _ c.in-Some.child _ c.in-Some.ensures.items (c.loop-child.invariant tree.0 tree.1 tree.2)
    2 (λ node. refl) c.args.root tree.1 tree.2 _ _ c.in_ok-push-in-Leaf.ensures.items

pub loop-child-preserved-in-Continue-branch-2 : goal.loop-child-preserved-in-Continue-branch-2
loop-child-preserved-in-Continue-branch-2 c listed rest tree =
    leaf_read _ listed _ _ c.in-Some.child _ c.in-Some.ensures.items (c.loop-child.invariant listed rest tree)
    c.in-Leaf.item (ap place c.in-Leaf.is) _ c.in_ok-push-in-Leaf.ensures.items

pub get-node-requires : goal.get-node-requires
get-node-requires c =
    let tree = c.requires.tree in
    slot_is_live _ tree.0 _ _ c.in-Some.child _ c.in-Some.ensures.items (c.loop-child.invariant tree.0 tree.1 tree.2)
    c.in-Inner.slot (ap place c.in-Inner.is)

pub loop-child-smaller : goal.loop-child-smaller
loop-child-smaller c =
    let tree = c.requires.tree in
    fewer_left _ tree.0 _ _ c.in-Some.child _ c.in-Some.ensures.items (c.loop-child.invariant tree.0 tree.1 tree.2)
    2 (λ node. refl) c.args.root tree.1 tree.2 _ _ c.in_ok-push-in-Inner.ensures.items

pub loop-child-preserved : goal.loop-child-preserved
loop-child-preserved c listed rest tree =
    let node = c.get-node.result.now in
    let behind : c.push-in-Inner-3.new.self.items ≡ c.pop.new.self.items ++ node.left_out ∷ node.taken ∷ [] =
    grind (arith, append_assoc, c.in_ok-push-in-Inner-2.ensures.items, c.in_ok-push-in-Inner-3.ensures.items) in
    node_read _ listed _ _ c.in-Some.child _ c.in-Some.ensures.items (c.loop-child.invariant listed rest tree)
    c.in-Inner.slot (ap place c.in-Inner.is) node c.get-node.ensures _ _ behind c.in_ok-push-in-Inner.ensures.items

pub new-requires : goal.new-requires
new-requires c =
    let tree = c.requires.tree in
    let none : length c.loop-child.waiting.items ≡ 0 = omega (arith, c.loop-child.waiting.ok.0, c.in_default.ensures.cases.0) in
    subst IsLog (sym (all_are_read _ tree.0 _ _ none (c.loop-child.invariant tree.0 tree.1 tree.2)))
    (items_are_log tree.2 c.requires.few)

pub returns : goal.returns
returns c listed rest tree =
    let none : length c.loop-child.waiting.items ≡ 0 = omega (arith, c.loop-child.waiting.ok.0, c.in_default.ensures.cases.0) in
    c.new.ensures ∙ all_are_read _ listed _ _ none (c.loop-child.invariant listed rest tree)
