use Rattle.std.proofs.Common.{sym, ap, ◌∙◌, subst, arith}
use Rattle.ci_region.specs.BoundedMap.{BoundedMap, used}
use Rattle.ci_region.proofs.MapLaws.{fewer_without}
use Rattle.ci_region.proofs.TreeLaws.{rest_is_fewer}
use Rattle.ci_area.specs.declared.flattening.AreaNode.{AreaNode}
use Rattle.ci_area.specs.AreaRegionTrees.{IsTreeIn}
use Rattle.ci_area.proofs.AreaRegionLaws.{below_inner, leaf_rest}
use Rattle.ci_area.proofs.trees.+give_back.Goals as goal

pub give_back-requires : goal.give_back-requires
give_back-requires t c =
    let b = below_inner c.in-Inner.slot c.give-node.result c.in-Inner.is c.give-node.ensures.value c.requires.2 in
    let without = c.give-node.ensures.rest in (
      omega (arith, fewer_without c.args.region.now.values c.in-Inner.slot c.give-node.result c.give-node.ensures.value, ap used without),
      (b.seconds, b.between, subst (λ (m : BoundedMap AreaNode). IsTreeIn m.values c.give-node.result.left_out b.seconds b.between) (sym without) b.second_tree),
    )

pub give_back-requires-in-Inner : goal.give_back-requires-in-Inner
give_back-requires-in-Inner t c =
    let b = below_inner c.in-Inner.slot c.give-node.result c.in-Inner.is c.give-node.ensures.value c.requires.2 in
    let without = c.give-node.ensures.rest in
    let second = c.give_back.ensures b.seconds b.between
    (subst (λ (m : BoundedMap AreaNode). IsTreeIn m.values c.give-node.result.left_out b.seconds b.between) (sym without) b.second_tree) in (
      omega (
        arith,
        fewer_without c.args.region.now.values c.in-Inner.slot c.give-node.result c.give-node.ensures.value,
        rest_is_fewer b.second_tree,
        ap used second,
      ),
      (b.firsts, c.requires.1, subst (λ (m : BoundedMap AreaNode). IsTreeIn m.values c.give-node.result.taken b.firsts c.requires.1) (sym second) b.first_tree),
    )

pub returns-in-Inner : goal.returns-in-Inner
returns-in-Inner t c items rest tree =
    let b = below_inner c.in-Inner.slot c.give-node.result c.in-Inner.is c.give-node.ensures.value tree in
    let without = c.give-node.ensures.rest in
    let second = c.give_back.ensures b.seconds b.between
    (subst (λ (m : BoundedMap AreaNode). IsTreeIn m.values c.give-node.result.left_out b.seconds b.between) (sym without) b.second_tree) in
    let first = c.give_back-in-Inner.ensures b.firsts rest
    (subst (λ (m : BoundedMap AreaNode). IsTreeIn m.values c.give-node.result.taken b.firsts rest) (sym second) b.first_tree) in
    first ∙ (λ i. record {
      values = rest;
      capacity = (ap (λ (m : BoundedMap AreaNode). m.capacity) second ∙ ap (λ (m : BoundedMap AreaNode). m.capacity) without) i;
    })

pub returns-in-Leaf : goal.returns-in-Leaf
returns-in-Leaf t c items rest tree = λ i. record { values = leaf_rest c.in-Leaf.is tree i; capacity = c.args.region.now.capacity }
