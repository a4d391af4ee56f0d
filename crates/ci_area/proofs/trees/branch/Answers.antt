use Rattle.std.proofs.Common.{refl, ap, sym, ◌∙◌, true≢false}
use Rattle.ci_region.specs.BoundedMap.{BoundedMap}
use Rattle.ci_area.specs.declared.flattening.AreaNode.{AreaNode}
use Rattle.ci_area.proofs.AreaRegionLaws.{joined, one_more_used, below_unless, second_back, first_back}
use Rattle.ci_area.proofs.trees.branch.Goals as goal

pub returns-in-Ok : goal.returns-in-Ok
returns-in-Ok c = record {
  one_more = one_more_used c.args.region.now c.take.new.self c.in-Ok.slot _ c.in-Ok.ensures.holds c.in-Ok.ensures.was_free;
  was_free = below_unless c.in-Ok.ensures.bounded (λ full. true≢false (sym (c.in-Ok.ensures.full.1 full)));
  same_capacity = ap (λ (m : BoundedMap AreaNode). m.capacity) c.in-Ok.ensures.holds;
  tree = joined c.args.region.now c.take.new.self c.args.taken c.args.left_out c.in-Ok.slot c.in-Ok.ensures.holds c.in-Ok.ensures.was_free;
}

pub give_back-requires : goal.give_back-requires
give_back-requires c =
    let r = c.requires in
    (r.0, r.1, second_back c.args.region.now c.take.new.self c.args.taken c.args.left_out c.in-Err.node c.in-Err.ensures.unchanged c.in-Err.ensures.value_back r.0 r.1 r.2)

pub give_back-requires-in-Err : goal.give_back-requires-in-Err
give_back-requires-in-Err c =
    let r = c.requires in
    let once = c.give_back.ensures r.0 r.1
    (second_back c.args.region.now c.take.new.self c.args.taken c.args.left_out c.in-Err.node c.in-Err.ensures.unchanged c.in-Err.ensures.value_back r.0 r.1 r.2) in
    (r.3.0, r.3.1, first_back c.args.taken c.args.left_out c.in-Err.node c.in-Err.ensures.value_back r.3.0 r.1 r.3.1 c.give_back.new.region c.take.new.self.capacity once r.3.2)

pub returns-in-Err : goal.returns-in-Err
returns-in-Err c = (
  c.in-Err.ensures.full.0 refl,
  λ seconds firsts between rest second_tree first_tree.
      let once = c.give_back.ensures seconds between
      (second_back c.args.region.now c.take.new.self c.args.taken c.args.left_out c.in-Err.node c.in-Err.ensures.unchanged c.in-Err.ensures.value_back seconds between second_tree) in
      let twice = c.give_back-in-Err.ensures firsts rest
      (first_back c.args.taken c.args.left_out c.in-Err.node c.in-Err.ensures.value_back firsts between rest c.give_back.new.region c.take.new.self.capacity once first_tree) in
      twice ∙ (λ i. record {
        values = rest;
        capacity = (ap (λ (m : BoundedMap AreaNode). m.capacity) once ∙ ap (λ (m : BoundedMap AreaNode). m.capacity) c.in-Err.ensures.unchanged) i;
      }),
)
