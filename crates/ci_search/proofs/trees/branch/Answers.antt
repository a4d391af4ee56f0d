use Rattle.std.proofs.Common.{ap, sym, true≢false}
use Rattle.ci_region.specs.BoundedMap.{BoundedMap}
use Rattle.ci_log.specs.declared.flattening.LogNode.{LogNode}
use Rattle.ci_search.proofs.BranchLaws.{joined, one_more_used, below_unless}
use Rattle.ci_search.proofs.trees.branch.Goals as goal

pub returns-in-Ok : goal.returns-in-Ok
returns-in-Ok c = record {
  one_more = one_more_used c.args.region.now c.take.new.self c.in-Ok.slot _ c.in-Ok.ensures.holds c.in-Ok.ensures.was_free;
  was_free = below_unless c.in-Ok.ensures.bounded (λ full. true≢false (sym (c.in-Ok.ensures.full.1 full)));
  same_capacity = ap (λ (m : BoundedMap LogNode). m.capacity) c.in-Ok.ensures.holds;
  tree = λ in_items out_items rest trees. joined c.args.region.now c.take.new.self c.args.taken c.args.left_out
      in_items out_items rest trees c.in-Ok.slot c.in-Ok.ensures.holds c.in-Ok.ensures.was_free;
}
