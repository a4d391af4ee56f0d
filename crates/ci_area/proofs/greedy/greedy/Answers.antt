use Rattle.std.proofs.Common.{refl}
use Rattle.ci_area.proofs.GreedyLaws.{nothing_tried, fewer_untried}
use Rattle.ci_area.proofs.greedy.greedy.Goals as goal

pub loop-next-init : goal.loop-next-init
loop-next-init c = nothing_tried c.args.pieces.now c.args.limit _ c.empty.ensures c.empty-2.ensures refl

pub loop-next-smaller : goal.loop-next-smaller
loop-next-smaller c =
    fewer_untried c.args.pieces.now c.args.limit c.in-Some.next c.loop-next.so_far c.with-so_far.result c.with-so_far.ensures.so_far
    c.in-Some.ensures c.with-so_far.ensures.tried
