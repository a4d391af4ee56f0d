use Rattle.std.proofs.Common.{sym, ◌∙◌, arith}
use Rattle.std.specs.FinSet as set
use Rattle.ci_word.proofs.NumberLaws.{count_below-zero, count_below-le}
use Rattle.ci_cut.proofs.PortLaws.{counted, not_counted}
use Rattle.ci_unit.proofs.cuts.members_below.Goals as goal
use Rattle.ci_unit.proofs.cuts.members_below.Goals.{then-has, else-has}

pub loop-k-init : goal.loop-k-init
loop-k-init c = sym (count_below-zero _)

pub overflow_add-count : goal.overflow_add-count
overflow_add-count c =
    omega (arith, c.loop-k.invariant, c.loop-k-test.true, c.ranges.node.fits, count_below-le c.loop-k.k (set.contains c.args.cut.now))

pub loop-k-preserved : goal.loop-k-preserved
loop-k-preserved c =
    let cut = set.contains c.args.cut.now in
    elim c.if-has.branch [
      | then-has w ↦ w.count-is ∙ counted c.loop-k.k cut c.loop-k.count c.loop-k.invariant (sym c.has.ensures.value ∙ w.if-has.true)
      | else-has w ↦ w.count-is ∙ not_counted c.loop-k.k cut c.loop-k.count c.loop-k.invariant (sym c.has.ensures.value ∙ w.if-has.false)
    ]
