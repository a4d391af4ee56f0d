use Rattle.ci_log.proofs.PackingLaws.{goes_on_from, next_ten, tens_written}
use Rattle.ci_log.proofs.packing.push_tens.Goals as goal

pub loop-init : goal.loop-init
loop-init c = (c.requires, goes_on_from _ _)

pub loop-preserved : goal.loop-preserved
loop-preserved c = (c.in_ok-high.ensures.half, next_ten _ _ _ _ _ _ c.loop.counter c.loop.invariant.1 c.in_ok-high.ensures.written)

pub returns-clause-written : goal.returns-clause-written
returns-clause-written c = tens_written _ _ _ _ c.args.tens c.loop.counter c.loop.invariant.1 c.loop.auto.counter-end c.loop-test.false
