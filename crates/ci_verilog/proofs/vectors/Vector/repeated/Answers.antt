use Rattle.std.proofs.Common.{arith, ◌∙◌}
use Rattle.ci_verilog.proofs.VectorLaws.{copies_fit, copies_stay_in_range, next_copy}
use Rattle.ci_verilog.proofs.vectors.Vector.repeated.Goals as goal

pub above-copies-requires-clause-narrow : goal.above-copies-requires-clause-narrow
above-copies-requires-clause-narrow c =
    copies_fit c.loop.counter c.args.count c.args.self c.loop.copies c.loop.invariant (omega arith) c.requires.narrow

pub above-copies-requires-clause-high_in_range : goal.above-copies-requires-clause-high_in_range
above-copies-requires-clause-high_in_range c =
    copies_stay_in_range c.loop.counter c.args.self c.loop.copies c.loop.invariant c.requires.in_range

pub loop-preserved : goal.loop-preserved
loop-preserved c = c.above-copies.ensures ∙ next_copy c.loop.counter c.args.self c.loop.copies c.loop.invariant
