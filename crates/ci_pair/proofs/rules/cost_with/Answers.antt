use Rattle.std.proofs.Common.{true, arith}
use Rattle.ci_cut.proofs.BoundLaws.{bound_falls}
use Rattle.ci_pair.proofs.FallLaws.{output_falls, no_cost}
use Rattle.ci_pair.proofs.rules.cost_with.Goals as goal

pub returns-then-outputs_with-terms : goal.returns-then-outputs_with-terms
returns-then-outputs_with-terms c prefix delays represents next =
    output_falls c.args.graph.now represents.kept prefix c.args.node next _
    (omega (arith, c.read.ensures, c.pad.ensures, represents.kept.pad_read))
    (omega (arith, c.if-terms-gt0.true, represents.outputs_are))
    (omega (arith, c.if-outputs_with-terms.true, c.outputs_with.ensures prefix delays represents next, represents.outputs_are))

pub returns-else-terms-gt0 : goal.returns-else-terms-gt0
returns-else-terms-gt0 c prefix delays represents next =
    no_cost (bound_falls c.args.graph.now represents.kept prefix true)
