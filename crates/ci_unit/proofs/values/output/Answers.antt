use Rattle.ci_unit.proofs.ValueLaws.{output_there, output_absent}
use Rattle.ci_unit.proofs.values.output.Goals as goal

pub returns-in-Some : goal.returns-in-Some
returns-in-Some c =
    output_there c.args.results.now c.args.outputs.now c.args.place c.in-Some.n.now c.in-Some.ensures.lookup.0 c.in-Some.ensures.lookup.1

pub returns-in-None : goal.returns-in-None
returns-in-None c = output_absent c.args.results.now c.args.outputs.now c.args.place c.in-None.ensures.lookup.0
