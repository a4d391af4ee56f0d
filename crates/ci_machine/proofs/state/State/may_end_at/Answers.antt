use Rattle.ci_machine.specs.States.{program_of}
use Rattle.ci_machine.proofs.state.State.may_end_at.Goals as goal

pub returns : goal.returns
unfolding program_of
returns c = c.may_end_at.ensures c.args.self.now.text
