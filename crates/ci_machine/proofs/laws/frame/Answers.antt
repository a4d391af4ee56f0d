use Rattle.ci_machine.proofs.InstructionFrame as laws
use Rattle.ci_machine.proofs.laws.frame.Goals as goal

pub returns : goal.returns
returns c = laws.frame
