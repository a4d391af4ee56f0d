use Rattle.ci_gen.proofs.RunLaws.{programs_exit}
use Rattle.ci_gen.proofs.laws.programs_exit.Goals as goal

pub returns : goal.returns
returns c = programs_exit
