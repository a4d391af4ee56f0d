use Rattle.ci_log.proofs.OneFault.{one_fault}
use Rattle.ci_log.proofs.laws.a_text_has_one_fault.Goals as goal

pub returns : goal.returns
returns c = one_fault
