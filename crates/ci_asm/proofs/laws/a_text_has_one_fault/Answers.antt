use Rattle.ci_asm.proofs.Promises.{one_fault}
use Rattle.ci_asm.proofs.laws.a_text_has_one_fault.Goals as goal

pub returns : goal.returns
returns c = one_fault
