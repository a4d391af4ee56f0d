use Rattle.ci_asm.proofs.Promises.{one_assembly}
use Rattle.ci_asm.proofs.laws.a_text_has_one_assembly.Goals as goal

pub returns : goal.returns
returns c = one_assembly
