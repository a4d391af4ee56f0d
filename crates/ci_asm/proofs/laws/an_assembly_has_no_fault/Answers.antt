use Rattle.ci_asm.proofs.Promises.{no_fault}
use Rattle.ci_asm.proofs.laws.an_assembly_has_no_fault.Goals as goal

pub returns : goal.returns
returns c = no_fault
