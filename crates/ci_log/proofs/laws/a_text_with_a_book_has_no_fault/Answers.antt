use Rattle.ci_log.proofs.OneFault.{no_fault}
use Rattle.ci_log.proofs.laws.a_text_with_a_book_has_no_fault.Goals as goal

pub returns : goal.returns
returns c = no_fault
