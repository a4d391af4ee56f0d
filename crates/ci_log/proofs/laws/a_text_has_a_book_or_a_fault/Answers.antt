use Rattle.ci_log.proofs.OneFault.{book_or_fault}
use Rattle.ci_log.proofs.laws.a_text_has_a_book_or_a_fault.Goals as goal

pub returns : goal.returns
returns c = book_or_fault
