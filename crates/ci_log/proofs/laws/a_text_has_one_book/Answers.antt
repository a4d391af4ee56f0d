use Rattle.ci_log.proofs.OneFault.{one_book}
use Rattle.ci_log.proofs.laws.a_text_has_one_book.Goals as goal

pub returns : goal.returns
returns c = one_book
