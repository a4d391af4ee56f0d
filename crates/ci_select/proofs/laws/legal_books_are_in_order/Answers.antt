use Rattle.ci_select.proofs.BookLaws.{legal_books_are_books}
use Rattle.ci_select.proofs.laws.legal_books_are_in_order.Goals as goal

pub returns : goal.returns
returns c = legal_books_are_books
