use Rattle.ci_log.proofs.OneFault.{due_book, due_fault}
use Rattle.ci_log.proofs.reading.read.Goals as goal

pub returns-clause-due_book : goal.returns-clause-due_book
returns-clause-due_book c = due_book c.args.bytes.now c.book_or_fault.result c.book_or_fault.ensures.book c.book_or_fault.ensures.fault

pub returns-clause-due_fault : goal.returns-clause-due_fault
returns-clause-due_fault c = due_fault c.args.bytes.now c.book_or_fault.result c.book_or_fault.ensures.book c.book_or_fault.ensures.fault
