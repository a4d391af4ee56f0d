-- The log book of the bytes of the file, or why there is none.
use Rattle.std.proofs.Common.{Ok}
use Rattle.std.proofs.lemmas.Result.{err_from_is_err_and}
use Rattle.ci_calls.specs.Files.{book_input}
use Rattle.ci_calls.proofs.InputLaws.{one_read, first_unread, bad_book}
use Rattle.ci_calls.proofs.inputs.read_book.Goals as goal

pub returns-in_err-book : goal.returns-in_err-book
returns-in_err-book g c =
    let p = err_from_is_err_and c.from_residual-in_err-book.result c.from_residual-in_err-book.ensures.1 in
    let file = c.in_ok-bytes.ensures in
    rw (p.1, p.2) (λ others.
    first_unread _ _ _ _ others (book_input c.args.name.now) (Ok c.in_ok-bytes.bytes.items) _
    (file.within_limit, bad_book _ c.in_err-book.field-0.0 (rw c.as_slice.ensures.value at c.in_err-book.ensures.fault)) file.read)

pub returns : goal.returns
returns g c =
    let is = rw c.as_slice.ensures.value at c.in_ok-book.ensures.book in
    let file = c.in_ok-bytes.ensures in
    (c.in_ok-bytes.bytes.items, one_read _ _ _ _ _ _ file.read file.within_limit (c.in_ok-book.book, is), is)
