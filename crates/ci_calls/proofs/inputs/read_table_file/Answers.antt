-- The table of the file's bytes, or why they are none.
use Rattle.std.proofs.Common.{Ok}
use Rattle.std.proofs.lemmas.Result.{err_from_is_err_and}
use Rattle.ci_calls.specs.Files.{table_input}
use Rattle.ci_calls.proofs.InputLaws.{one_read, first_unread, bad_table}
use Rattle.ci_calls.proofs.inputs.read_table_file.Goals as goal

pub returns-in_err-table : goal.returns-in_err-table
returns-in_err-table g c =
    let p = err_from_is_err_and c.from_residual-in_err-table.result c.from_residual-in_err-table.ensures.1 in
    let file = c.in_ok-bytes.ensures in
    rw (p.1, p.2) (λ others.
    first_unread _ _ _ _ others (table_input c.args.name.now) (Ok c.in_ok-bytes.bytes.items) _
    (file.within_limit, bad_table _ c.in_err-table.field-0.0 (rw c.as_slice.ensures.value at c.in_err-table.ensures.fault)) file.read)

pub returns : goal.returns
returns g c =
    let is = rw c.as_slice.ensures.value at c.in_ok-table.ensures.ok in
    let file = c.in_ok-bytes.ensures in
    (c.in_ok-bytes.bytes.items, one_read _ _ _ _ _ _ file.read file.within_limit (c.in_ok-table.table, is), is)
