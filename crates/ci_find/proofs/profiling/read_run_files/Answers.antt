-- The table and the input, or the first of them that is not read.
use Rattle.std.proofs.Common.{[], append-nil}
use Rattle.std.proofs.lemmas.Result.{err_from_is_err_and}
use Rattle.ci_calls.specs.Files.{table_input, program_input, optional_input, optional_bytes}
use Rattle.ci_calls.specs.Refused.{name_in}
use Rattle.ci_calls.proofs.InputLaws.{HaveRead-append, unread_behind}
use Rattle.ci_find.proofs.profiling.read_run_files.Goals as goal

pub returns-in_err-input-clause-refused : goal.returns-in_err-input-clause-refused
returns-in_err-input-clause-refused g c =
    let p = err_from_is_err_and c.from_residual-in_err-input.result c.from_residual-in_err-input.ensures.1 in
    let table = c.in_ok-table.ensures in
    rw (p.1, p.2)
    (unread_behind g.F.Shelf.read_may_fail g.F.Shelf.write_may_fail (g.F.Shelf.state c.args.shelf.now)
    (g.F.Shelf.state c.read_table.new.shelf) (g.F.Shelf.state c.read_input.new.shelf)
    (optional_input table_input (name_in c.args.table)) (optional_input program_input (name_in c.args.input))
    (optional_bytes table.0) c.in_err-input.field-0.0 table.2
    (rw append-nil at (c.in_err-input.ensures [])))

pub returns-clause-read : goal.returns-clause-read
returns-clause-read g c =
    let table = c.in_ok-table.ensures in
    let input = c.in_ok-input.ensures in (
      table.0,
      input.0,
      table.1,
      input.1,
      HaveRead-append g.F.Shelf.read_may_fail g.F.Shelf.write_may_fail (g.F.Shelf.state c.args.shelf.now)
          (g.F.Shelf.state c.read_table.new.shelf) (g.F.Shelf.state c.read_input.new.shelf)
          (optional_input table_input (name_in c.args.table)) (optional_input program_input (name_in c.args.input))
          (optional_bytes table.0) (optional_bytes input.0) table.2 input.2,
      table.3,
      input.3,
    )
