-- The line of the best cut of the block that the file holds, or why it holds none.
use Rattle.std.proofs.Common.{[], ◌∷◌, append-nil, inl, refl}
use Rattle.std.proofs.lemmas.Result.{err_from_is_err_and}
use Rattle.ci_calls.specs.Files.{table_input, optional_input, optional_bytes}
use Rattle.ci_calls.specs.Refused.{name_in}
use Rattle.ci_calls.proofs.InputLaws.{HaveRead-append, unread_behind}
use Rattle.ci_commands.specs.BestCommand.{best_inputs, HoldsNoBlock, IsBestRefused}
use Rattle.ci_commands.proofs.Causes.{refused_by}
use Rattle.ci_commands.proofs.best.evaluate.Goals as goal

pub returns-in_err-block : goal.returns-in_err-block
returns-in_err-block g c =
    let p = err_from_is_err_and c.from_residual.result c.from_residual.ensures.1 in
    rw (p.1, p.2) (inl (c.in_err-block.ensures.reading (optional_input table_input (name_in c.args.settings.now.table))))

pub returns-in_err-table : goal.returns-in_err-table
returns-in_err-table g c =
    let p = err_from_is_err_and c.from_residual-in_err-table.result c.from_residual-in_err-table.ensures.1 in
    rw (p.1, p.2) (inl (unread_behind _ _ _ _ _ _ _ _ _ c.in_ok-block.ensures.reading.1
    (rw append-nil at (c.in_err-table.ensures []))))

pub returns-in_err-line : goal.returns-in_err-line
returns-in_err-line g c =
    let p = err_from_is_err_and c.from_residual-in_err-line.result c.from_residual-in_err-line.ensures.1 in
    let file = c.in_ok-block.ensures.reading in
    let table = c.in_ok-table.ensures in
    let settings = c.args.settings.now in
    rw (p.1, p.2)
    (refused_by g.F.Shelf.read_may_fail g.F.Shelf.write_may_fail (g.F.Shelf.state c.args.shelf.now)
    (g.F.Shelf.state c.read_table.new.shelf) (best_inputs settings.at c.args.file.now (name_in settings.table))
    (file.0 ∷ optional_bytes table.0) (HaveRead-append _ _ _ _ _ _ _ _ _ file.1 table.2)
    (IsBestRefused settings.at settings.leaders.now) (HoldsNoBlock settings.at settings.leaders.now file.0)
    (λ refusal unsupported. record {
      bytes = file.0;
      others = optional_bytes table.0;
      read_is = refl;
      unsupported = unsupported;
    })
    c.in_err-line.field-0.0 (c.in_err-line.ensures.cause settings.at file.0 file.2))

pub returns : goal.returns
returns g c =
    let file = c.in_ok-block.ensures.reading in
    let table = c.in_ok-table.ensures in
    let found = c.in_ok-line.ensures.done c.args.settings.now.at file.0 file.2 in
    record {
      answered = file.0 ∷ optional_bytes table.0;
      read = HaveRead-append _ _ _ _ _ _ _ _ _ file.1 table.2;
      made = record {
        bytes = file.0;
        table = table.0;
        read_is = refl;
        table_given = table.1;
        insns = found.0;
        live_out = found.1;
        latencies = c.in_ok-table.table;
        block = found.2;
        latencies_are = table.3;
        line = rw c.into_bytes.ensures.value found.3;
        writes_none = c.new.ensures.items;
      };
    }
