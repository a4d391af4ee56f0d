-- The output and the end line of the run, or the first file that is not read.
use Rattle.std.proofs.Common.{◌∷◌, [], ◌++◌, ℕ, Bool, List, append-nil, inl, refl}
use Rattle.std.proofs.lemmas.Result.{err_from_is_err_and}
use Rattle.ci_io.specs.Outcomes.{ShelfState}
use Rattle.ci_calls.specs.Files.{units_input, table_input, program_input, optional_input, optional_bytes}
use Rattle.ci_calls.specs.Inputs.{Input}
use Rattle.ci_calls.specs.Reads.{HaveRead}
use Rattle.ci_calls.specs.Refused.{name_in, modules_in}
use Rattle.ci_calls.proofs.InputLaws.{HaveRead-append, read_without_memory, unread_behind}
use Rattle.ci_commands.proofs.RunTexts.{given_are}
use Rattle.ci_commands.proofs.run.evaluate.Goals as goal

-- four lists of files are read, one after the other
four_read :
    {read_may_fail write_may_fail : List ℕ → Bool} {before first second third after : ShelfState}
    {front units tables inputs : List Input} {in_front in_units in_tables in_inputs : List (List ℕ)}
    → HaveRead read_may_fail write_may_fail before first front in_front
    → HaveRead read_may_fail write_may_fail first second units in_units
    → HaveRead read_may_fail write_may_fail second third tables in_tables
    → HaveRead read_may_fail write_may_fail third after inputs in_inputs
    → HaveRead read_may_fail write_may_fail before after (front ++ (units ++ (tables ++ inputs)))
    (in_front ++ (in_units ++ (in_tables ++ in_inputs)))
four_read a b c d =
    HaveRead-append _ _ _ _ _ _ _ _ _ a
    (HaveRead-append _ _ _ _ _ _ _ _ _ b (HaveRead-append _ _ _ _ _ _ _ _ _ c d))

pub run_text-requires-clause-modules : goal.run_text-requires-clause-modules
run_text-requires-clause-modules g c =
    let units = c.in_ok-modules.ensures in
    given_are units.0 (modules_in c.in_ok-modules.modules) units.3

pub returns-in_err-image : goal.returns-in_err-image
returns-in_err-image g c =
    let p = err_from_is_err_and c.from_residual.result c.from_residual.ensures.1 in
    let settings = c.args.settings.now in
    rw (p.1, p.2)
    (inl (c.in_err-image.ensures (optional_input units_input (name_in settings.units)
    ++ (optional_input table_input (name_in settings.table) ++ optional_input program_input (name_in settings.input)))))

pub returns-in_err-modules : goal.returns-in_err-modules
returns-in_err-modules g c =
    let p = err_from_is_err_and c.from_residual-in_err-modules.result c.from_residual-in_err-modules.ensures.1 in
    let settings = c.args.settings.now in
    rw (p.1, p.2)
    (inl (unread_behind _ _ _ _ _ _ _ _ _ c.in_ok-image.ensures.1
    (c.in_err-modules.ensures (optional_input table_input (name_in settings.table)
    ++ optional_input program_input (name_in settings.input)))))

pub returns-in_err-table : goal.returns-in_err-table
returns-in_err-table g c =
    let p = err_from_is_err_and c.from_residual-in_err-table.result c.from_residual-in_err-table.ensures.1 in
    rw (p.1, p.2)
    (inl (unread_behind _ _ _ _ _ _ _ _ _ c.in_ok-image.ensures.1
    (unread_behind _ _ _ _ _ _ _ _ _ c.in_ok-modules.ensures.2
    (c.in_err-table.ensures (optional_input program_input (name_in c.args.settings.now.input))))))

pub returns-in_err-input : goal.returns-in_err-input
returns-in_err-input g c =
    let p = err_from_is_err_and c.from_residual-in_err-input.result c.from_residual-in_err-input.ensures.1 in
    rw (p.1, p.2)
    (inl (unread_behind _ _ _ _ _ _ _ _ _ c.in_ok-image.ensures.1
    (unread_behind _ _ _ _ _ _ _ _ _ c.in_ok-modules.ensures.2
    (unread_behind _ _ _ _ _ _ _ _ _ c.in_ok-table.ensures.2
    (rw append-nil at (c.in_err-input.ensures []))))))

pub returns-in_err-text : goal.returns-in_err-text
returns-in_err-text g c =
    let p = err_from_is_err_and c.from_residual-in_err-text.result c.from_residual-in_err-text.ensures.1 in
    rw (p.1, p.2)
    (inl (read_without_memory _ _ _ _ _ _ (four_read c.in_ok-image.ensures.1 c.in_ok-modules.ensures.2
    c.in_ok-table.ensures.2 c.in_ok-input.ensures.2)))

pub returns : goal.returns
returns g c =
    let image = c.in_ok-image.ensures in
    let units = c.in_ok-modules.ensures in
    let table = c.in_ok-table.ensures in
    let input = c.in_ok-input.ensures in
    record {
      answered = image.0 ∷ (optional_bytes units.0 ++ (optional_bytes table.0 ++ optional_bytes input.0));
      read = four_read image.1 units.2 table.2 input.2;
      made = record {
        executable = image.0;
        units = units.0;
        table = table.0;
        input = input.0;
        read_is = refl;
        units_given = units.1;
        table_given = table.1;
        input_given = input.1;
        file = c.in_ok-image.image;
        modules = modules_in c.in_ok-modules.modules;
        latencies = c.in_ok-table.table;
        file_is = image.2;
        modules_are = units.3;
        latencies_are = table.3;
        text = rw input.3 at c.in_ok-text.ensures;
        writes_none = c.new.ensures.items;
      };
    }
