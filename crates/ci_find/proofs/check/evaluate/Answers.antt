-- That the files of a choice are accepted, or the first file that is not read, or why they are refused.
use Rattle.std.proofs.Common.{[], ◌∷◌, ◌++◌, ℕ, List, Ok, inl, subst, sym}
use Rattle.std.proofs.lemmas.Result.{err_from_is_err_and}
use Rattle.ci_elf.specs.Rules.{IsReadAs}
use Rattle.ci_calls.specs.Files.{book_input, executable_input, new_file_input, units_input, optional_bytes}
use Rattle.ci_calls.specs.Reads.{HaveRead}
use Rattle.ci_calls.specs.Refused.{name_in}
use Rattle.ci_calls.proofs.InputLaws.{HaveRead-append, unread_behind}
use Rattle.ci_find.specs.private.Chosen.{check_names_of, settings_by}
use Rattle.ci_find.specs.CheckCommand.{check_inputs}
use Rattle.ci_find.specs.Profiled.{run_files, RunFiles, IsProfiled, Profiled}
use Rattle.ci_find.specs.private.Unprofiled.{IsUnprofiledCause}
use Rattle.ci_find.proofs.Judgements.{all_read, run_held, profiled_held, judged, unprofiled_refused}
use Rattle.ci_find.proofs.check.evaluate.Given.{Over}
use Rattle.ci_find.proofs.check.evaluate.Goals as goal
use Rattle.ci_find.proofs.check.evaluate.Goals.{In_ok-table, In_ok-profiled}

-- the bytes of the table and the input
abbrev bytes_of_run : (g : Over) (c : In_ok-table g) → List (List ℕ)
bytes_of_run g c = optional_bytes c.in_ok-table.ensures.read.0 ++ optional_bytes c.in_ok-table.ensures.read.1

-- all files of the command are read
all_files : (g : Over) (c : In_ok-table g)
    → HaveRead g.F.Shelf.read_may_fail g.F.Shelf.write_may_fail (g.F.Shelf.state c.args.shelf.now)
    (g.F.Shelf.state c.read_run_files.new.shelf)
    (check_inputs c.args.file.now (check_names_of c.args.names.now) (name_in c.args.settings.now.table)
    (name_in c.args.settings.now.input))
    (c.in_ok-image.ensures.0 ∷ c.in_ok-choice.choice.new.items ∷ c.in_ok-choice.ensures.read.0
    ∷ c.in_ok-choice.ensures.read.1 ∷ bytes_of_run g c)
all_files g c =
    let names = c.args.names.now in
    let settings = c.args.settings.now in
    let image = c.in_ok-image.ensures in
    let choice = c.in_ok-choice.ensures.read in
    all_read g.F.Shelf.read_may_fail g.F.Shelf.write_may_fail (g.F.Shelf.state c.args.shelf.now)
    (g.F.Shelf.state c.read_image.new.shelf) (g.F.Shelf.state c.read_choice.new.shelf)
    (g.F.Shelf.state c.read_run_files.new.shelf) (executable_input c.args.file.now)
    (new_file_input names.new.now ∷ units_input names.units.now ∷ book_input names.logs.now ∷ [])
    (run_files (name_in settings.table) (name_in settings.input)) image.0
    (c.in_ok-choice.choice.new.items ∷ choice.0 ∷ choice.1 ∷ []) (bytes_of_run g c) image.1 choice.2
    c.in_ok-table.ensures.read.4

-- what the executable, the table and the input say
abbrev run_of : (g : Over) (c : In_ok-table g)
    → RunFiles (settings_by c.args.settings.now) c.in_ok-image.ensures.0 (bytes_of_run g c)
run_of g c =
    let image = c.in_ok-image.ensures in
    let run = c.in_ok-table.ensures.read in
    run_held (settings_by c.args.settings.now) image.0 c.in_ok-image.image c.in_ok-table.field-0.table run.0 run.1 image.2
    run.2 run.3 run.5

-- with the profile of the run
abbrev profiled_of : (g : Over) (c : In_ok-profiled g)
    → Profiled (settings_by c.args.settings.now) c.in_ok-image.ensures.0
    (optional_bytes c.in_ok-table.ensures.read.0 ++ optional_bytes c.in_ok-table.ensures.read.1)
profiled_of g c =
    let image = c.in_ok-image.ensures in
    let run = c.in_ok-table.ensures.read in
    let profiled = c.in_ok-profiled.profiled in
    profiled_held (settings_by c.args.settings.now) image.0 c.in_ok-image.image c.in_ok-table.field-0.table run.0 run.1
    image.2 run.2 run.3 run.5 profiled
    (subst (λ (input : List ℕ). IsProfiled c.in_ok-image.image c.in_ok-table.field-0.table input c.args.settings.now.steps
    c.args.settings.now.leaders.now profiled.profile profiled.analysis.blocks profiled.analysis.live) run.6
    c.in_ok-profiled.ensures.done)

pub returns-in_err-image : goal.returns-in_err-image
returns-in_err-image g c =
    let p = err_from_is_err_and c.from_residual.result c.from_residual.ensures.1 in
    let names = c.args.names.now in
    let settings = c.args.settings.now in
    rw (p.1, p.2)
    (inl (c.in_err-image.ensures (new_file_input names.new.now ∷ units_input names.units.now
    ∷ book_input names.logs.now ∷ run_files (name_in settings.table) (name_in settings.input))))

pub returns-in_err-choice : goal.returns-in_err-choice
returns-in_err-choice g c =
    let p = err_from_is_err_and c.from_residual-in_err-choice.result c.from_residual-in_err-choice.ensures.1 in
    let names = c.args.names.now in
    let settings = c.args.settings.now in
    let image = c.in_ok-image.ensures in
    let bytes : List ℕ = image.0 in
    let files = run_files (name_in settings.table) (name_in settings.input) in
    rw (p.1, p.2)
    (inl (unread_behind g.F.Shelf.read_may_fail g.F.Shelf.write_may_fail (g.F.Shelf.state c.args.shelf.now)
    (g.F.Shelf.state c.read_image.new.shelf) (g.F.Shelf.state c.read_choice.new.shelf)
    (executable_input c.args.file.now ∷ [])
    (new_file_input names.new.now ∷ units_input names.units.now ∷ book_input names.logs.now ∷ files)
    (bytes ∷ []) c.in_err-choice.field-0.0 image.1 (c.in_err-choice.ensures.refused files)))

pub returns-in_err-table : goal.returns-in_err-table
returns-in_err-table g c =
    let p = err_from_is_err_and c.from_residual-in_err-table.result c.from_residual-in_err-table.ensures.1 in
    let names = c.args.names.now in
    let settings = c.args.settings.now in
    let image = c.in_ok-image.ensures in
    let choice = c.in_ok-choice.ensures.read in
    let bytes : List ℕ = image.0 in
    let inputs = new_file_input names.new.now ∷ units_input names.units.now ∷ book_input names.logs.now ∷ [] in
    let answered = c.in_ok-choice.choice.new.items ∷ choice.0 ∷ choice.1 ∷ [] in
    let read =
    HaveRead-append g.F.Shelf.read_may_fail g.F.Shelf.write_may_fail (g.F.Shelf.state c.args.shelf.now)
    (g.F.Shelf.state c.read_image.new.shelf) (g.F.Shelf.state c.read_choice.new.shelf)
    (executable_input c.args.file.now ∷ []) inputs (bytes ∷ []) answered image.1 choice.2 in
    rw (p.1, p.2)
    (inl (unread_behind g.F.Shelf.read_may_fail g.F.Shelf.write_may_fail (g.F.Shelf.state c.args.shelf.now)
    (g.F.Shelf.state c.read_choice.new.shelf) (g.F.Shelf.state c.read_run_files.new.shelf)
    (executable_input c.args.file.now ∷ inputs) (run_files (name_in settings.table) (name_in settings.input))
    (bytes ∷ answered) c.in_err-table.field-0.0 read c.in_err-table.ensures.refused))

pub returns-in_err-profiled : goal.returns-in_err-profiled
returns-in_err-profiled g c =
    let p = err_from_is_err_and c.from_residual-in_err-profiled.result c.from_residual-in_err-profiled.ensures.1 in
    let here = (goal.at.returns-in_err-profiled g c).In_ok-table in
    let settings = c.args.settings.now in
    let choice = c.in_ok-choice.ensures.read in
    let refusal = c.in_err-profiled.field-0.0 in
    rw (p.1, p.2)
    (unprofiled_refused c.in_ok-choice.choice c.in_ok-image.ensures.0 choice.0 choice.1 (bytes_of_run g here) choice.3
    choice.4 (settings_by settings) g.F.Shelf.read_may_fail g.F.Shelf.write_may_fail
    (g.F.Shelf.state c.args.shelf.now) (g.F.Shelf.state c.read_run_files.new.shelf)
    (check_inputs c.args.file.now (check_names_of c.args.names.now) (name_in settings.table) (name_in settings.input))
    (all_files g here) (run_of g here) refusal
    (subst (λ (input : List ℕ). IsUnprofiledCause c.in_ok-image.image input settings.steps refusal)
    c.in_ok-table.ensures.read.6 c.in_err-profiled.ensures.cause))

pub judge-answer-requires-clause-image : goal.judge-answer-requires-clause-image
judge-answer-requires-clause-image g c =
    let read = c.in_ok-image.ensures in
    subst (λ (bytes : List ℕ). IsReadAs bytes (Ok c.in_ok-image.image)) (sym read.2.same_bytes)
    (read.1.fit.0.well_formed, read.2)

pub returns : goal.returns
returns g c =
    let here = (goal.at.returns g c).In_ok-table in
    let profiled = profiled_of g (goal.at.returns g c).In_ok-profiled in
    let settings = c.args.settings.now in
    let choice = c.in_ok-choice.ensures.read in
    judged c.in_ok-choice.choice c.in_ok-image.ensures.0 choice.0 choice.1 (bytes_of_run g here) choice.3 choice.4
    (settings_by settings) g.F.Shelf.read_may_fail g.F.Shelf.write_may_fail
    (g.F.Shelf.state c.args.shelf.now) (g.F.Shelf.state c.read_run_files.new.shelf)
    (check_inputs c.args.file.now (check_names_of c.args.names.now) (name_in settings.table) (name_in settings.input))
    (all_files g here) profiled c.judge-answer.result c.judge-answer.ensures
