-- The best units of the choice for the executable, or why there is no choice.
use Rattle.std.proofs.Common.{[], ◌∷◌, ◌++◌, ℕ, List, Ok, inl, subst, sym}
use Rattle.std.proofs.lemmas.Result.{err_from_is_err_and}
use Rattle.ci_elf.specs.Rules.{IsReadAs}
use Rattle.ci_calls.specs.Files.{executable_input, optional_bytes}
use Rattle.ci_calls.specs.Reads.{HaveRead}
use Rattle.ci_calls.specs.Refused.{name_in}
use Rattle.ci_calls.proofs.InputLaws.{HaveRead-append, read_without_memory, unread_behind}
use Rattle.ci_find.specs.Profiled.{RunFiles, run_files}
use Rattle.ci_find.specs.FindCommand.{find_inputs}
use Rattle.ci_find.specs.private.Chosen.{settings_by}
use Rattle.ci_find.proofs.ProfiledRuns.{files_of, find_refused, area_made}
use Rattle.ci_find.proofs.area.evaluate.Given.{Over}
use Rattle.ci_find.proofs.area.evaluate.Goals as goal
use Rattle.ci_find.proofs.area.evaluate.Goals.{In_ok-table}

-- the bytes of the table and the input
abbrev bytes_of_run : (g : Over) (c : In_ok-table g) → List (List ℕ)
bytes_of_run g c = optional_bytes c.in_ok-table.ensures.read.0 ++ optional_bytes c.in_ok-table.ensures.read.1

-- all files of the command are read
all_files : (g : Over) (c : In_ok-table g)
    → HaveRead g.F.Shelf.read_may_fail g.F.Shelf.write_may_fail (g.F.Shelf.state c.args.shelf.now)
    (g.F.Shelf.state c.read_run_files.new.shelf)
    (find_inputs c.args.file.now (name_in c.args.settings.now.table) (name_in c.args.settings.now.input))
    (c.in_ok-image.ensures.0 ∷ bytes_of_run g c)
all_files g c =
    let settings = c.args.settings.now in
    let image = c.in_ok-image.ensures in
    let bytes : List ℕ = image.0 in
    HaveRead-append g.F.Shelf.read_may_fail g.F.Shelf.write_may_fail (g.F.Shelf.state c.args.shelf.now)
    (g.F.Shelf.state c.read_image.new.shelf) (g.F.Shelf.state c.read_run_files.new.shelf)
    (executable_input c.args.file.now ∷ []) (run_files (name_in settings.table) (name_in settings.input)) (bytes ∷ [])
    (bytes_of_run g c) image.1 c.in_ok-table.ensures.read.4

-- what the executable, the table and the input say
abbrev run_of : (g : Over) (c : In_ok-table g)
    → RunFiles (settings_by c.args.settings.now) c.in_ok-image.ensures.0 (bytes_of_run g c)
run_of g c =
    let image = c.in_ok-image.ensures in
    let run = c.in_ok-table.ensures.read in
    files_of (settings_by c.args.settings.now) image.0 run.0 run.1 c.in_ok-image.image c.in_ok-table.field-0.table run.2
    run.3 image.2 run.5

pub returns-in_err-image : goal.returns-in_err-image
returns-in_err-image g c =
    let p = err_from_is_err_and c.from_residual.result c.from_residual.ensures.1 in
    let settings = c.args.settings.now in
    rw (p.1, p.2) (inl (c.in_err-image.ensures (run_files (name_in settings.table) (name_in settings.input))))

pub returns-in_err-table : goal.returns-in_err-table
returns-in_err-table g c =
    let p = err_from_is_err_and c.from_residual-in_err-table.result c.from_residual-in_err-table.ensures.1 in
    let settings = c.args.settings.now in
    let image = c.in_ok-image.ensures in
    let bytes : List ℕ = image.0 in
    rw (p.1, p.2)
    (inl (unread_behind g.F.Shelf.read_may_fail g.F.Shelf.write_may_fail (g.F.Shelf.state c.args.shelf.now)
    (g.F.Shelf.state c.read_image.new.shelf) (g.F.Shelf.state c.read_run_files.new.shelf)
    (executable_input c.args.file.now ∷ []) (run_files (name_in settings.table) (name_in settings.input)) (bytes ∷ [])
    c.in_err-table.field-0.0 image.1 c.in_err-table.ensures.refused))

pub returns-in_err-profiled : goal.returns-in_err-profiled
returns-in_err-profiled g c =
    let p = err_from_is_err_and c.from_residual-in_err-profiled.result c.from_residual-in_err-profiled.ensures.1 in
    let here = (goal.at.returns-in_err-profiled g c).In_ok-table in
    let settings = c.args.settings.now in
    rw (p.1, p.2)
    (find_refused (settings_by settings) c.in_ok-image.ensures.0 (bytes_of_run g here)
    (find_inputs c.args.file.now (name_in settings.table) (name_in settings.input)) (run_of g here)
    c.in_ok-table.field-0.input.items c.in_ok-table.ensures.read.6 g.F.Shelf.read_may_fail g.F.Shelf.write_may_fail
    (g.F.Shelf.state c.args.shelf.now) (g.F.Shelf.state c.read_run_files.new.shelf) (all_files g here)
    c.in_err-profiled.field-0.0 c.in_err-profiled.ensures.cause)

pub success_of-outcome-requires-clause-image : goal.success_of-outcome-requires-clause-image
success_of-outcome-requires-clause-image g c =
    let read = c.in_ok-image.ensures in
    subst (λ (bytes : List ℕ). IsReadAs bytes (Ok c.in_ok-image.image)) (sym read.2.same_bytes)
    (read.1.fit.0.well_formed, read.2)

pub success_of-outcome-requires-clause-profiled : goal.success_of-outcome-requires-clause-profiled
success_of-outcome-requires-clause-profiled g c = (
  c.in_ok-table.field-0.input.items,
  c.args.settings.now.steps,
  c.args.settings.now.leaders.now,
  c.requires,
  c.in_ok-profiled.ensures.done,
)

pub returns-in_err-success : goal.returns-in_err-success
returns-in_err-success g c =
    let p = err_from_is_err_and c.from_residual-in_err-success.result c.from_residual-in_err-success.ensures.1 in
    let here = (goal.at.returns-in_err-success g c).In_ok-table in
    let settings = c.args.settings.now in
    rw (p.1, p.2)
    (inl (read_without_memory g.F.Shelf.read_may_fail g.F.Shelf.write_may_fail (g.F.Shelf.state c.args.shelf.now)
    (g.F.Shelf.state c.read_run_files.new.shelf)
    (find_inputs c.args.file.now (name_in settings.table) (name_in settings.input))
    (c.in_ok-image.ensures.0 ∷ bytes_of_run g here) (all_files g here)))

pub returns : goal.returns
returns g c =
    let here = (goal.at.returns g c).In_ok-table in
    let settings = c.args.settings.now in
    let profiled = c.in_ok-profiled.profiled in
    area_made (settings_by settings) c.in_ok-image.ensures.0 (bytes_of_run g here)
    (find_inputs c.args.file.now (name_in settings.table) (name_in settings.input)) (run_of g here)
    c.in_ok-table.field-0.input.items c.in_ok-table.ensures.read.6 g.F.Shelf.read_may_fail g.F.Shelf.write_may_fail
    (g.F.Shelf.state c.args.shelf.now) (g.F.Shelf.state c.read_run_files.new.shelf) (all_files g here)
    profiled.profile profiled.analysis.blocks profiled.analysis.live c.in_ok-profiled.ensures.done
    c.args.limit c.in_ok-success.success c.in_ok-success.ensures
