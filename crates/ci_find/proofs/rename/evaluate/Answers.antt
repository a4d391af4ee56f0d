-- The renamed file of the executable, or why there is none.
use Rattle.std.proofs.Common.{[], ◌∷◌, ℕ, List, Ok, append-nil, inl, refl, subst, sym}
use Rattle.std.proofs.lemmas.Result.{err_from_is_err_and}
use Rattle.ci_elf.specs.Rules.{IsReadAs}
use Rattle.ci_emu.specs.Profiles.{targets_in}
use Rattle.ci_calls.specs.Files.{executable_input, optional_bytes, optional_input, program_input}
use Rattle.ci_calls.specs.Reads.{HaveRead}
use Rattle.ci_calls.specs.Refused.{name_in}
use Rattle.ci_calls.proofs.InputLaws.{HaveRead-append, read_without_memory, unread_behind}
use Rattle.ci_find.specs.RenameCommand.{rename_inputs, RenameFiles}
use Rattle.ci_find.specs.private.Renamed.{rename_settings_by}
use Rattle.ci_find.proofs.Renames.{rename_made, rename_refused}
use Rattle.ci_find.proofs.rename.evaluate.Given.{Over}
use Rattle.ci_find.proofs.rename.evaluate.Goals as goal
use Rattle.ci_find.proofs.rename.evaluate.Goals.{In_ok-input}

-- the bytes of both files
abbrev bytes_read : (g : Over) (c : In_ok-input g) → List (List ℕ)
bytes_read g c = c.in_ok-image.ensures.0 ∷ optional_bytes c.in_ok-input.ensures.0

-- all files of the command are read
all_files : (g : Over) (c : In_ok-input g)
    → HaveRead g.F.Shelf.read_may_fail g.F.Shelf.write_may_fail (g.F.Shelf.state c.args.shelf.now)
    (g.F.Shelf.state c.read_input.new.shelf) (rename_inputs c.args.file.now (name_in c.args.settings.now.input))
    (bytes_read g c)
all_files g c =
    let image = c.in_ok-image.ensures in
    let bytes : List ℕ = image.0 in
    HaveRead-append g.F.Shelf.read_may_fail g.F.Shelf.write_may_fail (g.F.Shelf.state c.args.shelf.now)
    (g.F.Shelf.state c.read_image.new.shelf) (g.F.Shelf.state c.read_input.new.shelf)
    (executable_input c.args.file.now ∷ []) (optional_input program_input (name_in c.args.settings.now.input))
    (bytes ∷ []) (optional_bytes c.in_ok-input.ensures.0) image.1 c.in_ok-input.ensures.2

-- what they say
abbrev files_of : (g : Over) (c : In_ok-input g) → RenameFiles (rename_settings_by c.args.settings.now) (bytes_read g c)
files_of g c = record {
  executable = c.in_ok-image.ensures.0;
  input = c.in_ok-input.ensures.0;
  read_is = refl;
  input_given = c.in_ok-input.ensures.1;
  file = c.in_ok-image.image;
  file_is = c.in_ok-image.ensures.2;
}

pub returns-in_err-image : goal.returns-in_err-image
returns-in_err-image g c =
    let p = err_from_is_err_and c.from_residual.result c.from_residual.ensures.1 in
    rw (p.1, p.2) (inl (c.in_err-image.ensures (optional_input program_input (name_in c.args.settings.now.input))))

pub returns-in_err-input : goal.returns-in_err-input
returns-in_err-input g c =
    let p = err_from_is_err_and c.from_residual-in_err-input.result c.from_residual-in_err-input.ensures.1 in
    let image = c.in_ok-image.ensures in
    let bytes : List ℕ = image.0 in
    rw (p.1, p.2)
    (inl (unread_behind g.F.Shelf.read_may_fail g.F.Shelf.write_may_fail (g.F.Shelf.state c.args.shelf.now)
    (g.F.Shelf.state c.read_image.new.shelf) (g.F.Shelf.state c.read_input.new.shelf)
    (executable_input c.args.file.now ∷ []) (optional_input program_input (name_in c.args.settings.now.input))
    (bytes ∷ []) c.in_err-input.field-0.0 image.1 (rw append-nil at (c.in_err-input.ensures []))))

pub returns-in_err-profiled : goal.returns-in_err-profiled
returns-in_err-profiled g c =
    let p = err_from_is_err_and c.from_residual-in_err-profiled.result c.from_residual-in_err-profiled.ensures.1 in
    let here = (goal.at.returns-in_err-profiled g c).In_ok-input in
    rw (p.1, p.2)
    (rename_refused (rename_settings_by c.args.settings.now) (bytes_read g here)
    (rename_inputs c.args.file.now (name_in c.args.settings.now.input)) (files_of g here) c.in_ok-input.input.items
    c.in_ok-input.ensures.3 g.F.Shelf.read_may_fail g.F.Shelf.write_may_fail (g.F.Shelf.state c.args.shelf.now)
    (g.F.Shelf.state c.read_input.new.shelf) (all_files g here) c.in_err-profiled.field-0.0
    c.in_err-profiled.ensures.cause)

pub success_of-outcome-requires-clause-image : goal.success_of-outcome-requires-clause-image
success_of-outcome-requires-clause-image g c =
    let read = c.in_ok-image.ensures in
    subst (λ (bytes : List ℕ). IsReadAs bytes (Ok c.in_ok-image.image)) (sym read.2.same_bytes)
    (read.1.fit.0.well_formed, read.2)

pub success_of-outcome-requires-clause-plain : goal.success_of-outcome-requires-clause-plain
success_of-outcome-requires-clause-plain g c = c.in_ok-profiled.ensures.done.no_custom

pub success_of-outcome-requires-clause-analysis : goal.success_of-outcome-requires-clause-analysis
success_of-outcome-requires-clause-analysis g c = (
  targets_in c.in_ok-profiled.profiled.profile,
  c.args.settings.now.leaders.now,
  c.in_ok-profiled.ensures.done.analysis,
)

pub returns-in_err-success : goal.returns-in_err-success
returns-in_err-success g c =
    let p = err_from_is_err_and c.from_residual-in_err-success.result c.from_residual-in_err-success.ensures.1 in
    let here = (goal.at.returns-in_err-success g c).In_ok-input in
    rw (p.1, p.2)
    (inl (read_without_memory g.F.Shelf.read_may_fail g.F.Shelf.write_may_fail (g.F.Shelf.state c.args.shelf.now)
    (g.F.Shelf.state c.read_input.new.shelf) (rename_inputs c.args.file.now (name_in c.args.settings.now.input))
    (bytes_read g here) (all_files g here)))

pub returns : goal.returns
returns g c =
    let here = (goal.at.returns g c).In_ok-input in
    let profiled = c.in_ok-profiled.profiled in
    rename_made (rename_settings_by c.args.settings.now) (bytes_read g here)
    (rename_inputs c.args.file.now (name_in c.args.settings.now.input)) (files_of g here) c.in_ok-input.input.items
    c.in_ok-input.ensures.3 g.F.Shelf.read_may_fail g.F.Shelf.write_may_fail (g.F.Shelf.state c.args.shelf.now)
    (g.F.Shelf.state c.read_input.new.shelf) (all_files g here) c.args.new.now c.usual-table.result c.usual-table.ensures
    profiled.profile profiled.analysis.blocks profiled.analysis.live c.in_ok-profiled.ensures.done
    c.in_ok-success.success c.in_ok-success.ensures.0 c.in_ok-success.ensures.1 c.in_ok-success.ensures.2
