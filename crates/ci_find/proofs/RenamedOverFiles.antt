-- What `rename` makes, over a shelf that tells its files.
use Rattle.std.proofs.Common.{◌≡◌, ◌∙◌, ℕ, List, Option, Some, None, ap}
use Rattle.std.specs.Option.{option_map}
use Rattle.std.specs.FinMap as finite
use Rattle.ci_io.specs.Outcomes.{Files, SinkState, with_file}
use Rattle.ci_arguments.specs.declared.tables.CommandName.TheVariants.{Rename}
use Rattle.ci_arguments.specs.Words.{Reading, ReadsAs, name_at}
use Rattle.ci_calls.specs.declared.success.Success.{Success}
use Rattle.ci_calls.specs.Evaluations.{Evaluates}
use Rattle.ci_calls.specs.Finishing.{Change, Takes, with_files}
use Rattle.ci_find.specs.ChoiceReading.{rename_settings}
use Rattle.ci_find.specs.Commands.{inputs_by, MakesBy}
use Rattle.ci_find.specs.Endings.{Ends, IsDone}
use Rattle.ci_find.specs.RenameCommand.{IsRenameMade}
use Rattle.ci_find.specs.RenameHeadline.{AreRenamedOver, IsRenamedOver}
use Rattle.ci_find.proofs.FoundChoices.{evaluated_by}
use Rattle.ci_find.proofs.LeftFiles.{by_pairs, put_elsewhere, put_here, with_pairs}
use Rattle.ci_find.proofs.Renames.{keep_cuts, run_in_step}
use Rattle.ci_find.proofs.Successes.{success_of}

module _ (held : Files) (words : List (List ℕ)) (success : Success) (is_done : IsDone (Some held) words success)
    (reading : Reading) (reads : ReadsAs words reading) (renames : reading.command ≡ Rename)
    (sink_before sink_after : SinkState) (took : Takes sink_before sink_after success.text.items) where
  -- what the command makes
  evaluated : Evaluates (Some held) (inputs_by Rename reading) (MakesBy Rename reading) success
  evaluated = evaluated_by words reading reads Rename renames (Some held) success is_done

  made : IsRenameMade (name_at reading 1) (rename_settings reading) evaluated.read success
  made = evaluated.made

  -- what it leaves
  left_is : with_files success.writes.items held ≡ with_file (name_at reading 1) (Some made.new) held
  left_is = by_pairs success.writes.items held ∙ ap (λ pairs. with_pairs pairs held) made.writes_are

  renamed : IsRenamedOver reading held (with_files success.writes.items held) sink_before sink_after
  renamed = record {
    read = evaluated.read;
    new = made.new;
    text = success.text.items;
    read_are = evaluated.files;
    new_left =
        ap (λ files. finite.get files (name_at reading 1)) left_is ∙ put_here (name_at reading 1) made.new held;
    others_stay = λ name other.
        ap (λ files. finite.get files name) left_is ∙ put_elsewhere (name_at reading 1) made.new held name other;
    put_is = took;
    renaming = made.renaming;
    runs = run_in_step made.renaming;
    cuts = keep_cuts made.renaming;
  }

renamed_by : (words : List (List ℕ)) (success : Success) (before after : Option Files) → IsDone before words success
    → after ≡ option_map (with_files success.writes.items) before → (sink_before sink_after : SinkState)
    → Takes sink_before sink_after success.text.items → AreRenamedOver words before after sink_before sink_after
renamed_by words success None after is_done written sink_before sink_after took = tt
renamed_by words success (Some held) after is_done written sink_before sink_after took =
    λ reading reads renames. (
      with_files success.writes.items held,
      written,
      renamed held words success is_done reading reads renames sink_before sink_after took,
    )

pub Ends-renamed : (words : List (List ℕ)) (change : Change) (status : ℕ) → Ends words change status → status ≡ 0
    → AreRenamedOver words change.shelf_before.files change.shelf_after.files change.sink_before change.sink_after
Ends-renamed words change status ends zero =
    let (success, is_done, written, took) = success_of words change status zero ends in
    renamed_by words success change.shelf_before.files change.shelf_after.files is_done written change.sink_before
    change.sink_after took
