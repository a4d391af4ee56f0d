-- The files that a success of `find` leaves are those of a choice, and tell the best.
use Rattle.std.proofs.Common.{◌≡◌, ℕ, List, ◌∷◌, Option, Some, None, subst}
use Rattle.std.specs.Option.{option_map}
use Rattle.ci_io.specs.Outcomes.{Files, SinkState}
use Rattle.ci_vemit.specs.Templates.{modules_of}
use Rattle.ci_vemit.specs.Texts.{text_of}
use Rattle.ci_arguments.specs.declared.tables.CommandName.TheVariants.{Find}
use Rattle.ci_arguments.specs.Words.{Reading, ReadsAs}
use Rattle.ci_calls.specs.declared.success.Success.{Success}
use Rattle.ci_calls.specs.Evaluations.{Evaluates}
use Rattle.ci_calls.specs.Finishing.{Change, Takes, with_files}
use Rattle.ci_calls.specs.Inputs.{AreRead}
use Rattle.ci_find.specs.ChoiceReading.{find_output, settings_of}
use Rattle.ci_find.specs.Commands.{inputs_by, MakesBy}
use Rattle.ci_find.specs.Endings.{Ends, IsDone}
use Rattle.ci_find.specs.FindCommand.{IsFindMade}
use Rattle.ci_find.specs.HeadlineOverFiles.{AreChosenOver, IsChosenOver}
use Rattle.ci_find.proofs.FoundBytes.{found_bytes, all_chosen}
use Rattle.ci_find.proofs.FoundChoices.{found, names_differ}
use Rattle.ci_find.proofs.LeftFiles.{AreThere, are_there}
use Rattle.ci_find.proofs.Successes.{success_of}

-- ---- over files that are told

module _ (held : Files) (words : List (List ℕ)) (success : Success) (is_done : IsDone (Some held) words success)
    (reading : Reading) (reads : ReadsAs words reading) (finds : reading.command ≡ Find) (sink_before sink_after : SinkState)
    (took : Takes sink_before sink_after success.text.items) where
  -- what the command makes
  evaluated : Evaluates (Some held) (inputs_by Find reading) (MakesBy Find reading) success
  evaluated = found words reading reads finds (Some held) success is_done

  made : IsFindMade (find_output reading) (settings_of reading evaluated.made.0) evaluated.read success
  made = evaluated.made.2

  -- of the files that it reads
  read_are : AreRead (Some held) (inputs_by Find reading) (made.executable ∷ made.others)
  read_are = subst (AreRead (Some held) (inputs_by Find reading)) made.read_is evaluated.files

  -- what it leaves
  there : AreThere (find_output reading) held (with_files success.writes.items held) (text_of (modules_of made.choice.units))
      made.choice.logs_text made.choice.report_text made.choice.new_bytes
  there =
      are_there (find_output reading) held success.writes.items (text_of (modules_of made.choice.units)) made.choice.logs_text
      made.choice.report_text made.choice.new_bytes (names_differ words reading reads finds) made.choice.writes_are

  chosen : IsChosenOver reading held (with_files success.writes.items held) sink_before sink_after
  chosen = record {
    bytes = found_bytes reading evaluated.read success evaluated.made.0 evaluated.made.1 made;
    read_are = read_are;
    units_left = there.units_there;
    logs_left = there.logs_there;
    report_left = there.report_there;
    new_left = there.new_there;
    put = took;
    chosen = all_chosen reading evaluated.read success evaluated.made.0 evaluated.made.1 made read_are.0.well_formed;
  }

-- ---- over any shelf

chosen_by : (words : List (List ℕ)) (success : Success) (before after : Option Files) → IsDone before words success
    → after ≡ option_map (with_files success.writes.items) before → (sink_before sink_after : SinkState)
    → Takes sink_before sink_after success.text.items → AreChosenOver words before after sink_before sink_after
chosen_by words success None after is_done written sink_before sink_after took = tt
chosen_by words success (Some held) after is_done written sink_before sink_after took =
    λ reading reads finds. (
      with_files success.writes.items held,
      written,
      chosen held words success is_done reading reads finds sink_before sink_after took,
    )

pub Ends-chosen : (words : List (List ℕ)) (change : Change) (status : ℕ) → Ends words change status → status ≡ 0
    → AreChosenOver words change.shelf_before.files change.shelf_after.files change.sink_before change.sink_after
Ends-chosen words change status ends zero =
    let (success, is_done, written, took) = success_of words change status zero ends in
    chosen_by words success change.shelf_before.files change.shelf_after.files is_done written change.sink_before
    change.sink_after took
