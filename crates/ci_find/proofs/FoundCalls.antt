-- What `find` makes of the bytes that its reads answered.
use Rattle.std.proofs.Common.{◌≡◌, ◌∙◌, ℕ, List, [], ◌∷◌, map, Ok, refl, ap, subst}
use Rattle.ci_io.specs.CallLists.{Call, write}
use Rattle.ci_arguments.specs.declared.tables.CommandName.{CommandName}
use Rattle.ci_arguments.specs.declared.tables.CommandName.TheVariants.{Find}
use Rattle.ci_arguments.specs.Words.{Reading, ReadsAs}
use Rattle.ci_arguments.proofs.Readings.{one_reading}
use Rattle.ci_calls.specs.declared.success.Success.{Success}
use Rattle.ci_calls.specs.declared.success.Written.{Written}
use Rattle.ci_calls.specs.Called.{writes_of}
use Rattle.ci_calls.specs.Reads.{AreFit, reads_of}
use Rattle.ci_find.specs.ChoiceReading.{settings_of, find_output, find_files}
use Rattle.ci_find.specs.Commands.{inputs_by, MakesBy}
use Rattle.ci_find.specs.EndsBy.{IsDueBy}
use Rattle.ci_find.specs.FindCommand.{IsFindMade, written}
use Rattle.ci_find.specs.Headline.{FoundBytes, bytes_read, files_written, whole_writes, IsChosen}
use Rattle.ci_find.proofs.FoundBytes.{found_bytes, all_chosen}

-- ---- what a command makes

pub record IsMadeBy (command : CommandName) (reading : Reading) (reads : List Call) (success : Success) : Type 0 where
  pub answered : List (List ℕ)
  pub fit : AreFit (inputs_by command reading) answered
  pub reads_are : reads ≡ reads_of (inputs_by command reading) answered
  pub made : MakesBy command reading answered success

-- what is due to words that read as a command is what the command makes
pub made_by : (words : List (List ℕ)) (reads : List Call) (success : Success) → IsDueBy words reads success
    → (reading : Reading) → ReadsAs words reading → (command : CommandName) → reading.command ≡ command
    → IsMadeBy command reading reads success
made_by words reads success due reading reads_as command is =
    subst (λ c. IsMadeBy c reading reads success) is
    (subst (λ (r : Reading). IsMadeBy r.command r reads success) (one_reading words due.reading reading due.reads_as reads_as)
    (record { answered = due.answered; fit = due.fit; reads_are = due.reads_are; made = due.made }))

-- ---- the bytes of it

-- What was read, what is to be written and what is to be put are these bytes, and all of the headline holds of them.
pub record IsFound (reading : Reading) (reads : List Call) (success : Success) : Type 0 where
  pub bytes : FoundBytes
  pub fit : AreFit (find_files reading) (bytes_read bytes)
  pub reads_are : reads ≡ reads_of (find_files reading) (bytes_read bytes)
  pub writes_are : map written success.writes.items ≡ files_written (find_output reading) bytes
  pub text_is : success.text.items ≡ bytes.text
  pub chosen : IsChosen reading bytes

is_found : (reading : Reading) (reads : List Call) (success : Success) → IsMadeBy Find reading reads success
    → IsFound reading reads success
is_found reading reads success by =
    let made : IsFindMade (find_output reading) (settings_of reading by.made.0) by.answered success = by.made.2 in
    let fit : AreFit (find_files reading) (made.executable ∷ made.others) =
    subst (AreFit (find_files reading)) made.read_is by.fit in
    record {
      bytes = found_bytes reading by.answered success by.made.0 by.made.1 made;
      fit = fit;
      reads_are = by.reads_are ∙ ap (reads_of (find_files reading)) made.read_is;
      writes_are = made.choice.writes_are;
      text_is = refl;
      chosen = all_chosen reading by.answered success by.made.0 by.made.1 made fit.0.well_formed;
    }

pub found : (words : List (List ℕ)) (reads : List Call) (success : Success) → IsDueBy words reads success
    → (reading : Reading) → ReadsAs words reading → reading.command ≡ Find → IsFound reading reads success
found words reads success due reading reads_as finds =
    is_found reading reads success (made_by words reads success due reading reads_as Find finds)

-- ---- whole writes

-- of files, by their names and bytes
pub writes_by : (files : List Written) → writes_of files ≡ whole_writes (map written files)
writes_by [] = refl
writes_by (file ∷ files) = ap (λ calls. write file.name.now file.bytes.items (Ok tt) ∷ calls) (writes_by files)
