-- What `rename` makes, over every shelf and sink.
use Rattle.std.proofs.Common.{◌≡◌, ◌≢◌, ◌∙◌, ℕ, List, [], ◌++◌, ap, sym}
use Rattle.ci_io.specs.CallLists.{Call}
use Rattle.ci_arguments.specs.declared.tables.CommandName.TheVariants.{Rename}
use Rattle.ci_arguments.specs.Words.{Reading, name_at}
use Rattle.ci_calls.specs.Called.{writes_of}
use Rattle.ci_calls.specs.Reads.{reads_of}
use Rattle.ci_find.specs.ChoiceReading.{rename_files, rename_settings}
use Rattle.ci_find.specs.EndsBy.{EndsBy}
use Rattle.ci_find.specs.Headline.{whole_writes}
use Rattle.ci_find.specs.RenameCommand.{rename_line, IsRenameMade}
use Rattle.ci_find.specs.RenameHeadline.{IsRenamedBy, AreRenamedBy}
use Rattle.ci_find.proofs.ChosenByCalls.{HasSucceeded, one_put, succeeded}
use Rattle.ci_find.proofs.FoundCalls.{IsMadeBy, made_by, writes_by}
use Rattle.ci_find.proofs.Renames.{keep_cuts, run_in_step}

-- the line is not empty
has_line : (values changed : ℕ) → rename_line values changed ≢ []
has_line values changed same = absurd cc

renamed_by : (words : List (List ℕ)) (calls puts : List Call) (well : HasSucceeded words calls puts) (reading : Reading)
    → IsMadeBy Rename reading well.reads well.success → IsRenamedBy reading calls puts
renamed_by words calls puts well reading by =
    let made : IsRenameMade (name_at reading 1) (rename_settings reading) by.answered well.success = by.made in
    let renaming = made.renaming.renaming in
    record {
      read = by.answered;
      new = made.new;
      text = well.success.text.items;
      fit = by.fit;
      calls_are =
          well.calls_are ∙ ap (λ reads. reads ++ writes_of well.success.writes.items) by.reads_are
          ∙ ap (λ writes. reads_of (rename_files reading) by.answered ++ writes)
          (writes_by well.success.writes.items ∙ ap whole_writes made.writes_are);
      puts_are =
          one_put well.success.text.items puts
          (λ none. has_line renaming.values renaming.changed (sym renaming.text_is ∙ none)) well.text_taken;
      renaming = made.renaming;
      runs = run_in_step made.renaming;
      cuts = keep_cuts made.renaming;
    }

pub EndsBy-renamed : (words : List (List ℕ)) (calls puts : List Call) (status : ℕ) → EndsBy words calls puts status
    → status ≡ 0 → AreRenamedBy words calls puts
EndsBy-renamed words calls puts status ends zero = λ reading reads_as renames.
    let well = succeeded words calls puts status ends zero in
    renamed_by words calls puts well reading
    (made_by words well.reads well.success well.due reading reads_as Rename renames)
