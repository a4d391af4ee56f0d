-- For every reader: when `rename` ends with status 0. NEW is the executable with all its blocks renamed, the line has
-- how many values are renamed, and in how many blocks, NEW runs in step with OLD, and its blocks keep all cuts. It
-- holds over every shelf and every sink, by the calls that were made, and over a shelf that tells its files.
use Rattle.std.specs.Prelude.{◌≡◌, ◌≢◌, ℕ, List, [], ◌∷◌, ◌++◌, Option, Some, IfSome, Ok}
use Rattle.std.specs.FinMap as map
use Rattle.ci_io.specs.CallLists.{Call, write, put}
use Rattle.ci_io.specs.Outcomes.{Files, SinkState}
use Rattle.ci_machine.specs.Programs.{in_text, loaded_program, opening}
use Rattle.ci_machine.specs.RunEvents.{IsTame}
use Rattle.ci_machine.specs.Runs.{after}
use Rattle.ci_machine.specs.Steps.{IsPlain, Meaning}
use Rattle.ci_runs.specs.RenamedAnalyses.{BlocksKeepCuts}
use Rattle.ci_runs.specs.RenamedRuns.{AreInStepAt}
use Rattle.ci_runs.specs.WholeRuns.{is_among}
use Rattle.ci_arguments.specs.declared.tables.CommandName.TheVariants.{Rename}
use Rattle.ci_arguments.specs.Words.{Reading, ReadsAs, name_at}
use Rattle.ci_calls.specs.Finishing.{Takes}
use Rattle.ci_calls.specs.Inputs.{AreRead}
use Rattle.ci_calls.specs.Reads.{AreFit, reads_of}
use Rattle.ci_find.specs.ChoiceReading.{rename_files, rename_settings}
use Rattle.ci_find.specs.RenameCommand.{RenameSettings, IsRenamingOf}

-- On every input NEW runs in step with OLD, wherever that is tame by the leaders that are listed. After each number of
-- steps both have the same end, if any, and equal output, heap end, input left and memory outside the text. At a listed
-- leader they agree on the registers that are live there.
abbrev pub RunInStep :
    {settings : RenameSettings} {read : List (List ℕ)} {new text : List ℕ} → IsRenamingOf settings read new text
    → Type 0
RunInStep is =
    (plain : Meaning) (input : List ℕ) (n : ℕ) → IsPlain plain
    → IsTame plain (loaded_program is.files.file) (is_among is.live.leaders) n (opening is.files.file input)
    → AreInStepAt (in_text (loaded_program is.files.file)) is.live
    (after plain (loaded_program is.files.file) n (opening is.files.file input))
    (after plain (loaded_program is.renaming.renamed) n (opening is.renaming.renamed input))

-- The blocks of NEW begin where those of OLD do. The graph of each has the sources and the live values of that of OLD's
-- block, and no other arcs: so each set that fits there fits here with the same gain, and the best gain doesn't fall.
abbrev pub KeepsAllCuts :
    {settings : RenameSettings} {read : List (List ℕ)} {new text : List ℕ} → IsRenamingOf settings read new text
    → Type 0
KeepsAllCuts is = BlocksKeepCuts is.files.file is.renaming.renamed is.live

-- The calls on the shelf are the reads of OLD and the input, as the words have them, in this order, and then one whole
-- write of NEW. The call on the sink is one put, which is taken.
pub record IsRenamedBy (reading : Reading) (calls puts : List Call) : Type 0 where
  pub read : List (List ℕ)
  pub new : List ℕ
  pub text : List ℕ
  pub fit : AreFit (rename_files reading) read
  pub calls_are : calls ≡ reads_of (rename_files reading) read ++ write (name_at reading 1) new (Ok tt) ∷ []
  pub puts_are : puts ≡ put text (Ok tt) ∷ []
  pub renaming : IsRenamingOf (rename_settings reading) read new text
  pub runs : RunInStep renaming
  pub cuts : KeepsAllCuts renaming

-- so it is where the words read as `rename`
abbrev pub AreRenamedBy : List (List ℕ) → (calls puts : List Call) → Type 0
AreRenamedBy words calls puts =
    (reading : Reading) → ReadsAs words reading → reading.command ≡ Rename → IsRenamedBy reading calls puts

-- What `rename` reads was held before, and what it writes is left; each other file is as before; and the sink took the
-- text.
pub record IsRenamedOver (reading : Reading) (held left : Files) (sink_before sink_after : SinkState) : Type 0 where
  pub read : List (List ℕ)
  pub new : List ℕ
  pub text : List ℕ
  pub read_are : AreRead (Some held) (rename_files reading) read
  pub new_left : map.get left (name_at reading 1) ≡ Some new
  pub others_stay : (name : List ℕ) → name ≢ name_at reading 1 → map.get left name ≡ map.get held name
  pub put_is : Takes sink_before sink_after text
  pub renaming : IsRenamingOf (rename_settings reading) read new text
  pub runs : RunInStep renaming
  pub cuts : KeepsAllCuts renaming

-- so it is where the words read as `rename`, and the shelf tells its files
abbrev pub AreRenamedOver :
    List (List ℕ) → (before after : Option Files) → (sink_before sink_after : SinkState) → Type 0
AreRenamedOver words before after sink_before sink_after =
    IfSome before (λ held. (reading : Reading) → ReadsAs words reading → reading.command ≡ Rename
    → (left : Files) × (after ≡ Some left) × IsRenamedOver reading held left sink_before sink_after)
