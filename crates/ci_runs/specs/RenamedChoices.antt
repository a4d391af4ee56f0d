-- What renaming and then a legal choice of cuts promise together of whole runs. For every reader.
use Rattle.std.specs.Prelude.{ℕ, ◌+◌, List}
use Rattle.ci_elf.specs.Executables.{Executable}
use Rattle.ci_live.specs.Sets.{Sets}
use Rattle.ci_machine.specs.Extended.{IsExtended}
use Rattle.ci_machine.specs.Programs.{in_text, loaded_program, opening}
use Rattle.ci_machine.specs.RunEvents.{IsTame}
use Rattle.ci_machine.specs.Runs.{after}
use Rattle.ci_machine.specs.Steps.{IsPlain, Meaning}
use Rattle.ci_machine.specs.Words.{AreBytes}
use Rattle.ci_log.specs.Books.{Book}
use Rattle.ci_unit.specs.Units.{Unit}
use Rattle.ci_vemit.specs.Templates.{modules_of}
use Rattle.ci_select.specs.Instances.{Instance}
use Rattle.ci_select.specs.NewFiles.{with_bytes}
use Rattle.ci_rename.specs.RenamedFiles.{IsRenamedFile}
use Rattle.ci_runs.specs.ChosenFiles.{IsChosenFile}
use Rattle.ci_runs.specs.WholeRuns.{AreAlikeAt, is_among}

-- The original runs on the plain machine, the new file on that with the modules of the units, and the input is of
-- bytes. For 256 steps more the original run is tame, by the leaders that were listed for renaming and by those of the
-- choice, which are the same where both were asked to list the same.
pub record OriginalIsTame (original : Executable) (live : Sets) (instance : Instance) (units : List Unit)
    (plain extended : Meaning) (input : List ℕ) (n : ℕ) : Type 0 where
  pub is_plain : IsPlain plain
  pub is_extended : IsExtended (modules_of units) extended
  pub bytes : AreBytes input
  pub by_renaming :
      IsTame plain (loaded_program original) (is_among live.leaders) (n + 256) (opening original input)
  pub by_choice :
      IsTame plain (loaded_program original) (is_among instance.live.leaders) (n + 256) (opening original input)

-- An original is renamed, and cuts are chosen and folded in the renamed file. On every input the last file, with the
-- modules of the book's units, runs as the original does wherever that is tame: the same output, and the same end
-- within 256 steps, with the same heap end, input left and memory outside the text.
abbrev pub RenamedChoicesRunAlike : Type 0
RenamedChoicesRunAlike =
    (original renamed : Executable) (live : Sets) (values changed : ℕ)
    → IsRenamedFile original renamed live values changed
    → (instance : Instance) (book : Book) (units : List Unit) (new : List ℕ)
    → IsChosenFile instance renamed book units new
    → (plain extended : Meaning) (input : List ℕ) (n : ℕ)
    → OriginalIsTame original live instance units plain extended input n
    → AreAlikeAt (in_text (loaded_program original)) n
    (λ m. after plain (loaded_program original) m (opening original input))
    (λ m. after extended (loaded_program (with_bytes renamed new)) m (opening (with_bytes renamed new) input))
