-- What a legal choice of cuts promises of the run that it was made from. For every reader.
use Rattle.std.specs.Prelude.{◌≡◌, ℕ, ◌+◌, false, List, reverse, Some, None}
use Rattle.ci_lat.specs.Latencies.{Latencies}
use Rattle.ci_elf.specs.Executables.{Executable}
use Rattle.ci_block.specs.declared.blocks.Block.{Block}
use Rattle.ci_live.specs.Analyses.{IsAnalysis}
use Rattle.ci_live.specs.Sets.{Sets}
use Rattle.ci_machine.specs.declared.ends.End.{End}
use Rattle.ci_machine.specs.Extended.{IsExtended, latencies_with}
use Rattle.ci_machine.specs.Programs.{loaded_program, opening}
use Rattle.ci_machine.specs.RunEvents.{IsTame}
use Rattle.ci_machine.specs.Runs.{cost}
use Rattle.ci_machine.specs.Steps.{Meaning, IsPlain}
use Rattle.ci_machine.specs.Words.{AreBytes}
use Rattle.ci_emu.specs.declared.profile.Profile.{Profile}
use Rattle.ci_emu.specs.Profiles.{IsProfileOf, targets_in}
use Rattle.ci_emu.specs.TableLatencies.{latencies_of}
use Rattle.ci_log.specs.Books.{Book}
use Rattle.ci_unit.specs.Units.{Unit}
use Rattle.ci_vemit.specs.Templates.{modules_of}
use Rattle.ci_machine.specs.Outcomes.{is_access_fault}
use Rattle.ci_select.specs.declared.plan.Plan.{Plan}
use Rattle.ci_select.specs.Instances.{instance_of}
use Rattle.ci_select.specs.Savings.{IsSaved}
use Rattle.ci_runs.specs.WholeRuns.{Rewriting, IsTameFor, is_among}
use Rattle.ci_runs.specs.ChosenFiles.{IsChosenFile, rewriting_of}

-- Of the profile of so many steps of the old executable on the plain machine, with the input, and what the cuts save by
-- it, the total: this run is tame; where it ended, it is so for any number of steps; and where it ended otherwise than
-- by a refused access, it cost what the new executable costs on the machine with the modules, and the total.
pub record SavesInProfile
    (rewriting : Rewriting) (table : Latencies) (steps : ℕ) (input : List ℕ) (profile : Profile) (total : ℕ) :
    Type 0 where
  pub tame : (plain : Meaning) → IsPlain plain → IsTameFor rewriting plain input steps
  pub tame_on :
      (plain : Meaning) (end : End) (n : ℕ) → IsPlain plain → profile.end ≡ Some end
      → IsTameFor rewriting plain input n
  pub costs :
      (extended : Meaning) (end : End) → IsExtended rewriting.modules extended → profile.end ≡ Some end
      → is_access_fault end ≡ false
      → profile.cost
      ≡ cost extended (loaded_program rewriting.new) (latencies_with (latencies_of table) rewriting.modules) steps
      (opening rewriting.new input)
      + total

-- A run that leaves the text alone is tame by the leaders that the file, this run and some further addresses give.
abbrev pub ProfiledRunsAreTame : Type 0
ProfiledRunsAreTame =
    (file : Executable) (table : Latencies) (steps : ℕ) (input named : List ℕ) (profile : Profile)
    (blocks : List Block) (live : Sets) (meaning : Meaning)
    → IsProfileOf meaning (loaded_program file) steps (opening file input) (latencies_of table) profile
    → profile.touched ≡ None → IsAnalysis file (targets_in profile) named blocks live
    → IsTame meaning (loaded_program file) (is_among live.leaders) steps (opening file input)

-- So the book of a choice that is made from it saves its total there.
abbrev pub ChoicesSaveInProfile : Type 0
ChoicesSaveInProfile =
    (file : Executable) (table : Latencies) (steps : ℕ) (input named : List ℕ) (profile : Profile)
    (blocks : List Block) (live : Sets) (plain : Meaning) (plan : Plan) (book : Book) (units : List Unit)
    (new : List ℕ) (total : ℕ)
    → IsPlain plain → AreBytes input
    → IsProfileOf plain (loaded_program file) steps (opening file input) (latencies_of table) profile
    → profile.touched ≡ None → IsAnalysis file (targets_in profile) named blocks live
    → IsChosenFile (instance_of profile blocks live table plan) file book units new
    → IsSaved (instance_of profile blocks live table plan) (reverse book.entries) total
    → SavesInProfile (rewriting_of (instance_of profile blocks live table plan) file (modules_of units) new) table steps
    input profile total
