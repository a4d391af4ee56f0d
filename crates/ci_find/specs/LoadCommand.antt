-- For every reader: the command `load`, a choice of cuts for the program that a seed generates.
use Rattle.std.specs.Prelude.{◌≡◌, ℕ, ◌++◌, ◌/◌, ◌%◌, List, [], ◌∷◌, codes, length, reverse, Ok}
use Rattle.std.specs.List.{flat_map}
use Rattle.std.specs.Fmt.{decimal}
use Rattle.ci_reading.specs.Hex.{hex_digit}
use Rattle.ci_reading.specs.Lines.{line}
use Rattle.ci_elf.specs.Executables.{Executable}
use Rattle.ci_elf.specs.Rules.{IsReadAs}
use Rattle.ci_gen.specs.Programs.{IsProgramOf}
use Rattle.ci_lat.specs.Latencies.{Latencies, usual}
use Rattle.ci_machine.specs.Extended.{IsExtended, latencies_with}
use Rattle.ci_machine.specs.Programs.{loaded_program, opening}
use Rattle.ci_machine.specs.Runs.{after, cost}
use Rattle.ci_machine.specs.Steps.{Meaning, IsPlain}
use Rattle.ci_machine.specs.Words.{AreBytes}
use Rattle.ci_block.specs.declared.blocks.Block.{Block}
use Rattle.ci_live.specs.Analyses.{IsAnalysis}
use Rattle.ci_live.specs.Sets.{Sets}
use Rattle.ci_emu.specs.declared.profile.Profile.{Profile}
use Rattle.ci_emu.specs.Profiles.{IsProfileOf, targets_in}
use Rattle.ci_emu.specs.TableLatencies.{latencies_of}
use Rattle.ci_log.specs.declared.book.Entry.{Entry}
use Rattle.ci_log.specs.Books.{Book}
use Rattle.ci_unit.specs.Tables.{IsTable}
use Rattle.ci_unit.specs.Units.{Unit}
use Rattle.ci_vemit.specs.Templates.{modules_of}
use Rattle.ci_select.specs.declared.plan.Plan.{Plan}
use Rattle.ci_select.specs.Instances.{instance_of}
use Rattle.ci_select.specs.GivenUp.{GivesUpByNeed}
use Rattle.ci_select.specs.LegalBooks.{IsLegal}
use Rattle.ci_select.specs.NewFiles.{IsNewFile, with_bytes}
use Rattle.ci_select.specs.Savings.{IsSaved}
use Rattle.ci_select.specs.UnitNumbers.{AreUnits}
use Rattle.ci_calls.specs.declared.success.Success.{Success}
use Rattle.ci_find.specs.FindCommand.{summary}

-- ---- the options, as they are where none is given

abbrev pub steps_of_load : ℕ
steps_of_load = 16777216

pub record IsPlanOfLoad (plan : Plan) : Type 0 where
  pub inputs : plan.limits.inputs ≡ 3
  pub outputs : plan.limits.outputs ≡ 2
  pub count : plan.count ≡ 32
  pub budget : plan.budget ≡ 65536

-- ---- the runs, without input

-- the profile of so many steps of a file on the plain machine, and their output
pub record IsPlainRun (file : Executable) (latencies : Latencies) (steps : ℕ) (profile : Profile) (output : List ℕ) :
    Type 0 where
  pub meaning : Meaning
  pub plain : IsPlain meaning
  pub profile_is :
      IsProfileOf meaning (loaded_program file) steps (opening file []) (latencies_of latencies) profile
  pub output_is :
      output ≡ (after meaning (loaded_program file) steps (opening file [])).state.core.output

-- what so many steps of a file cost on the extended machine with the modules of these units
pub record IsExtendedCost (file : Executable) (units : List Unit) (latencies : Latencies) (steps cycles : ℕ) :
    Type 0 where
  pub meaning : Meaning
  pub extended : IsExtended (modules_of units) meaning
  pub cycles_are :
      cycles
      ≡ cost meaning (loaded_program file) (latencies_with (latencies_of latencies) (modules_of units)) steps
      (opening file [])

-- ---- the line

-- two digits for each byte
abbrev pub byte_digits : List ℕ → List ℕ
byte_digits bytes = flat_map (λ byte. hex_digit (byte / 16) ∷ hex_digit (byte % 16) ∷ []) bytes

-- the seed, how many blocks there are, the numbers of the choice, both costs, and the output
abbrev pub load_line :
    (seed blocks : ℕ) → List Entry → List Unit → (saved cost new_cost : ℕ) → (output : List ℕ) → List ℕ
load_line seed blocks entries units saved cost new_cost output =
    line (codes "load " ++ decimal seed ++ codes " blocks " ++ decimal blocks ++ codes " "
    ++ summary entries units saved ++ codes " cost " ++ decimal cost ++ codes " " ++ decimal new_cost
    ++ codes " output " ++ byte_digits output)

-- ---- the command

-- The program of the seed is run on the plain machine. There is a legal book of the choice of cuts for this run, and
-- the file that uses the units of the book is run on the extended machine with their modules. The line tells of these.
pub record IsLoadMade (seed : ℕ) (read : List (List ℕ)) (success : Success) : Type 0 where
  pub none_read : read ≡ []
  pub file : Executable
  pub program : IsProgramOf seed file.bytes
  pub file_is : IsReadAs file.bytes (Ok file)
  pub file_of_bytes : AreBytes file.bytes
  pub profile : Profile
  pub output : List ℕ
  pub run : IsPlainRun file usual steps_of_load profile output
  pub blocks : List Block
  pub live : Sets
  pub analysis : IsAnalysis file (targets_in profile) [] blocks live
  pub plan : Plan
  pub plan_is : IsPlanOfLoad plan
  pub book : Book
  pub units : List Unit
  pub saved : ℕ
  pub new_bytes : List ℕ
  pub new_cost : ℕ
  pub legal : IsLegal (instance_of profile blocks live usual plan) book
  pub given_up : GivesUpByNeed (instance_of profile blocks live usual plan) (reverse book.entries)
  pub units_are : AreUnits (instance_of profile blocks live usual plan) (reverse book.entries) units
  pub units_keep : IsTable units
  pub saved_is : IsSaved (instance_of profile blocks live usual plan) (reverse book.entries) saved
  pub new_is : IsNewFile (instance_of profile blocks live usual plan) file (reverse book.entries) new_bytes
  pub new_of_bytes : AreBytes new_bytes
  pub new_run : IsExtendedCost (with_bytes file new_bytes) units usual steps_of_load new_cost
  pub text_is :
      success.text.items
      ≡ load_line seed (length blocks) book.entries units saved profile.cost new_cost output
  pub writes_none : success.writes.items ≡ []
