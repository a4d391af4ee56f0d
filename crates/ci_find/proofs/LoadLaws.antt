-- The runs of a generated program and of the one that uses the units.
use Rattle.std.proofs.Common.{◌≡◌, ◌∙◌, ℕ, ◌/◌, ◌%◌, ◌<◌, List, [], ◌∷◌, ◌++◌, Ok, refl, subst, arith, length}
use Rattle.std.proofs.lemmas.List.Concat.{flat_map-append}
use Rattle.ci_reading.specs.Hex.{hex_digit}
use Rattle.ci_runs.proofs.UnitModules.{table_of_modules}
use Rattle.ci_elf.specs.Executables.{Executable}
use Rattle.ci_lat.specs.Latencies.{Latencies}
use Rattle.ci_machine.specs.Extended.{IsExtended, latencies_with}
use Rattle.ci_machine.specs.Programs.{Program, State, loaded_program, opening}
use Rattle.ci_machine.specs.Runs.{after}
use Rattle.ci_machine.specs.Steps.{Meaning}
use Rattle.ci_machine.specs.Words.{AreBytes}
use Rattle.ci_machine.proofs.ExtendedMeaning.{extended_exists}
use Rattle.ci_emu.specs.declared.profile.Profile.{Profile}
use Rattle.ci_emu.specs.Profiles.{IsProfileOf}
use Rattle.ci_emu.specs.TableLatencies.{latencies_of}
use Rattle.ci_unit.specs.Tables.{IsTable}
use Rattle.ci_unit.specs.Units.{Unit}
use Rattle.ci_verilog.specs.Modules.{Module}
use Rattle.ci_vemit.specs.Templates.{modules_of}
use Rattle.ci_find.specs.LoadCommand.{byte_digits, IsExtendedCost}
use Rattle.ci_find.proofs.ProfiledRuns.{opened}
use Rattle.std.specs.Prelude.{reverse}
use Rattle.ci_elf.specs.Rules.{IsReadAs}
use Rattle.ci_gen.specs.Programs.{IsProgramOf}
use Rattle.ci_lat.specs.Latencies.{usual}
use Rattle.ci_block.specs.declared.blocks.Block.{Block}
use Rattle.ci_live.specs.Analyses.{IsAnalysis}
use Rattle.ci_live.specs.Sets.{Sets}
use Rattle.ci_emu.specs.Profiles.{targets_in}
use Rattle.ci_log.specs.Books.{Book}
use Rattle.ci_select.specs.declared.plan.Plan.{Plan}
use Rattle.ci_select.specs.Instances.{instance_of}
use Rattle.ci_select.specs.GivenUp.{GivesUpByNeed}
use Rattle.ci_select.specs.LegalBooks.{IsLegal}
use Rattle.ci_select.specs.NewFiles.{IsNewFile, with_bytes}
use Rattle.ci_select.specs.Savings.{IsSaved}
use Rattle.ci_select.specs.UnitNumbers.{AreUnits}
use Rattle.ci_calls.specs.declared.success.Success.{Success}
use Rattle.ci_find.specs.LoadCommand.{load_line, steps_of_load, IsLoadMade, IsPlainRun, IsPlanOfLoad}

-- the output of a run from a state that is the opening one
pub opened_output :
    (meaning : Meaning) (file : Executable) (steps : ℕ) (program : Program) (start last : State) (output : List ℕ)
    → program ≡ loaded_program file → start ≡ opening file []
    → last ≡ (after meaning program steps start).state → output ≡ last.core.output
    → output ≡ (after meaning (loaded_program file) steps (opening file [])).state.core.output
opened_output meaning file steps program start last output same_program same_start last_is is =
    is ∙ ((λ i. (last_is i).core.output) ∙ (λ i. (after meaning (same_program i) steps (same_start i)).state.core.output))

-- the digits of a byte are ASCII
pub glyph_small : (d : ℕ) → d < 16 → hex_digit d < 128
glyph_small d below = grind arith

-- one byte more
pub digits_more : (bytes : List ℕ) (byte : ℕ)
    → byte_digits (bytes ++ byte ∷ []) ≡ byte_digits bytes ++ (hex_digit (byte / 16) ∷ hex_digit (byte % 16) ∷ [])
digits_more bytes byte =
    flat_map-append (λ (b : ℕ). hex_digit (b / 16) ∷ hex_digit (b % 16) ∷ []) bytes (byte ∷ [])

-- what a run of the new file costs, by its profile
pub cost_of_new :
    (file : Executable) (units : List Unit) (table : Latencies) (steps : ℕ) (modules : List Module) (program : Program)
    (start : State) (profile : Profile) → IsTable units → modules ≡ modules_of units
    → program ≡ loaded_program file → start ≡ opening file []
    → ((meaning : Meaning) → IsExtended modules meaning
    → IsProfileOf meaning program steps start (latencies_with (latencies_of table) modules) profile)
    → IsExtendedCost file units table steps profile.cost
cost_of_new file units table steps modules program start profile is same same_program same_start counted =
    let machine = extended_exists (modules_of units) (table_of_modules is) in
    let by = subst (λ (ms : List Module). IsExtended ms machine.0
    → IsProfileOf machine.0 program steps start (latencies_with (latencies_of table) ms) profile) same (counted machine.0) in
    let profiled = opened machine.0 file [] steps (latencies_with (latencies_of table) (modules_of units)) program start profile
    same_program same_start (by machine.1) in
    record { meaning = machine.0; extended = machine.1; cycles_are = profiled.cost }

-- what the line of a load tells, where the table is the usual one
pub load_made :
    (seed : ℕ) (file new_file : Executable) (table : Latencies) (profile : Profile) (output : List ℕ)
    (blocks : List Block) (live : Sets) (plan : Plan) (book : Book) (units : List Unit) (saved new_cost : ℕ)
    (success : Success) → table ≡ usual → IsProgramOf seed file.bytes → IsReadAs file.bytes (Ok file)
    → AreBytes file.bytes → IsPlainRun file table steps_of_load profile output → IsAnalysis file (targets_in profile) [] blocks live
    → IsPlanOfLoad plan → IsLegal (instance_of profile blocks live table plan) book
    → GivesUpByNeed (instance_of profile blocks live table plan) (reverse book.entries)
    → AreUnits (instance_of profile blocks live table plan) (reverse book.entries) units → IsTable units
    → IsNewFile (instance_of profile blocks live table plan) file (reverse book.entries) new_file.bytes
    → AreBytes new_file.bytes
    → IsSaved (instance_of profile blocks live table plan) (reverse book.entries) saved
    → new_file ≡ with_bytes file new_file.bytes → IsExtendedCost new_file units table steps_of_load new_cost
    → success.text.items ≡ load_line seed (length blocks) book.entries units saved profile.cost new_cost output
    → success.writes.items ≡ [] → IsLoadMade seed [] success
load_made seed file new_file table profile output blocks live plan book units saved new_cost success same program file_is file_of_bytes run analysis plan_is legal given_up units_are units_keep new_is new_of_bytes saved_is new_same new_run text_is writes_none = record {
  none_read = refl;
  file = file;
  program = program;
  file_is = file_is;
  file_of_bytes = file_of_bytes;
  profile = profile;
  output = output;
  run = subst (λ (t : Latencies). IsPlainRun file t steps_of_load profile output) same run;
  blocks = blocks;
  live = live;
  analysis = analysis;
  plan = plan;
  plan_is = plan_is;
  book = book;
  units = units;
  saved = saved;
  new_bytes = new_file.bytes;
  new_cost = new_cost;
  legal = subst (λ (t : Latencies). IsLegal (instance_of profile blocks live t plan) book) same legal;
  given_up =
      subst (λ (t : Latencies). GivesUpByNeed (instance_of profile blocks live t plan) (reverse book.entries)) same given_up;
  units_are =
      subst (λ (t : Latencies). AreUnits (instance_of profile blocks live t plan) (reverse book.entries) units) same units_are;
  units_keep = units_keep;
  saved_is =
      subst (λ (t : Latencies). IsSaved (instance_of profile blocks live t plan) (reverse book.entries) saved) same saved_is;
  new_is =
      subst (λ (t : Latencies). IsNewFile (instance_of profile blocks live t plan) file (reverse book.entries) new_file.bytes)
      same new_is;
  new_of_bytes = new_of_bytes;
  new_run =
      subst (λ (t : Latencies). IsExtendedCost (with_bytes file new_file.bytes) units t steps_of_load new_cost) same
      (subst (λ (f : Executable). IsExtendedCost f units table steps_of_load new_cost) new_same new_run);
  text_is = text_is;
  writes_none = writes_none;
}
