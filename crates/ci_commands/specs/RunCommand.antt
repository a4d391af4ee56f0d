-- For every reader: the command `run`, the run of an executable file.
use Rattle.std.specs.Prelude.{◌≡◌, ℕ, List, [], ◌∷◌, ◌++◌, codes, Option, Some, None}
use Rattle.std.specs.Fmt.{decimal}
use Rattle.ci_reading.specs.Lines.{line}
use Rattle.ci_elf.specs.Executables.{Executable, IsImageOf}
use Rattle.ci_lat.specs.Latencies.{Latencies as Table}
use Rattle.ci_machine.specs.declared.ends.End.{End}
use Rattle.ci_machine.specs.Extended.{IsExtended, latencies_with}
use Rattle.ci_machine.specs.Programs.{loaded_program, opening}
use Rattle.ci_machine.specs.Steps.{Meaning, IsPlain}
use Rattle.ci_machine.specs.Runs.{Latencies, after, steps_made, cost}
use Rattle.ci_emu.specs.Ends.{end_text}
use Rattle.ci_emu.specs.TableLatencies.{latencies_of}
use Rattle.ci_verilog.specs.Modules.{Module}
use Rattle.ci_calls.specs.declared.success.Success.{Success}
use Rattle.ci_calls.specs.Files.{executable_input, units_input, table_input, program_input}
use Rattle.ci_calls.specs.Files.{optional_input, optional_bytes, AreGiven, AreModules, AreLatencies, input_bytes}
use Rattle.ci_calls.specs.Inputs.{Input}

-- ---- the end line

-- the end of a run, its steps, and their cost in cycles
abbrev pub end_line : Option End → ℕ → ℕ → List ℕ
end_line end steps cost =
    line (codes "end " ++ end_text end ++ codes " steps " ++ decimal steps ++ codes " cost " ++ decimal cost)

-- ---- the machine

-- The machine that runs the program: the plain one where no units are given, and else the extended one with their
-- modules, also where these are none.
abbrev pub IsMachine : Option (List Module) → Meaning → Type 0
IsMachine None meaning = IsPlain meaning
IsMachine (Some modules) meaning = IsExtended modules meaning

-- what its instructions take: those of units are in the modules, and all others in the table
abbrev pub latencies_by : Option (List Module) → Table → Latencies
latencies_by None table = latencies_of table
latencies_by (Some modules) table = latencies_with (latencies_of table) modules

-- ---- the command

-- the executable, the units, the table and the input
abbrev pub run_inputs : List ℕ → (units table input : Option (List ℕ)) → List Input
run_inputs file units table input =
    executable_input file
    ∷ (optional_input units_input units ++ (optional_input table_input table ++ optional_input program_input input))

-- the output of the run that makes so many steps, or fewer where one of them ends it, and its end line
abbrev pub run_text : Meaning → Latencies → Executable → List ℕ → ℕ → List ℕ
run_text meaning latencies file input steps =
    let program = loaded_program file in
    let start = opening file input in
    let run = after meaning program steps start in
    run.state.core.output
    ++ end_line run.end (steps_made meaning program steps start) (cost meaning program latencies steps start)

-- the text of the run by the machine with these modules; all such machines make the same
pub record IsRunText
    (modules : Option (List Module)) (table : Table) (file : Executable) (input : List ℕ) (steps : ℕ)
    (text : List ℕ) : Type 0 where
  pub meaning : Meaning
  pub machine : IsMachine modules meaning
  pub text_is : text ≡ run_text meaning (latencies_by modules table) file input steps

-- it puts the output and the end line of the run, by these limits and files
pub record IsRunMade
    (steps : ℕ) (units_name table_name input_name : Option (List ℕ)) (read : List (List ℕ)) (success : Success) :
    Type 0 where
  pub executable : List ℕ
  pub units : Option (List ℕ)
  pub table : Option (List ℕ)
  pub input : Option (List ℕ)
  pub read_is : read ≡ executable ∷ (optional_bytes units ++ (optional_bytes table ++ optional_bytes input))
  pub units_given : AreGiven units_name units
  pub table_given : AreGiven table_name table
  pub input_given : AreGiven input_name input
  pub file : Executable
  pub modules : Option (List Module)
  pub latencies : Table
  pub file_is : IsImageOf executable file
  pub modules_are : AreModules units modules
  pub latencies_are : AreLatencies table latencies
  pub text : IsRunText modules latencies file (input_bytes input) steps success.text.items
  pub writes_none : success.writes.items ≡ []
