-- The machine of a run, and the text of the run from the profile that counts it.
use Rattle.std.proofs.Common.{◌≡◌, ℕ, ◌∙◌, ◌++◌, List, Option, Some, None}
use Rattle.std.specs.Prelude.{IfSome, All}
use Rattle.std.proofs.lemmas.List.Elements.{All-cons, All-nil}
use Rattle.ci_elf.specs.Executables.{Executable}
use Rattle.ci_machine.specs.Programs.{Program, State, loaded_program, opening}
use Rattle.ci_machine.specs.Steps.{Meaning}
use Rattle.ci_machine.proofs.ExtendedMeaning.{extended_exists}
use Rattle.ci_machine.proofs.PlainMeaning.{plain_exists}
use Rattle.ci_machine.specs.Runs.{Latencies, after, steps_made, cost}
use Rattle.ci_emu.specs.declared.profile.Profile.{Profile}
use Rattle.ci_emu.specs.Profiles.{IsProfileOf}
use Rattle.ci_verilog.specs.Modules.{Module, IsModule}
use Rattle.ci_vread.specs.Lexicon.{Token}
use Rattle.ci_vread.specs.Spelling.{SpellsModules, no_modules, more_modules}
use Rattle.ci_calls.specs.Files.{AreModules}
use Rattle.ci_commands.specs.RunCommand.{IsMachine, end_line, run_text}

-- ---- the machine

-- tokens spell modules
spelled_are : {k : ℕ} {tokens : List Token} {modules : List Module} → SpellsModules k tokens modules → All IsModule modules
spelled_are no_modules = All-nil IsModule
spelled_are (more_modules {m = m} {modules = modules} is_next below is spells later) =
    All-cons IsModule m modules is (spelled_are later)

-- and so does a file of units
pub given_are : (units : Option (List ℕ)) (modules : Option (List Module)) → AreModules units modules → IfSome modules (All IsModule)
given_are None None are = tt
given_are None (Some modules) are = absurd are
given_are (Some bytes) None are = absurd are
given_are (Some bytes) (Some modules) are = spelled_are are.spelled

-- there is a machine with these modules
pub machine_exists : (modules : Option (List Module)) → IfSome modules (All IsModule) → (meaning : Meaning) × IsMachine modules meaning
machine_exists None are = plain_exists
machine_exists (Some modules) are = extended_exists modules are

-- ---- the text

-- the output and the end line of a run from any state
abbrev text_from : Meaning → Latencies → ℕ → Program → State → List ℕ
text_from meaning latencies steps program start =
    let run = after meaning program steps start in
    run.state.core.output
    ++ end_line run.end (steps_made meaning program steps start) (cost meaning program latencies steps start)

pub run_text_is : (meaning : Meaning) (latencies : Latencies) (file : Executable) (input : List ℕ) (steps : ℕ)
    (program : Program) (start last : State) (profile : Profile) (output line : List ℕ)
    → program ≡ loaded_program file → start ≡ opening file input
    → last ≡ (after meaning program steps start).state → IsProfileOf meaning program steps start latencies profile
    → output ≡ last.core.output → line ≡ end_line profile.end profile.steps profile.cost
    → output ++ line ≡ run_text meaning latencies file input steps
run_text_is meaning latencies file input steps program start last profile output line same_program same_start last_is counted output_is line_is =
    (λ i. (output_is ∙ (λ j. (last_is j).core.output)) i ++ (line_is ∙ (λ j. end_line (counted.end j) (counted.steps j) (counted.cost j))) i)
    ∙ (λ i. text_from meaning latencies steps (same_program i) (same_start i))
