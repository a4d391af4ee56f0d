-- What holds of the extended machine, for everybody.
use Rattle.std.specs.Prelude.{◌≡◌, ℕ, List, All}
use Rattle.ci_isa.specs.Fields.{HasCustomOpcode}
use Rattle.ci_elf.specs.Executables.{Executable, IsTextWord, IsWellFormed, text_word}
use Rattle.ci_verilog.specs.Modules.{Module, IsModule}
use Rattle.ci_machine.specs.Agreement.{TakeHidden}
use Rattle.ci_machine.specs.Extended.{IsExtended, latencies_with}
use Rattle.ci_machine.specs.Meanings.{AreOneRun}
use Rattle.ci_machine.specs.Programs.{Program, State, loaded_program, opening}
use Rattle.ci_machine.specs.Runs.{Latencies, cost}
use Rattle.ci_machine.specs.Steps.{Meaning, IsPlain}
use Rattle.ci_machine.specs.Touches.{LeavesTextFor}
use Rattle.ci_machine.specs.Words.{IsOfWords, GivesWords}

-- ---- the machine with these modules

-- there is one
abbrev pub ExtendedExists : Type 0
ExtendedExists = (modules : List Module) → All IsModule modules → (meaning : Meaning) × IsExtended modules meaning

-- and all of them make one run from a state of words
abbrev pub ExtendedIsOne : Type 0
ExtendedIsOne =
    (modules : List Module) → All IsModule modules → (left right : Meaning) → IsExtended modules left
    → IsExtended modules right → (program : Program) (n : ℕ) (state : State) → IsOfWords state
    → AreOneRun left right program n state

-- it makes words of words
abbrev pub ExtendedGivesWords : Type 0
ExtendedGivesWords =
    (modules : List Module) → All IsModule modules → (meaning : Meaning) → IsExtended modules meaning
    → GivesWords meaning

-- its units take no register that a program can name but those of their words
abbrev pub ExtendedTakesHidden : Type 0
ExtendedTakesHidden =
    (modules : List Module) (meaning : Meaning) → IsExtended modules meaning → TakeHidden meaning.units

-- ---- files of the plain machine

-- A file that has no custom word in its text runs as on the plain machine, and at the same cost, as long as no step
-- touches the text.
abbrev pub ExtendedRunsPlainFiles : Type 0
ExtendedRunsPlainFiles =
    (modules : List Module) (plain extended : Meaning) → IsPlain plain → IsExtended modules extended
    → (file : Executable) (input : List ℕ) (n : ℕ) → IsWellFormed file
    → ((address : ℕ) → IsTextWord file.ranges address → ¬ HasCustomOpcode (text_word file address))
    → LeavesTextFor plain (loaded_program file) n (opening file input)
    → AreOneRun plain extended (loaded_program file) n (opening file input)
    × ((latencies : Latencies)
    → cost plain (loaded_program file) latencies n (opening file input)
    ≡ cost extended (loaded_program file) (latencies_with latencies modules) n (opening file input))
