-- The run of the program of a seed.
use Rattle.std.specs.Prelude.{◌≡◌, ℕ, ◌≤◌, List, Some, Ok}
use Rattle.ci_elf.specs.Executables.{Executable}
use Rattle.ci_elf.specs.Rules.{IsReadAs}
use Rattle.ci_machine.specs.declared.ends.End.TheVariants.{Exit}
use Rattle.ci_machine.specs.Programs.{loaded_program, opening}
use Rattle.ci_machine.specs.Runs.{after}
use Rattle.ci_machine.specs.Steps.{Meaning, IsPlain}
use Rattle.ci_machine.specs.Touches.{LeavesTextFor}
use Rattle.ci_gen.specs.Programs.{IsProgramOf}

-- how many words the text has
abbrev pub words_of_text : ℕ
words_of_text = 16210

-- On the plain machine it leaves the text alone, whatever the input is, and has exited with code 0 after as many steps
-- as the text has words.
abbrev pub ProgramsExit : Type 0
ProgramsExit =
    (seed : ℕ) (file : Executable) (input : List ℕ) (meaning : Meaning) (steps : ℕ) → IsProgramOf seed file.bytes
    → IsReadAs file.bytes (Ok file) → IsPlain meaning → words_of_text ≤ steps
    → LeavesTextFor meaning (loaded_program file) steps (opening file input)
    × ((after meaning (loaded_program file) steps (opening file input)).end ≡ Some (Exit 0))
