-- What the memory of a run holds of the file.
use Rattle.std.specs.Prelude.{◌≡◌, ℕ, List, Some, Ok}
use Rattle.ci_isa.specs.declared.instruction.Insn.{Insn}
use Rattle.ci_elf.specs.Executables.{Executable, IsTextWord, IsWellFormed, text_word}
use Rattle.ci_elf.specs.Rules.{IsReadAs}
use Rattle.ci_elf.specs.TextChanges.{ChangeText}
use Rattle.ci_machine.specs.Agreement.{AgreeOutside}
use Rattle.ci_machine.specs.Programs.{in_text, loaded_program, opening}
use Rattle.ci_machine.specs.Steps.{Meaning, word_at, insn_in}
use Rattle.ci_machine.specs.Runs.{after}
use Rattle.ci_machine.specs.Touches.{LeavesTextFor}
use Rattle.ci_machine.specs.Blocks.{StandAt}
use Rattle.ci_machine.specs.Texts.{AreFileInsns}

-- The words of the text are those of the file.
abbrev pub OpensWithFileWords : Type 0
OpensWithFileWords =
    (file : Executable) (input : List ℕ) (address : ℕ) → IsWellFormed file → IsTextWord file.ranges address
    → word_at (opening file input).core.memory address ≡ Some (text_word file address)

-- And so are the instructions, as long as no step touched the text.
abbrev pub FileInsnsStay : Type 0
FileInsnsStay =
    (meaning : Meaning) (file : Executable) (input : List ℕ) (n : ℕ) → IsWellFormed file
    → LeavesTextFor meaning (loaded_program file) n (opening file input)
    → (address : ℕ) → IsTextWord file.ranges address
    → insn_in meaning (loaded_program file)
    (after meaning (loaded_program file) n (opening file input)).state.core.memory
    address
    ≡ Some (meaning.insn (text_word file address))

-- So instructions that the file has from an address on stand there.
abbrev pub FileInsnsStand : Type 0
FileInsnsStand =
    (meaning : Meaning) (file : Executable) (input : List ℕ) (n : ℕ) → IsWellFormed file
    → LeavesTextFor meaning (loaded_program file) n (opening file input)
    → (insns : List Insn) (address : ℕ) → AreFileInsns meaning file address insns
    → StandAt meaning (loaded_program file)
    (after meaning (loaded_program file) n (opening file input)).state.core.memory
    address insns

-- Where words of a file's text are written over, runs of both files open alike but for the text.
abbrev pub OpensAlike : Type 0
OpensAlike =
    (old new : List ℕ) (file : Executable) (input : List ℕ) → IsReadAs old (Ok file) → ChangeText file new
    → AgreeOutside (in_text (loaded_program file))
    (opening file input).core
    (opening (record file { bytes = new }) input).core
