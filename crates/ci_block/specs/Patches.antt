-- Words of a block that are written into a file.
use Rattle.std.specs.Prelude.{◌≡◌, ℕ, ◌+◌, ◌*◌, ◌<◌, List, length}
use Rattle.ci_isa.specs.declared.instruction.Insn.{Insn}
use Rattle.ci_isa.specs.Sequences.{nth_insn}
use Rattle.ci_isa.specs.Table.{IsWordOf}
use Rattle.ci_elf.specs.Executables.{Executable, IsTextWord, text_word}
use Rattle.ci_elf.specs.TextChanges.{ChangeText}

-- the address is one of a word of so many from an address on
abbrev pub IsWordFrom : ℕ → ℕ → ℕ → Type 0
IsWordFrom start count address = (k : ℕ) × (k < count) × (address ≡ start + 4 * k)

-- The words of so many of the instructions stand in the file from the leader on, and nothing else is changed.
pub record PatchesWords (before after : Executable) (leader : ℕ) (insns : List Insn) (count : ℕ) : Type 0 where
  pub same_else : after ≡ record before { bytes = after.bytes }
  pub text_alone : ChangeText before after.bytes
  pub words : (k : ℕ) → k < count → IsWordOf (text_word after (leader + 4 * k)) (nth_insn insns k)
  pub others :
      (address : ℕ) → IsTextWord before.ranges address → ¬ IsWordFrom leader count address
      → text_word after address ≡ text_word before address

-- those of all of them do
abbrev pub PatchesBlock : Executable → Executable → ℕ → List Insn → Type 0
PatchesBlock before after leader insns = PatchesWords before after leader insns (length insns)
