-- The text of a run: that it is there, and stays, and is that of a file.
use Rattle.std.specs.Prelude.{◌≡◌, ℕ, ◌+◌, ◌*◌, ◌<◌, ◌≤◌, true, List, length, slice_index_or}
use Rattle.ci_isa.specs.declared.instruction.Insn.{Insn}
use Rattle.ci_elf.specs.Executables.{Executable, IsTextWord, text_word}
use Rattle.ci_machine.specs.Cores.{Core}
use Rattle.ci_machine.specs.Programs.{Program, in_text, heap_start}
use Rattle.ci_machine.specs.Steps.{Meaning}
use Rattle.ci_machine.specs.Blocks.{HaveSameText, IsMapped}

-- The text is mapped and lies below the heap, which does not end before it starts. So moving the heap's end leaves the
-- text alone.
pub record HasText (program : Program) (core : Core) : Type 0 where
  pub mapped : IsMapped (in_text program) core.memory
  pub below : (address : ℕ) → in_text program address ≡ true → address < heap_start program
  pub heap : heap_start program ≤ core.heap_end

-- the text of one core is that of the other
pub record HasTextOf (program : Program) (first later : Core) : Type 0 where
  pub same : HaveSameText program first.memory later.memory
  pub text : HasText program later

-- ---- words of a file

-- the word of the file's text at an address reads as the instruction
pub record IsFileInsn (meaning : Meaning) (file : Executable) (address : ℕ) (insn : Insn) : Type 0 where
  pub text : IsTextWord file.ranges address
  pub reads : meaning.insn (text_word file address) ≡ insn

-- so do the words from an address on, each as its instruction
abbrev pub AreFileInsns : Meaning → Executable → ℕ → List Insn → Type 0
AreFileInsns meaning file address insns =
    (k : ℕ) (d : Insn) → k < length insns → IsFileInsn meaning file (address + 4 * k) (slice_index_or insns k d)
