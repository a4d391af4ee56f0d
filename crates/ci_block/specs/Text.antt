-- What stands at the words of the text, where that may lead, and what a file loads beside the text.
use Rattle.std.specs.Prelude.{◌≡◌, ℕ, ◌+◌, ◌%◌, ◌<◌, true, List, Option, Some, None, slice_index}
use Rattle.ci_word.specs.declared.arithmetic.Op.TheVariants.{Add}
use Rattle.ci_word.specs.Arithmetic.{operation, word_of}
use Rattle.ci_isa.specs.declared.instruction.Insn.{Insn}
use Rattle.ci_isa.specs.declared.instruction.Insn.TheVariants.{Jal, Branch}
use Rattle.ci_isa.specs.Table.{IsInsnAt}
use Rattle.ci_isa.specs.Effects.{ends_block}
use Rattle.ci_elf.specs.Fields.{field}
use Rattle.ci_elf.specs.Executables.{Executable, InText, IsLoaded, IsTextWord, text_word}

-- ---- instructions

-- The instruction stands at the address, which is a multiple of four in the text. A word that the plain table doesn't
-- have, as one of the custom opcodes, stands for no instruction (`Illegal`).
pub record StandsAt (image : Executable) (address : ℕ) (insn : Insn) : Type 0 where
  pub text : IsTextWord image.ranges address
  pub reads : IsInsnAt (text_word image address) insn

-- A terminator stands at the address: a branch, JAL, JALR, ECALL, EBREAK, FENCE, AUIPC, or a word that the plain table
-- doesn't have.
pub record EndsAt (image : Executable) (address : ℕ) : Type 0 where
  pub insn : Insn
  pub stands : StandsAt image address insn
  pub ends : ends_block insn ≡ true

-- where a JAL, or a branch that is taken, leads from an address (RISC-V Unprivileged ISA 20191213, section 2.5)
abbrev pub target_of : ℕ → Insn → Option ℕ
target_of address (Jal rd offset) = Some (operation Add address (word_of offset))
target_of address (Branch cond rs1 rs2 offset) = Some (operation Add address (word_of offset))
target_of address insn = None

-- ---- data

-- four bytes from an address on are all loaded from the file, and this is their little-endian value
pub record IsLoadedWord (image : Executable) (address value : ℕ) : Type 0 where
  pub bytes : List ℕ
  pub loaded : (k : ℕ) → k < 4 → IsLoaded image (address + k) (slice_index bytes k)
  pub little_endian : field 4 0 bytes ≡ value

-- A data word: four bytes at a multiple of four, all loaded from the file and none of them text, and their value.
pub record IsDataWord (image : Executable) (address value : ℕ) : Type 0 where
  pub aligned : address % 4 ≡ 0
  pub not_text : (k : ℕ) → k < 4 → ¬ InText image.ranges (address + k)
  pub word : IsLoadedWord image address value
