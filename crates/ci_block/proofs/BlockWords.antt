-- The words of a block of a file spell its instructions.
use Rattle.std.proofs.Common.{◌≡◌, ℕ, ◌+◌, ◌*◌, ◌<◌, List, sym}
use Rattle.std.specs.Prelude.{slice_index}
use Rattle.ci_isa.specs.declared.instruction.Insn.{Insn}
use Rattle.ci_isa.specs.declared.instruction.Insn.TheVariants.{Unit, Cread, Cput, Illegal, Ebreak}
use Rattle.ci_isa.specs.Sequences.{nth_insn}
use Rattle.ci_isa.specs.Table.{IsInsnAt, IsWordOf}
use Rattle.ci_elf.specs.Executables.{Executable, place_of, text_word}
use Rattle.ci_elf.proofs.FieldLaws.{field_fits}
use Rattle.ci_block.specs.declared.blocks.Block.{Block}
use Rattle.ci_block.specs.Blocks.{IsBlockAt, size_of}

-- what stands at a word is spelt by it
pub word_of_insn : (word : ℕ) (insn : Insn) → word < 4294967296 → IsInsnAt word insn → IsWordOf word insn
word_of_insn word (Illegal w) small is = (small, sym is.0)
word_of_insn word (Unit number rd rs1 rs2 rs3) small is = absurd is.1
word_of_insn word (Cread rd index) small is = absurd is.1
word_of_insn word (Cput rs1 rs2) small is = absurd is.1
word_of_insn word insn small is = is

module _ {image : Executable} {leaders : List ℕ} {block : Block}
    (bytes : (k : ℕ) → slice_index image.bytes k < 256) (is : IsBlockAt image leaders block) where
  pub block_is_spelt :
      (k : ℕ) → k < size_of block → IsWordOf (text_word image (block.leader + 4 * k)) (nth_insn block.insns.items k)
  block_is_spelt k below =
      let address = block.leader + 4 * k in
      word_of_insn (text_word image address) (nth_insn block.insns.items k)
      (field_fits 4 (place_of image.segments address) image.bytes bytes) (is.insns k Ebreak below).reads
