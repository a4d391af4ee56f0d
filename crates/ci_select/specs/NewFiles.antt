-- The file with the folded blocks of a book in place.
use Rattle.std.specs.Prelude.{◌≡◌, ℕ, ◌+◌, ◌*◌, ◌<◌, ◌≤◌, List, length}
use Rattle.std.specs.List.{Contains}
use Rattle.ci_isa.specs.declared.instruction.Insn.{Insn}
use Rattle.ci_isa.specs.Sequences.{nth_insn}
use Rattle.ci_isa.specs.Table.{IsWordOf}
use Rattle.ci_elf.specs.Executables.{Executable, IsTextWord, text_word}
use Rattle.ci_elf.specs.TextChanges.{ChangeText}
use Rattle.ci_block.specs.declared.blocks.Block.{Block}
use Rattle.ci_block.specs.Blocks.{end_of_block}
use Rattle.ci_select.specs.Histories.{History}
use Rattle.ci_select.specs.Instances.{Instance}
use Rattle.ci_select.specs.PresentBlocks.{IsPresent}

-- the file with other bytes
abbrev pub with_bytes : Executable → List ℕ → Executable
with_bytes file bytes = record file { bytes = bytes }

-- a word of the block stands at the address
abbrev pub LiesIn : Block → ℕ → Type 0
LiesIn block address = (block.leader ≤ address) × (address < end_of_block block)

-- The bytes are those of the file with the blocks of the present program in place. Words of the text that are in no
-- block are the old ones, and no byte outside the text differs.
pub record IsNewFile (instance : Instance) (file : Executable) (history : History) (bytes : List ℕ) : Type 0 where
  pub text_alone : ChangeText file bytes
  pub blocks :
      (block : Block) (insns : List Insn) (k : ℕ)
      → Contains instance.blocks block → IsPresent instance history block.leader insns → k < length insns
      → IsWordOf (text_word (with_bytes file bytes) (block.leader + 4 * k)) (nth_insn insns k)
  pub between :
      (address : ℕ) → IsTextWord file.ranges address
      → ((block : Block) → Contains instance.blocks block → ¬ LiesIn block address)
      → text_word (with_bytes file bytes) address ≡ text_word file address
