-- The basic blocks of an executable file, and their successors.
use Rattle.std.specs.Prelude.{◌≡◌, ◌≢◌, ℕ, ◌+◌, ◌-◌, ◌*◌, ◌<◌, ◌≤◌, Bool, true, false, List, [], ◌∷◌, length, map}
use Rattle.std.specs.Prelude.{slice_index_or}
use Rattle.std.specs.List.{AllPairs, Contains}
use Rattle.ci_word.specs.declared.arithmetic.Op.TheVariants.{Add}
use Rattle.ci_word.specs.Arithmetic.{operation, word_of}
use Rattle.ci_isa.specs.declared.instruction.Insn.{Insn}
use Rattle.ci_isa.specs.declared.instruction.Insn.TheVariants.{Jal, Jalr, Branch, Ebreak, Illegal}
use Rattle.ci_isa.specs.Effects.{ends_block}
use Rattle.ci_elf.specs.declared.ranges.Range.{Range}
use Rattle.ci_elf.specs.Executables.{Executable, IsTextWord, end_of}
use Rattle.ci_block.specs.declared.blocks.Block.{Block}
use Rattle.ci_block.specs.declared.blocks.Next.{Next}
use Rattle.ci_block.specs.declared.blocks.Next.TheVariants.{Stop, One, Two, Any}
use Rattle.ci_block.specs.Text.{StandsAt}

-- ---- successors

-- where the last instruction of a block leads from its address, a branch's target first; JALR leads to any leader
abbrev pub ways_on : ℕ → Insn → List ℕ
ways_on last (Branch cond rs1 rs2 offset) = operation Add last (word_of offset) ∷ (last + 4) ∷ []
ways_on last (Jal rd offset) = operation Add last (word_of offset) ∷ []
ways_on last (Jalr rd rs1 offset) = []
ways_on last Ebreak = []
ways_on last (Illegal word) = []
ways_on last insn = (last + 4) ∷ []

-- the address is one of these and counts: it is a multiple of four in the text
abbrev pub Counts : Executable → List ℕ → ℕ → Type 0
Counts image ways address = Contains ways address × IsTextWord image.ranges address

-- Those of the ways that count, in their order. Two that are equal are one.
abbrev pub AreSuccessors : Executable → List ℕ → Next → Type 0
AreSuccessors image ways Stop = (a : ℕ) → ¬ Counts image ways a
AreSuccessors image ways (One a) = Counts image ways a × ((b : ℕ) → Counts image ways b → b ≡ a)
AreSuccessors image ways (Two a b) =
    (ways ≡ a ∷ b ∷ []) × IsTextWord image.ranges a × IsTextWord image.ranges b × (a ≢ b)
AreSuccessors image ways Any = ⊥

-- the successors of a block whose last instruction stands at this address
abbrev pub IsNext : Executable → ℕ → Insn → Next → Type 0
IsNext image last (Jalr rd rs1 offset) next = next ≡ Any
IsNext image last insn next = AreSuccessors image (ways_on last insn) next

-- ---- blocks

abbrev pub size_of : Block → ℕ
size_of block = length block.insns.items

-- the address behind the block
abbrev pub end_of_block : Block → ℕ
end_of_block block = block.leader + 4 * size_of block

-- instruction k of the block is a terminator, or not
abbrev pub Terminates : Block → ℕ → Bool → Type 0
Terminates block k b = (d : Insn) → ends_block (slice_index_or block.insns.items k d) ≡ b

-- Why a block goes no further: the next leader is there, its last instruction is a terminator, it has 256
-- instructions, or the range ends.
pub data IsEnd (image : Executable) (leaders : List ℕ) (range : Range) (block : Block) : Type 0 where
  at_leader : Contains leaders (end_of_block block) → IsEnd image leaders range block
  at_terminator : Terminates block (size_of block - 1) true → IsEnd image leaders range block
  full : size_of block ≡ 256 → IsEnd image leaders range block
  at_end_of_range : end_of_block block ≡ end_of range → IsEnd image leaders range block

-- The block from its leader to the word before the next leader, to and with its first terminator, or to its 256th
-- instruction, whichever comes first, and never past the range.
pub record IsBlockAt (image : Executable) (leaders : List ℕ) (block : Block) : Type 0 where
  pub range : Range
  pub there : Contains image.ranges range
  pub from : range.start ≤ block.leader
  pub within : end_of_block block ≤ end_of range
  pub some : 0 < size_of block
  pub at_most : size_of block ≤ 256
  pub insns :
      (k : ℕ) (d : Insn) → k < size_of block
      → StandsAt image (block.leader + 4 * k) (slice_index_or block.insns.items k d)
  pub one_leader : (a : ℕ) → block.leader < a → a < end_of_block block → ¬ Contains leaders a
  pub one_terminator : (k : ℕ) → k + 1 < size_of block → Terminates block k false
  pub ends : IsEnd image leaders range block
  pub next :
      (d : Insn)
      → IsNext image (end_of_block block - 4) (slice_index_or block.insns.items (size_of block - 1) d) block.next

-- the blocks stand in the order of their leaders
abbrev pub AreInOrder : List Block → Type 0
AreInOrder blocks = AllPairs (λ earlier later. earlier.leader < later.leader) blocks

-- the blocks of the leaders, in their order
pub record AreBlocks (image : Executable) (leaders : List ℕ) (blocks : List Block) : Type 0 where
  pub by_leader : map (λ block. block.leader) blocks ≡ leaders
  pub each : (block : Block) → Contains blocks block → IsBlockAt image leaders block
