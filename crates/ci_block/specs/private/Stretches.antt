-- For private contracts: stretches of text from a leader to the next one or to the end of its range.
use Rattle.std.specs.Prelude.{◌≡◌, ℕ, ◌+◌, ◌*◌, ◌%◌, ◌<◌, ◌≤◌, ◌⊎◌, List, length, map, take, slice_index_or}
use Rattle.std.specs.List.{Contains}
use Rattle.ci_isa.specs.declared.instruction.Insn.{Insn}
use Rattle.ci_elf.specs.declared.ranges.Range.{Range}
use Rattle.ci_elf.specs.Executables.{Executable, HoldsAddress, end_of}
use Rattle.ci_elf.specs.MemoryMap.{memory_top}
use Rattle.ci_block.specs.declared.blocks.Block.{Block}
use Rattle.ci_block.specs.Blocks.{IsBlockAt, IsNext}
use Rattle.ci_block.specs.private.Marking.{range_at, AreTextRanges}
use Rattle.ci_block.specs.Text.{StandsAt}

-- the range of an address ends here
pub record IsRangeEnd (ranges : List Range) (address end : ℕ) : Type 0 where
  pub text : AreTextRanges ranges
  pub index : ℕ
  pub holds : HoldsAddress ranges address index
  pub is : end ≡ end_of (range_at ranges index)

-- words of one range from the start to the end
pub record IsStretch (image : Executable) (start end : ℕ) : Type 0 where
  pub index : ℕ
  pub from : (range_at image.ranges index).start ≤ start
  pub to : end ≤ end_of (range_at image.ranges index)
  pub some : start < end
  pub start_aligned : start % 4 ≡ 0
  pub end_aligned : end % 4 ≡ 0
  pub below_top : end ≤ memory_top

-- the stretch of a leader ends at the next leader or with its range
pub record EndsStretch (image : Executable) (leaders : List ℕ) (leader end : ℕ) : Type 0 where
  pub stretch : IsStretch image leader end
  pub alone : (a : ℕ) → leader < a → a < end → ¬ Contains leaders a
  pub stop : Contains leaders end ⊎ (end ≡ end_of (range_at image.ranges stretch.index))

-- the instructions of these words
pub record AreInsns (image : Executable) (start count : ℕ) (insns : List Insn) : Type 0 where
  pub many : length insns ≡ count
  pub each : (k : ℕ) (d : Insn) → k < count → StandsAt image (start + 4 * k) (slice_index_or insns k d)

-- the block of a stretch
pub record IsBlockOf (image : Executable) (start end : ℕ) (block : Block) : Type 0 where
  pub leads : block.leader ≡ start
  pub size : start + 4 * length block.insns.items ≡ end
  pub insns : AreInsns image start (length block.insns.items) block.insns.items
  pub next : (last : ℕ) (insn : Insn) → last + 4 ≡ end → StandsAt image last insn → IsNext image last insn block.next

-- the blocks of the first leaders
pub record AreBlocksOf (image : Executable) (leaders : List ℕ) (count : ℕ) (blocks : List Block) : Type 0 where
  pub by_leader : map (λ block. block.leader) blocks ≡ take count leaders
  pub each : (block : Block) → Contains blocks block → IsBlockAt image leaders block
