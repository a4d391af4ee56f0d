-- Blocks of a file stand in order in its text, and have few instructions.
use Rattle.std.proofs.Common.{ℕ, ◌+◌, ◌*◌, ◌^◌, ◌<◌, ◌≤◌, List}
use Rattle.std.specs.List.{Contains, sum_by}
use Rattle.ci_elf.specs.Executables.{Executable, IsTextWord}
use Rattle.ci_block.specs.declared.blocks.Block.{Block}
use Rattle.ci_block.specs.Blocks.{AreInOrder, size_of}
use Rattle.ci_block.proofs.BlockLaws.{blocks_in_order}
use Rattle.ci_block.proofs.BlockSums.{few_insns, words_of_block}
use Rattle.ci_live.specs.Sets.{Sets}
use Rattle.ci_select.specs.Instances.{AreBlocksOf, AreOfSomeFile}

pub words_in_text :
    {file : Executable} {blocks : List Block} {live : Sets} {block : Block}
    → AreBlocksOf file blocks live → Contains blocks block
    → (k : ℕ) → k < size_of block → IsTextWord file.ranges (block.leader + 4 * k)
words_in_text {block = block} of c k within = words_of_block of.2.blocks_are block k c within

-- the blocks stand in the order of their leaders
pub blocks_stand_in_order : {file : Executable} {blocks : List Block} {live : Sets} → AreBlocksOf file blocks live → AreInOrder blocks
blocks_stand_in_order {blocks = blocks} of = blocks_in_order of.2.leaders blocks of.2.blocks_are.by_leader of.2.listing.ascending

pub few_instructions : {blocks : List Block} {live : Sets} → AreOfSomeFile blocks live → sum_by size_of blocks ≤ 2 ^ 30
few_instructions {blocks = blocks} (file, of, formed, bytes) =
    few_insns file of.2.leaders blocks formed of.2.blocks_are of.2.listing.ascending
