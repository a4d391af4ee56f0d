-- What the definition of blocks says of all files: laws, which the functions of `src/laws.rt` have as their contracts.
use Rattle.std.specs.Prelude.{◌≡◌, ℕ, ◌-◌, List, map, slice_index_or}
use Rattle.std.specs.List.{Contains}
use Rattle.ci_isa.specs.declared.instruction.Insn.{Insn}
use Rattle.ci_elf.specs.Executables.{Executable, IsAscending, IsTextWord}
use Rattle.ci_block.specs.declared.blocks.Block.{Block}
use Rattle.ci_block.specs.declared.blocks.Next.{Next}
use Rattle.ci_block.specs.Blocks.{AreBlocks, Counts, IsBlockAt, end_of_block, size_of, ways_on}
use Rattle.ci_block.specs.Leaders.{AreLeaders, IsListing}

-- There is one list of the leaders of a file, for some targets of JALR and some addresses that the user gives.
abbrev pub ListingIsOne : Type 0
ListingIsOne =
    (image : Executable) (targets named left right : List ℕ)
    → IsListing image targets named left → IsListing image targets named right → left ≡ right

-- All that a block says. Two blocks that say the same may still differ in the room that their vectors have.
pub record BlockContents : Type 0 where
  pub leader : ℕ
  pub insns : List Insn
  pub next : Next

abbrev pub contents_of : Block → BlockContents
contents_of block = record { leader = block.leader; insns = block.insns.items; next = block.next }

-- A block's leader determines it.
abbrev pub BlockIsOne : Type 0
BlockIsOne =
    (image : Executable) (leaders : List ℕ) (left right : Block) → IsAscending image.ranges
    → IsBlockAt image leaders left → IsBlockAt image leaders right → left.leader ≡ right.leader
    → contents_of left ≡ contents_of right

-- So there is one list of blocks for some leaders of an image.
abbrev pub BlocksAreOne : Type 0
BlocksAreOne =
    (image : Executable) (leaders : List ℕ) (left right : List Block) → IsAscending image.ranges
    → AreBlocks image leaders left → AreBlocks image leaders right → map contents_of left ≡ map contents_of right

-- Each way on from the last instruction of a listed leader's block that counts leads to a leader.
abbrev pub WaysAreLeaders : Type 0
WaysAreLeaders =
    (image : Executable) (leaders : List ℕ) (block : Block) (d : Insn) (address : ℕ) → IsAscending image.ranges
    → AreLeaders image leaders → Contains leaders block.leader → IsBlockAt image leaders block
    → Counts image (ways_on (end_of_block block - 4) (slice_index_or block.insns.items (size_of block - 1) d)) address
    → Contains leaders address

-- The word behind a listed leader's block is a leader, if it is in the text: also where the block ends since it has 256
-- instructions, or with its range.
abbrev pub WordBehindIsLeader : Type 0
WordBehindIsLeader =
    (image : Executable) (leaders : List ℕ) (block : Block) → IsAscending image.ranges
    → AreLeaders image leaders → Contains leaders block.leader → IsBlockAt image leaders block
    → IsTextWord image.ranges (end_of_block block) → Contains leaders (end_of_block block)
