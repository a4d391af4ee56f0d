-- The basic blocks of an executable file, and the registers that are live around them.
use Rattle.std.specs.Prelude.{ℕ, List}
use Rattle.ci_elf.specs.Executables.{Executable}
use Rattle.ci_block.specs.declared.blocks.Block.{Block}
use Rattle.ci_block.specs.Blocks.{AreBlocks}
use Rattle.ci_block.specs.Leaders.{IsListing}
use Rattle.ci_live.specs.Liveness.{AreLiveSets}
use Rattle.ci_live.specs.Sets.{Sets}

-- These are the blocks of the file, in the order of their leaders, and their live sets. `targets` are the addresses
-- that JALR is known to jump to, and `named` those that the user names as leaders.
pub record IsAnalysis (file : Executable) (targets named : List ℕ) (blocks : List Block) (sets : Sets) : Type 0 where
  pub leaders : List ℕ
  pub listing : IsListing file targets named leaders
  pub blocks_are : AreBlocks file leaders blocks
  pub live : AreLiveSets blocks sets
