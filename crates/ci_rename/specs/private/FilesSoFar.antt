-- For private contracts: a file of which the first blocks are renamed.
use Rattle.std.specs.Prelude.{◌≡◌, ℕ, ◌≤◌, nat_lt, List, length, filter, sum_by}
use Rattle.ci_elf.specs.Executables.{Executable, IsTextWord, text_word}
use Rattle.ci_elf.specs.TextChanges.{ChangeText}
use Rattle.ci_block.specs.Blocks.{size_of}
use Rattle.ci_block.specs.declared.blocks.Block.{Block}
use Rattle.ci_live.specs.Sets.{Sets}
use Rattle.ci_rename.specs.RenamedFiles.{AreRenamedAt, IsOutside}

-- These blocks are renamed in place: `values` of their values are, and in `changed` of them some.
pub record AreRenamedSoFar (old new : Executable) (live : Sets) (blocks : List Block) (values changed : ℕ)
    : Type 0 where
  pub new_is : new ≡ record old { bytes = new.bytes }
  pub text_alone : ChangeText old new.bytes
  pub others_stay :
      (address : ℕ) → IsTextWord old.ranges address → IsOutside blocks address
      → text_word new address ≡ text_word old address
  pub each : List ℕ
  pub renamed : AreRenamedAt live new blocks each
  pub values_are : values ≡ sum_by (λ count. count) each
  pub changed_are : changed ≡ length (filter (λ count. nat_lt 0 count) each)
  pub few_values : values ≤ sum_by size_of blocks
  pub few_changed : changed ≤ values
