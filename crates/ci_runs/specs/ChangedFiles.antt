-- For private laws: an executable and one that differs from it in words of the text alone.
use Rattle.std.specs.Prelude.{◌≡◌, ℕ, List, Ok}
use Rattle.ci_elf.specs.Executables.{Executable}
use Rattle.ci_elf.specs.Rules.{IsReadAs}
use Rattle.ci_elf.specs.TextChanges.{ChangeText}
use Rattle.ci_block.specs.declared.blocks.Block.{Block}
use Rattle.ci_live.specs.Analyses.{IsAnalysis}
use Rattle.ci_live.specs.Sets.{Sets}

-- The new file is the old one but for bytes of the text. These are the blocks of the old one, and the registers that
-- are live at their leaders and behind them.
pub record IsChangedFile (old new : Executable) (live : Sets) : Type 0 where
  pub targets : List ℕ
  pub named : List ℕ
  pub blocks : List Block
  pub old_bytes : List ℕ
  pub old_is : IsReadAs old_bytes (Ok old)
  pub analysis : IsAnalysis old targets named blocks live
  pub new_is : new ≡ record old { bytes = new.bytes }
  pub text_alone : ChangeText old new.bytes
