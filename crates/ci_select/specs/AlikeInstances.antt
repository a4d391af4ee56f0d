-- Instances of the selection problem that say the same, for everybody.
use Rattle.std.specs.Prelude.{◌≡◌, map}
use Rattle.std.specs.List.{Contains}
use Rattle.ci_block.specs.declared.blocks.Block.{Block}
use Rattle.ci_block.specs.Laws.{contents_of}
use Rattle.ci_live.specs.Sets.{after_block}
use Rattle.ci_select.specs.Instances.{Instance}

-- Both say the same of each block: its instructions, what is live after it and how often it was entered; with the same
-- latencies and limits. So do two instances that are made of the same files.
pub record AreAlike (left right : Instance) : Type 0 where
  pub blocks : map contents_of left.blocks ≡ map contents_of right.blocks
  pub live :
      (block : Block) → Contains left.blocks block
      → after_block left.live block.leader ≡ after_block right.live block.leader
  pub entries :
      (block : Block) → Contains left.blocks block → left.entries block.leader ≡ right.entries block.leader
  pub table : left.table ≡ right.table
  pub plan : left.plan ≡ right.plan
