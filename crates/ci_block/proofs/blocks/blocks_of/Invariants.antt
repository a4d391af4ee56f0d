use Rattle.ci_block.specs.private.Stretches.{AreBlocksOf}
use Rattle.ci_block.proofs.blocks.blocks_of.Given as goal

abbrev pub invariant-loop-index : goal.invariant-loop-index
invariant-loop-index l = AreBlocksOf l.image l.leaders l.index l.blocks.items
