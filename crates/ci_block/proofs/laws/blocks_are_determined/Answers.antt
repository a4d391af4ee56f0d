use Rattle.ci_block.proofs.OneBlock.{block_is_one, blocks_are_one}
use Rattle.ci_block.proofs.laws.blocks_are_determined.Goals as goal

pub returns-clause-block : goal.returns-clause-block
returns-clause-block c = block_is_one

pub returns-clause-blocks : goal.returns-clause-blocks
returns-clause-blocks c = blocks_are_one
