use Rattle.ci_rewrite.proofs.Chains.{block_keeps_itself}
use Rattle.ci_rewrite.proofs.laws.block_keeps_itself.Goals as goal

pub returns : goal.returns
returns c = block_keeps_itself
