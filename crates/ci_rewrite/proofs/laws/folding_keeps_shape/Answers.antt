use Rattle.ci_rewrite.proofs.Keeping.{folding_keeps_shape}
use Rattle.ci_rewrite.proofs.laws.folding_keeps_shape.Goals as goal

pub returns : goal.returns
returns c = folding_keeps_shape
