use Rattle.ci_rewrite.proofs.FoldedRuns.{folded_has_same_effect}
use Rattle.ci_rewrite.proofs.laws.folded_has_same_effect.Goals as goal

pub returns : goal.returns
returns c = folded_has_same_effect
