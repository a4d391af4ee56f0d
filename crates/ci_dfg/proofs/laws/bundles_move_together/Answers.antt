use Rattle.ci_dfg.proofs.ArcLaws.{bundles_move_together}
use Rattle.ci_dfg.proofs.BundleWords.{bundles_are_short}
use Rattle.ci_dfg.proofs.laws.bundles_move_together.Goals as goal

pub returns-clause-together : goal.returns-clause-together
returns-clause-together c = bundles_move_together

pub returns-clause-short : goal.returns-clause-short
returns-clause-short c = bundles_are_short
