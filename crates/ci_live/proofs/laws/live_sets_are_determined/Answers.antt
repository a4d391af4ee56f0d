use Rattle.ci_live.proofs.OneAnalysis.{analysis_is_one, live_sets_are_one}
use Rattle.ci_live.proofs.laws.live_sets_are_determined.Goals as goal

pub returns-clause-blocks : goal.returns-clause-blocks
returns-clause-blocks c = live_sets_are_one

pub returns-clause-file : goal.returns-clause-file
returns-clause-file c = analysis_is_one
