use Rattle.ci_rewrite.proofs.EndSteps.{passed_blocks_end_alike}
use Rattle.ci_rewrite.proofs.Steps.{folding_keeps_steps}
use Rattle.ci_rewrite.proofs.laws.folding_keeps_steps.Goals as goal

pub returns-clause-actions : goal.returns-clause-actions
returns-clause-actions c = folding_keeps_steps

pub returns-clause-end : goal.returns-clause-end
returns-clause-end c = passed_blocks_end_alike
