use Rattle.ci_machine.proofs.JoinLaws.{counts_join, counts_stay}
use Rattle.ci_machine.proofs.laws.counts_join.Goals as goal

pub returns-clause-joined : goal.returns-clause-joined
returns-clause-joined c = counts_join

pub returns-clause-over : goal.returns-clause-over
returns-clause-over c = counts_stay
