use Rattle.ci_machine.proofs.EndLaws.{no_end_before, ends_at}
use Rattle.ci_machine.proofs.RunLaws as laws
use Rattle.ci_machine.proofs.laws.runs_join.Goals as goal

pub returns-clause-join : goal.returns-clause-join
returns-clause-join c = laws.runs_join

pub returns-clause-stay : goal.returns-clause-stay
returns-clause-stay c = laws.ends_stay

pub returns-clause-place : goal.returns-clause-place
returns-clause-place c = ends_at

pub returns-clause-before : goal.returns-clause-before
returns-clause-before c = no_end_before
