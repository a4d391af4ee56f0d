use Rattle.ci_select.proofs.AlikeLaws.{logs_decide_nothing}
use Rattle.ci_select.proofs.OneChoice.{choice_is_one}
use Rattle.ci_select.proofs.laws.choice_is_one.Goals as goal

pub returns-clause-book : goal.returns-clause-book
returns-clause-book c = choice_is_one

pub returns-clause-logs : goal.returns-clause-logs
returns-clause-logs c = logs_decide_nothing
