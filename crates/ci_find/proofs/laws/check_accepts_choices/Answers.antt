-- The laws of `check`.
use Rattle.ci_find.proofs.CheckAccepts.{check_accepts}
use Rattle.ci_find.proofs.ChecksEnd.{checks_end}
use Rattle.ci_find.proofs.laws.check_accepts_choices.Goals as goal

pub returns-clause-refusals : goal.returns-clause-refusals
returns-clause-refusals c = check_accepts

pub returns-clause-calls : goal.returns-clause-calls
returns-clause-calls c = checks_end
