use Rattle.ci_machine.proofs.PlainMeaning.{plain_exists, plain_and_extended_agree}
use Rattle.ci_machine.proofs.SameRuns.{plain_is_one}
use Rattle.ci_machine.proofs.laws.plain_meaning.Goals as goal

pub returns-clause-exists : goal.returns-clause-exists
returns-clause-exists c = plain_exists

pub returns-clause-one : goal.returns-clause-one
returns-clause-one c = plain_is_one

pub returns-clause-extended : goal.returns-clause-extended
returns-clause-extended c = plain_and_extended_agree
