use Rattle.ci_machine.proofs.OpeningLaws.{opening_text}
use Rattle.ci_machine.proofs.TextLaws.{text_stays_for}
use Rattle.ci_machine.proofs.laws.text_stays.Goals as goal

pub returns-clause-runs : goal.returns-clause-runs
returns-clause-runs c = text_stays_for

pub returns-clause-opening : goal.returns-clause-opening
returns-clause-opening c = λ file input formed. opening_text file formed input
