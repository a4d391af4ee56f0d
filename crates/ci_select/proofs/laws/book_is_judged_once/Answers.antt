use Rattle.ci_select.proofs.DueLaws.{due_is_one}
use Rattle.ci_select.proofs.NewFileLaws.{new_file_is_one}
use Rattle.ci_select.proofs.PresentIsOne.{present_is_one}
use Rattle.ci_select.proofs.SavingLaws.{savings_are_one}
use Rattle.ci_select.proofs.UnitLaws.{units_are_one}
use Rattle.ci_select.proofs.VerdictLaws.{verdict_is_one}
use Rattle.ci_select.proofs.laws.book_is_judged_once.Goals as goal

pub returns-clause-present : goal.returns-clause-present
returns-clause-present c = present_is_one

pub returns-clause-units : goal.returns-clause-units
returns-clause-units c = units_are_one

pub returns-clause-saved : goal.returns-clause-saved
returns-clause-saved c = savings_are_one

pub returns-clause-due : goal.returns-clause-due
returns-clause-due c = due_is_one

pub returns-clause-file : goal.returns-clause-file
returns-clause-file c = new_file_is_one

pub returns-clause-verdict : goal.returns-clause-verdict
returns-clause-verdict c = verdict_is_one
