use Rattle.ci_machine.proofs.PageLaws.{has_not}
use Rattle.ci_machine.proofs.pages.Pages.find.Goals as goal

pub returns-in-Err-clause-none : goal.returns-in-Err-clause-none
returns-in-Err-clause-none c = λ none. has_not c.args.self.now c.args.number _ c.in-Err.ensures.absent
