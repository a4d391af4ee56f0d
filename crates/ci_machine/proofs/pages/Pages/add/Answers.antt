use Rattle.ci_machine.specs.Pages.{has}
use Rattle.ci_machine.proofs.PageLaws.{has_there}
use Rattle.ci_machine.proofs.ByteLaws.{pages_there}
use Rattle.ci_machine.proofs.pages.Pages.add.Goals as goal

pub returns-in-Ok-clause-has : goal.returns-in-Ok-clause-has
returns-in-Ok-clause-has c =
    let old = c.args.self.now in
    λ k n. pages_there (has old) c.args.number (has_there old c.args.number _ c.in-Ok.ensures.found) n k
