use Rattle.std.proofs.Common.{◌∙◌}
use Rattle.ci_machine.specs.Pages.{has}
use Rattle.ci_machine.proofs.ByteLaws.{pages_up_to}
use Rattle.ci_machine.proofs.pages.Pages.add_all.Goals as goal

pub returns-clause-has : goal.returns-clause-has
returns-clause-has c =
    let l = c.loop-number in
    l.invariant.has ∙ (λ k n. pages_up_to (has c.args.self.now) c.args.from l.number c.args.to n l.invariant.from_on l.invariant.up_to c.loop-number-test.false k)
