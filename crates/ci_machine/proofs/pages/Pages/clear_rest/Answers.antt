use Rattle.std.proofs.Common.{◌*◌, ◌/◌, ◌∙◌, ap, refl, arith}
use Rattle.ci_machine.specs.Pages.{content, has}
use Rattle.ci_machine.specs.PageTables.{pages_to}
use Rattle.ci_machine.proofs.ByteLaws.{zeros_already}
use Rattle.ci_machine.proofs.PageLaws.{content_none}
use Rattle.ci_machine.proofs.TestLaws.{lies_in-bounds}
use Rattle.ci_machine.proofs.pages.Pages.clear_rest.Goals as goal

pub returns-in_default-clause-content : goal.returns-in_default-clause-content
returns-in_default-clause-content c =
    let old = c.args.self.now in
    λ k x. zeros_already (content old) c.args.address (pages_to c.args.address * 4096) x
    (λ is. let bounds = lies_in-bounds c.args.address (pages_to c.args.address * 4096) x is in
    content_none old x (ap (has old) {x = x / 4096} {y = c.args.address / 4096} (omega (arith, bounds.0, bounds.1)) ∙ c.in_default.ensures.none refl)) k
