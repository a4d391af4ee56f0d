use Rattle.std.proofs.Common.{◌+◌, ◌-◌, ◌%◌, ◌/◌, ◌∙◌, arith}
use Rattle.ci_machine.specs.Pages.{content, page_at}
use Rattle.ci_machine.proofs.ByteLaws.{run_is, on_page, between_is}
use Rattle.ci_machine.proofs.pages.Pages.run.Goals as goal

pub returns : goal.returns
unfolding content
returns c =
    between_is c.page_there-page.result.now.bytes (c.args.address % 4096) (c.args.address % 4096 + c.args.count - c.args.address % 4096) c.args.count (omega arith) (omega (arith, c.requires.inside))
    ∙ run_is (content c.args.self.now) _ c.args.count c.args.address (c.args.address % 4096)
    (λ k lt. on_page (page_at c.args.self.now) c.page_there-page.result.now c.args.address k (c.page_there-page.ensures (c.args.address / 4096) c.requires.there) (omega (arith, c.requires.inside)))
