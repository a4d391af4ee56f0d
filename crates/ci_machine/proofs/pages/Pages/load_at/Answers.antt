use Rattle.std.proofs.Common.{◌/◌, ◌%◌, ap, ◌∙◌, arith}
use Rattle.ci_isa.specs.Effects.{width_bytes}
use Rattle.ci_machine.specs.Accesses.{number_of_bytes}
use Rattle.ci_machine.specs.Pages.{content, page_at}
use Rattle.ci_machine.proofs.ByteLaws.{run_is, on_page}
use Rattle.ci_machine.proofs.pages.Pages.load_at.Goals as goal

pub returns : goal.returns
unfolding content
returns c =
    c.number_at.ensures
    ∙ ap number_of_bytes
    (run_is (content c.args.self.now) _ (width_bytes c.args.width) c.args.address (c.args.address % 4096)
    (λ k lt. on_page (page_at c.args.self.now) c.page_there-page.result.now c.args.address k (c.page_there-page.ensures (c.args.address / 4096) c.requires.there) (omega (arith, c.requires.inside))))
