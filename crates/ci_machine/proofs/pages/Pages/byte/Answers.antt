use Rattle.std.proofs.Common.{◌/◌, ◌%◌, ap, refl, sym}
use Rattle.ci_machine.specs.Pages.{content}
use Rattle.ci_machine.specs.PageTables.{byte_on}
use Rattle.ci_machine.proofs.PageLaws.{content_none}
use Rattle.ci_machine.proofs.pages.Pages.byte.Goals as goal

pub returns-in-Some : goal.returns-in-Some
unfolding content
returns-in-Some c =
    sym (ap (λ o. byte_on o (c.args.address % 4096)) (c.page_there.ensures (c.args.address / 4096) c.in-Some.ensures.some))

pub returns-in-None : goal.returns-in-None
returns-in-None c = sym (content_none c.args.self.now c.args.address (c.in-None.ensures.none refl))
