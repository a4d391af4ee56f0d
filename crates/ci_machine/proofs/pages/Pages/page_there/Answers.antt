use Rattle.std.proofs.Common.{ap, sym, ◌∙◌}
use Rattle.std.specs.FinMap as map
use Rattle.ci_machine.specs.declared.pages.Entry.{Entry}
use Rattle.ci_machine.specs.Pages.{page_at}
use Rattle.ci_machine.specs.PageTables.{HasTable}
use Rattle.ci_machine.proofs.PageLaws.{entry_read, page_in_place}
use Rattle.ci_machine.proofs.pages.Pages.page_there.Goals as goal

pub returns : goal.returns
unfolding page_at HasTable
returns c =
    λ number place. page_in_place _ _ c.args.self.now.table_is number _ place
    ∙ sym (ap (λ (e : Entry). map.get c.args.self.now.frames.values e.slot) (entry_read _ _ _ place.below c.index.ensures))
    ∙ c.get.ensures
