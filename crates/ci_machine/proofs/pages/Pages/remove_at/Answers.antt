use Rattle.std.proofs.Common.{arith, ap, refl}
use Rattle.ci_region.specs.BoundedMap.{BoundedMap}
use Rattle.ci_region.proofs.MapLaws.{len-give}
use Rattle.ci_machine.specs.declared.pages.Page.{Page}
use Rattle.ci_machine.specs.Pages.{content, has, page_at, room}
use Rattle.ci_machine.specs.PageTables.{HasTable, entry_at, page_in}
use Rattle.ci_machine.proofs.PageLaws.{entry_read, page_in-take, take_table}
use Rattle.ci_machine.proofs.ByteLaws.{taken_zeros, taken_there}
use Rattle.ci_machine.proofs.pages.Pages.remove_at.Goals as goal

pub invariant_of-self : goal.invariant_of-self
unfolding HasTable
invariant_of-self c =
    let old = c.args.self.now in
    record {
      table_is = rw (c.remove-entry.ensures.items, c.give.ensures.rest, entry_read _ _ _ c.requires c.remove-entry.ensures.value)
          (take_table _ _ old.table_is (entry_at old.table.items c.args.place).number _ (record { below = c.requires; here = refl }));
      reserved = omega (arith, c.remove-entry.ensures.capacity, old.reserved, ap (λ (m : BoundedMap Page). m.capacity) c.give.ensures.rest);
    }

pub returns-clause-content : goal.returns-clause-content
unfolding content page_at HasTable
returns-clause-content c =
    let old = c.args.self.now in
    λ number place k x. taken_zeros (page_at old) (page_in c.remove-entry.new.self.items c.give.new.self.values) number
    (λ n. rw (c.remove-entry.ensures.items, c.give.ensures.rest, entry_read _ _ _ place.below c.remove-entry.ensures.value)
    (page_in-take _ _ old.table_is number _ place n)) x k

pub returns-clause-has : goal.returns-clause-has
unfolding has page_at HasTable
returns-clause-has c =
    let old = c.args.self.now in
    λ number place k x. taken_there (page_at old) (page_in c.remove-entry.new.self.items c.give.new.self.values) number
    (λ n. rw (c.remove-entry.ensures.items, c.give.ensures.rest, entry_read _ _ _ place.below c.remove-entry.ensures.value)
    (page_in-take _ _ old.table_is number _ place n)) x k

pub returns-clause-room : goal.returns-clause-room
unfolding room HasTable
returns-clause-room c =
    let old = c.args.self.now in
    rw (c.give.ensures.rest, entry_read _ _ _ c.requires c.remove-entry.ensures.value)
    (omega (arith, len-give old.frames.values _ (old.table_is.live _ c.requires)))
