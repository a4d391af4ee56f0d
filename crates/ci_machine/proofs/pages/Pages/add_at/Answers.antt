use Rattle.std.proofs.Common.{arith, ap, refl}
use Rattle.ci_region.specs.BoundedMap.{BoundedMap}
use Rattle.ci_region.proofs.MapLaws.{len-take}
use Rattle.ci_machine.specs.declared.pages.Page.{Page}
use Rattle.ci_machine.specs.Pages.{content, has, page_at, room}
use Rattle.ci_machine.specs.PageTables.{HasTable, page_in}
use Rattle.ci_machine.proofs.PageLaws.{add_table, page_in-add, page_in_gap}
use Rattle.ci_machine.proofs.ByteLaws.{added_zeros, added_there}
use Rattle.ci_machine.proofs.pages.Pages.add_at.Goals as goal

pub invariant_of-self : goal.invariant_of-self
unfolding HasTable
invariant_of-self c =
    let old = c.args.self.now in
    record {
      table_is = rw (c.insert_reserved.ensures.items, c.in-Ok.ensures.holds)
          (add_table old.table.items old.frames.values old.table_is c.args.number c.args.place c.in-Ok.slot c.zeros.result c.requires.gap c.in-Ok.ensures.was_free);
      reserved = omega (arith, c.insert_reserved.ensures.capacity, old.reserved, ap (λ (m : BoundedMap Page). m.capacity) c.in-Ok.ensures.holds);
    }

pub unreachable-requires : goal.unreachable-requires
unfolding room
unreachable-requires c = omega (arith, c.requires.room, c.in-Err.ensures.full.0 refl)

pub returns-clause-content : goal.returns-clause-content
unfolding content page_at HasTable
returns-clause-content c =
    let old = c.args.self.now in
    λ k x. added_zeros (page_at old) (λ n. page_in c.insert_reserved.new.table.items c.take.new.self.values n) c.args.number c.zeros.result
    (page_in_gap old.table.items old.frames.values old.table_is c.args.number c.args.place c.requires.gap)
    (λ n. rw (c.insert_reserved.ensures.items, c.in-Ok.ensures.holds)
    (page_in-add old.table.items old.frames.values old.table_is c.args.number c.args.place c.in-Ok.slot c.zeros.result c.requires.gap c.in-Ok.ensures.was_free n))
    c.zeros.ensures x k

pub returns-clause-has : goal.returns-clause-has
unfolding has page_at HasTable
returns-clause-has c =
    let old = c.args.self.now in
    λ k x. added_there (page_at old) (λ n. page_in c.insert_reserved.new.table.items c.take.new.self.values n) c.args.number c.zeros.result
    (page_in_gap old.table.items old.frames.values old.table_is c.args.number c.args.place c.requires.gap)
    (λ n. rw (c.insert_reserved.ensures.items, c.in-Ok.ensures.holds)
    (page_in-add old.table.items old.frames.values old.table_is c.args.number c.args.place c.in-Ok.slot c.zeros.result c.requires.gap c.in-Ok.ensures.was_free n)) x k

pub returns-clause-room : goal.returns-clause-room
unfolding room
returns-clause-room c =
    rw c.in-Ok.ensures.holds (omega (arith, c.requires.room, len-take c.args.self.now.frames.values c.in-Ok.slot c.zeros.result c.in-Ok.ensures.was_free))
