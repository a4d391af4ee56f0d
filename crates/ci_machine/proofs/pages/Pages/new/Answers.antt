use Rattle.std.proofs.Common.{arith, ap, refl}
use Rattle.std.specs.Ordering.{nat_cmp}
use Rattle.std.specs.FinMap.{len-empty}
use Rattle.ci_region.specs.BoundedMap.{BoundedMap}
use Rattle.ci_machine.specs.declared.pages.Page.{Page}
use Rattle.ci_machine.specs.Pages.{content, page_at, room}
use Rattle.ci_machine.specs.PageTables.{HasTable, page_in}
use Rattle.ci_machine.proofs.PageLaws.{no_table}
use Rattle.ci_machine.proofs.pages.Pages.new.Goals as goal

pub invariant_of-result : goal.invariant_of-result
unfolding HasTable
invariant_of-result c = record {
  table_is = rw (c.in_ok-table.ensures.items, c.in_ok-frames.ensures) no_table;
  reserved = omega (arith, c.in_ok-table.ensures.exact, ap (λ (m : BoundedMap Page). m.capacity) c.in_ok-frames.ensures);
}

pub returns-clause-content : goal.returns-clause-content
unfolding content page_at page_in
returns-clause-content c = λ address. rw c.in_ok-table.ensures.items refl

pub returns-clause-room : goal.returns-clause-room
unfolding room
returns-clause-room c = rw c.in_ok-frames.ensures (omega (arith, len-empty nat_cmp Page))
