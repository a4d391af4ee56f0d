use Rattle.std.proofs.Common.{◌≡◌, ◌≤◌, ◌+◌, ◌-◌, max}
use Rattle.ci_machine.specs.Pages.{content, has, room}
use Rattle.ci_machine.specs.PageTables.{with_pages}
use Rattle.ci_machine.proofs.pages.Pages.add_all.Given as goal

abbrev pub invariant-loop-number : goal.invariant-loop-number
invariant-loop-number l = record {
  from_on : l.from ≤ l.number;
  up_to : l.number ≤ max l.from l.to;
  content : content l.self ≡ content l.initial.self;
  has : has l.self ≡ with_pages (has l.initial.self) l.from l.number;
  room : room l.initial.self ≤ room l.self + (l.number - l.from);
}
