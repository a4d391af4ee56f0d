use Rattle.std.proofs.Common.{◌≡◌, ◌≤◌, ◌-◌, length, take}
use Rattle.ci_machine.specs.Pages.{content, has, room}
use Rattle.ci_machine.specs.PageTables.{written}
use Rattle.ci_machine.proofs.pages.Pages.write_all.Given as goal

abbrev pub invariant-loop-done : goal.invariant-loop-done
invariant-loop-done l = record {
  within : l.done ≤ length l.bytes;
  content : content l.self ≡ written (content l.initial.self) l.address (take l.done l.bytes);
  has : has l.self ≡ has l.initial.self;
  room : room l.self ≡ room l.initial.self;
  table : l.self.table.items ≡ l.initial.self.table.items;
}

abbrev pub decreases-loop-done : goal.decreases-loop-done
decreases-loop-done l = length l.bytes - l.done
