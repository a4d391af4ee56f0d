use Rattle.std.proofs.Common.{◌≡◌, ◌≤◌, ◌+◌, drop}
use Rattle.ci_machine.specs.Spans.{pages_met}
use Rattle.ci_machine.proofs.spans.Spans.page_count.Given as goal

abbrev pub invariant-loop-span : goal.invariant-loop-span
invariant-loop-span l = record {
  counted : l.count + pages_met (drop l.span-index l.self.spans.items) l.next ≡ pages_met l.self.spans.items 0;
  below : l.count ≤ l.next;
  bounded : l.next ≤ 1048576;
}
