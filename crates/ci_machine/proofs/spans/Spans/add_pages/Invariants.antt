use Rattle.std.proofs.Common.{◌≡◌, ◌≤◌, ◌+◌, drop}
use Rattle.ci_machine.specs.Pages.{content, has, room}
use Rattle.ci_machine.specs.Spans.{pages_met}
use Rattle.ci_machine.proofs.SpanLaws.{IsCovered}
use Rattle.ci_machine.proofs.spans.Spans.add_pages.Given as goal

abbrev pub invariant-loop-span : goal.invariant-loop-span
invariant-loop-span l = record {
  content : content l.pages ≡ content l.initial.pages;
  covered : IsCovered l.self.spans.items l.span-index l.next (has l.pages);
  room : room l.initial.pages + pages_met (drop l.span-index l.self.spans.items) l.next
      ≤ room l.pages + pages_met l.self.spans.items 0;
}
