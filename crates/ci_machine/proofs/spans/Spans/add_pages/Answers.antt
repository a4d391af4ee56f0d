use Rattle.std.proofs.Common.{◌≡◌, ◌+◌, ◌-◌, ◌/◌, ◌<◌, ◌≤◌, ◌∙◌, List, ap, subst, arith, max, length}
use Rattle.ci_machine.specs.declared.spans.Span.{Span}
use Rattle.ci_machine.specs.Pages.{has}
use Rattle.ci_machine.specs.PageTables.{with_pages}
use Rattle.ci_machine.specs.Spans.{HasRising, span_at}
use Rattle.ci_machine.proofs.SpanLaws.{greater_is, IsCovered, all_covered, one_covered, met_more}
use Rattle.ci_machine.proofs.spans.Spans.add_pages.Goals as goal

pub returns-clause-there : goal.returns-clause-there
returns-clause-there c =
    let l = c.loop-span in
    all_covered c.args.self.now.spans.items l.next (has l.pages) l.span-index
    (subst (λ ss. length ss ≤ l.span-index) c.deref-span-items.ensures.value c.loop-span-test.false) l.invariant.covered

pub loop-span-preserved : goal.loop-span-preserved
unfolding HasRising
loop-span-preserved c =
    let l = c.loop-span in
    let spans = c.args.self.now.spans.items in
    let same = c.deref-span-items.ensures.value in
    let below : l.span-index < length spans = subst (λ ss. l.span-index < length ss) same c.loop-span-test.true in
    let end : c.page_end-end.result ≡ ((span_at spans l.span-index).end - 1) / 4096 + 1 =
    c.page_end-end.ensures.value ∙ ap (λ (ss : List Span). ((span_at ss l.span-index).end - 1) / 4096 + 1) same in
    let from : c.max-from.result ≡ max l.next ((span_at spans l.span-index).start / 4096) =
    omega (arith, c.max-from.ensures, greater_is l.next ((span_at c.deref-span-items.result.now l.span-index).start / 4096), ap (λ (ss : List Span). (span_at ss l.span-index).start) same) in
    let next : max l.next (((span_at spans l.span-index).end - 1) / 4096 + 1) ≡ c.max-next.result = omega (arith, c.max-next.ensures, end) in
    record {
      content = c.add_all.ensures.content ∙ l.invariant.content;
      covered = subst (λ n. IsCovered spans (l.span-index + 1) n (has c.add_all.new.self)) next
          (one_covered spans c.args.self.now.rising l.span-index l.next (has l.pages) (has c.add_all.new.self) below l.invariant.covered
          (c.add_all.ensures.has ∙ (λ k. with_pages (has l.pages) (from k) (end k))));
      room = rw (← next) (omega (arith, l.invariant.room, c.add_all.ensures.room, met_more spans l.span-index l.next below, end, from));
    }
