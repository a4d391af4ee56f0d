use Rattle.std.proofs.Common.{List, Bool, true, false, cond, sym, subst, is_ok}
use Rattle.std.specs.List.{insert}
use Rattle.ci_machine.specs.declared.spans.Span.{Span}
use Rattle.ci_machine.specs.Spans.{HasRising, AreRising}
use Rattle.ci_machine.proofs.SpanLaws.{begins_apart, still_rising, one_more}
use Rattle.ci_machine.proofs.spans.Spans.insert.Goals as goal

pub unreachable-requires : goal.unreachable-requires
unfolding HasRising
unreachable-requires c =
    let there = c.in-Ok.ensures.found in
    begins_apart c.args.self.now.spans.items c.args.self.now.rising c.args.span c.requires.filled c.requires.apart _ there.0 there.1

either : (b : Bool) (new old : List Span) → AreRising new → AreRising old → AreRising (cond b new old)
either true new old p q = p
either false new old p q = q

pub invariant_of-self : goal.invariant_of-self
unfolding HasRising
invariant_of-self c =
    let old = c.args.self.now in
    let gap = c.in-Err.ensures in
    record {
      rising = subst AreRising (sym c.insert.ensures.items)
          (either (is_ok c.insert.result) (insert old.spans.items c.in-Err.place c.args.span) old.spans.items
          (still_rising old.spans.items old.rising c.args.span c.requires.filled c.requires.apart c.in-Err.place gap.within gap.smaller gap.greater)
          old.rising);
    }

pub returns : goal.returns
unfolding HasRising
returns c =
    let old = c.args.self.now in
    let gap = c.in-Err.ensures in
    λ address. rw c.in_ok-insert-in-Err.ensures.items
    (one_more old.spans.items old.rising c.args.span c.requires.filled c.requires.apart c.in-Err.place gap.within gap.smaller gap.greater address)
