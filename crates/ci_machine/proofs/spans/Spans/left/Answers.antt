use Rattle.std.proofs.Common.{arith}
use Rattle.ci_machine.specs.Spans.{HasRising}
use Rattle.ci_machine.proofs.SpanLaws.{after_all, between}
use Rattle.ci_machine.proofs.spans.Spans.left.Goals as goal

pub returns-in-Err-eq0-clause-none : goal.returns-in-Err-eq0-clause-none
unfolding HasRising
returns-in-Err-eq0-clause-none c =
    λ _. after_all c.args.self.now.spans.items c.args.self.now.rising c.args.address
    (λ i lt. c.in-Err-eq0.ensures.greater i (omega (arith, c.in-Err-eq0.field-0-test, c.in-Err-eq0.field-0-is)) lt)

pub returns-in-Err-clause-none : goal.returns-in-Err-clause-none
unfolding HasRising
returns-in-Err-clause-none c =
    λ none. between c.args.self.now.spans.items c.args.self.now.rising c.args.address c.in-Err.next
    (omega (arith, c.in-Err.next-test)) c.in-Err.ensures.within c.in-Err.ensures.smaller c.in-Err.ensures.greater
    (c.left_at-in-Err.ensures.none none (omega (arith, c.in-Err.next-test, c.in-Err.ensures.within)))
