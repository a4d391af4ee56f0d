use Rattle.std.proofs.Common.{◌-◌, arith}
use Rattle.ci_machine.proofs.SpanLaws.{span_holds, span_read}
use Rattle.ci_machine.proofs.TestLaws.{lies_in-bounds}
use Rattle.ci_machine.proofs.spans.Spans.around.Goals as goal

pub returns-in-Ok : goal.returns-in-Ok
returns-in-Ok c =
    λ x is. let there = c.in-Ok.ensures.found in
    span_holds c.args.self.now.spans.items c.in-Ok.place x there.0
    (rw (← span_read _ _ c.index.result.now there.0 c.index.ensures) is)

pub returns-in-Err-eq0 : goal.returns-in-Err-eq0
returns-in-Err-eq0 c = λ x is. absurd (omega (arith, (lies_in-bounds 0 0 x is).1))

pub returns-in-Err : goal.returns-in-Err
returns-in-Err c =
    λ x is. span_holds c.args.self.now.spans.items (c.in-Err.next - 1) x (omega (arith, c.in-Err.next-test, c.in-Err.ensures.within))
    (rw (← span_read c.args.self.now.spans.items (c.in-Err.next - 1) c.index-in-Err.result.now (omega (arith, c.in-Err.next-test, c.in-Err.ensures.within)) c.index-in-Err.ensures) is)
