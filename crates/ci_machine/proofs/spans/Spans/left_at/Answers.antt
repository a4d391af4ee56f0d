use Rattle.std.proofs.Common.{◌+◌, ◌<◌, length, arith}
use Rattle.ci_machine.proofs.TestLaws.{bounds-lies_in}
use Rattle.ci_machine.proofs.SpanLaws.{span_holds, span_read}
use Rattle.ci_machine.proofs.spans.Spans.left_at.Goals as goal

pub returns-then-address-span-clause-inside : goal.returns-then-address-span-clause-inside
returns-then-address-span-clause-inside c =
    λ k lt.
    let span = c.index-span.result.now in
    let below : c.args.place < length c.args.self.now.spans.items = omega (arith, c.len.ensures) in
    span_holds c.args.self.now.spans.items c.args.place (c.args.address + k) below
    (rw (← span_read _ _ span below c.index-span.ensures) (bounds-lies_in span.start span.end (c.args.address + k) (omega arith) (omega arith)))
