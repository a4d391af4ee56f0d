use Rattle.std.proofs.lemmas.Result.{IfOk-weaker}
use Rattle.ci_log.proofs.PackingLaws.{goes_on_then, half_written, no_more_written}
use Rattle.ci_log.proofs.packing.push_next.Goals as goal

pub returns-then-more-eq0-clause-written : goal.returns-then-more-eq0-clause-written
returns-then-more-eq0-clause-written c =
    IfOk-weaker c.push_half.result _ _
    (λ k w. no_more_written _ _ _ _ c.args.more _ _ c.if-more-eq0.true c.half_byte.ensures w)
    c.push_half.ensures.written

pub returns-clause-written : goal.returns-clause-written
returns-clause-written c =
    IfOk-weaker c.push_half-2.result _ _
    (λ k w. goes_on_then _ _ _ _ _ _ _ _ c.in_ok-high.ensures.written (half_written _ _ _ _ _ _ c.half_byte-2.ensures w))
    c.push_half-2.ensures.written
