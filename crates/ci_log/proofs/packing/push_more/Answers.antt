use Rattle.std.proofs.lemmas.Result.{IfOk-weaker}
use Rattle.ci_log.proofs.PackingLaws.{goes_on_then}
use Rattle.ci_log.proofs.packing.push_more.Goals as goal

pub returns-clause-written : goal.returns-clause-written
returns-clause-written c = IfOk-weaker c.push_last.result _ _ (λ k w. goes_on_then _ _ _ _ _ _ _ _ c.in_ok-high.ensures.written w) c.push_last.ensures.written
