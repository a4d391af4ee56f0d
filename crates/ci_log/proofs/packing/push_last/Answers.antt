use Rattle.std.proofs.Common.{arith}
use Rattle.std.proofs.lemmas.Result.{IfOk-weaker}
use Rattle.ci_log.proofs.PackingLaws.{no_leaves, leaves_written}
use Rattle.ci_log.proofs.packing.push_last.Goals as goal

pub returns-then-leaves-eq0-clause-written : goal.returns-then-leaves-eq0-clause-written
returns-then-leaves-eq0-clause-written c = no_leaves _ _ c.args.leaves c.if-leaves-eq0.true

pub returns-clause-written : goal.returns-clause-written
returns-clause-written c = IfOk-weaker c.push_half.result _ _ (λ k w. leaves_written _ _ _ _ c.args.leaves (let e = c.if-leaves-eq0.false in omega (arith, e)) w) c.push_half.ensures.written
