use Rattle.std.proofs.Common.{◌≡◌, length}
use Rattle.ci_verilog.proofs.EvaluationLaws.{AreValued}
use Rattle.ci_verilog.proofs.evaluation.evaluate.Given as goal

abbrev pub invariant-loop-k : goal.invariant-loop-k
invariant-loop-k l =
    record { room : length l.values ≡ 2048; valued : AreValued l.fn.module l.arguments l.values l.k }
