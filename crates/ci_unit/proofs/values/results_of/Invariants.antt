use Rattle.std.proofs.Common.{◌≡◌, length}
use Rattle.ci_unit.proofs.ValueLaws.{AreResults}
use Rattle.ci_unit.proofs.values.results_of.Given as goal

abbrev pub invariant-loop-k : goal.invariant-loop-k
invariant-loop-k l = (length l.results ≡ 256) × AreResults l.unit l.inputs l.results l.k
