use Rattle.std.proofs.Common.{◌≡◌, ◌%◌, ◌^◌}
use Rattle.ci_plan.specs.private.Factors.{factor}
use Rattle.ci_plan.proofs.founds.factor.Given as goal

abbrev pub invariant-loop-k : goal.invariant-loop-k
invariant-loop-k l = l.sum ≡ factor l.k l.width % 2 ^ 64
