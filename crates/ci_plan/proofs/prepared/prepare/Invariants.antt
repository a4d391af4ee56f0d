use Rattle.std.proofs.Common.{◌≡◌, take}
use Rattle.ci_plan.proofs.prepared.prepare.Given as goal

abbrev pub invariant-loop-module : goal.invariant-loop-module
invariant-loop-module l = l.units.items ≡ take l.module-index l.modules
