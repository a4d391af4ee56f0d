use Rattle.std.proofs.Common.{◌≡◌, take}
use Rattle.ci_vemit.specs.Templates.{modules_of}
use Rattle.ci_vemit.proofs.building.modules.Given as goal

abbrev pub invariant-loop-k : goal.invariant-loop-k
invariant-loop-k l = l.modules.items ≡ modules_of (take l.k l.units)
