use Rattle.std.proofs.Common.{◌≡◌, take}
use Rattle.ci_vemit.specs.Templates.{wires_from}
use Rattle.ci_vemit.proofs.building.wires_of.Given as goal

abbrev pub invariant-loop-n : goal.invariant-loop-n
invariant-loop-n l = l.wires.items ≡ wires_from 0 (take l.n l.unit.ops)
