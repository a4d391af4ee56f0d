use Rattle.std.proofs.Common.{◌≡◌, All}
use Rattle.std.specs.FinSet as set
use Rattle.ci_unit.specs.private.Reading.{inputs_below, IsSmall}
use Rattle.ci_unit.proofs.cuts.inputs_of.Given as goal

abbrev pub invariant-loop-k : goal.invariant-loop-k
invariant-loop-k l = (l.inputs ≡ inputs_below l.graph (set.contains l.cut) l.k) × All IsSmall l.inputs
