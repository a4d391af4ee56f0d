use Rattle.std.proofs.Common.{◌≡◌, slice_get}
use Rattle.std.specs.FinSet as set
use Rattle.ci_unit.specs.private.Reading.{outputs_below}
use Rattle.ci_unit.proofs.uses.three_outputs.Given as goal

abbrev pub invariant-loop-k : goal.invariant-loop-k
invariant-loop-k l =
    (l.first ≡ slice_get (outputs_below l.graph (set.contains l.cut) l.k) 0)
    × (l.second ≡ slice_get (outputs_below l.graph (set.contains l.cut) l.k) 1)
    × (l.third ≡ slice_get (outputs_below l.graph (set.contains l.cut) l.k) 2)
