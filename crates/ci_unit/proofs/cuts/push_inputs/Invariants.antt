use Rattle.std.proofs.Common.{◌≡◌, All, take}
use Rattle.std.specs.FinSet as set
use Rattle.ci_unit.specs.private.Reading.{with_inputs, IsSmall}
use Rattle.ci_unit.proofs.cuts.push_inputs.Given as goal

abbrev pub invariant-loop-source : goal.invariant-loop-source
invariant-loop-source l =
    (l.inputs ≡ with_inputs (set.contains l.cut) l.fn.inputs (take l.source-index l.sources))
    × (All IsSmall l.fn.inputs → All IsSmall l.inputs)
