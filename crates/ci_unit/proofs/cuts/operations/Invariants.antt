use Rattle.std.proofs.Common.{◌≡◌, All, map}
use Rattle.std.specs.FinSet as set
use Rattle.ci_word.specs.Numbers.{numbers_below}
use Rattle.ci_unit.specs.private.Reading.{HasWords}
use Rattle.ci_unit.specs.Units.{op_of}
use Rattle.ci_unit.proofs.cuts.operations.Given as goal

abbrev pub invariant-loop-k : goal.invariant-loop-k
invariant-loop-k l =
    All HasWords l.ops.items
    × (l.ops.items ≡ map (op_of l.insns l.graph (set.contains l.cut) l.inputs) (numbers_below l.k (set.contains l.cut)))
