use Rattle.std.proofs.Common.{◌≡◌, map}
use Rattle.std.specs.FinSet as set
use Rattle.ci_word.specs.Numbers.{numbers_below, count_below}
use Rattle.ci_cut.specs.Ports.{is_output}
use Rattle.ci_unit.proofs.cuts.outputs.Given as goal

abbrev pub invariant-loop-k : goal.invariant-loop-k
invariant-loop-k l =
    (l.number ≡ count_below l.k (set.contains l.cut))
    × (l.outputs.items ≡ map (λ k. count_below k (set.contains l.cut)) (numbers_below l.k (is_output l.graph (set.contains l.cut))))
