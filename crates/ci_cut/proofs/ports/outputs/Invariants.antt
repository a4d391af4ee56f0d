use Rattle.std.proofs.Common.{◌≡◌}
use Rattle.std.specs.FinSet as set
use Rattle.ci_word.specs.Numbers.{count_below}
use Rattle.ci_cut.specs.Ports.{is_output}
use Rattle.ci_cut.proofs.ports.outputs.Given as goal

abbrev pub invariant-loop-k : goal.invariant-loop-k
invariant-loop-k l = l.count ≡ count_below l.k (is_output l.graph (set.contains l.cut))
