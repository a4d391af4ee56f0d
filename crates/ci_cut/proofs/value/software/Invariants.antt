use Rattle.std.proofs.Common.{◌≡◌, ◌*◌, ◌≤◌}
use Rattle.std.specs.FinSet as set
use Rattle.ci_word.specs.Numbers.{sum_below}
use Rattle.ci_cut.specs.FlowGraph.{node_in}
use Rattle.ci_cut.proofs.value.software.Given as goal

abbrev pub invariant-loop-k : goal.invariant-loop-k
invariant-loop-k l =
    (l.sum ≡ sum_below l.k (set.contains l.cut) (λ k. (node_in l.nodes k).latency)) × (l.sum ≤ 1000 * l.k)
