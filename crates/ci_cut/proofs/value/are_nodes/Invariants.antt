use Rattle.std.proofs.Common.{◌≡◌, ℕ, ◌<◌, ◌≤◌, false, length}
use Rattle.std.specs.FinSet as set
use Rattle.ci_cut.proofs.value.are_nodes.Given as goal

abbrev pub invariant-loop-k : goal.invariant-loop-k
invariant-loop-k l = (j : ℕ) → length l.graph.nodes ≤ j → j < l.k → set.contains l.cut j ≡ false
