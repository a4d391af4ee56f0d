use Rattle.std.proofs.Common.{ℕ, ◌<◌, IsTrue}
use Rattle.std.specs.FinSet as set
use Rattle.ci_cut.specs.FlowGraph.{node_at}
use Rattle.ci_cut.proofs.value.are_eligible.Given as goal

abbrev pub invariant-loop-k : goal.invariant-loop-k
invariant-loop-k l = (k : ℕ) → k < l.k → IsTrue (set.contains l.cut k) → IsTrue (node_at l.graph k).eligible
