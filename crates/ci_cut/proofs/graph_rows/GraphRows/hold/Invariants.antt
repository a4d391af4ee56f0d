use Rattle.std.proofs.Common.{◌≡◌, ℕ, ◌<◌, ◌↔◌, length, IsTrue}
use Rattle.std.specs.FinSet as set
use Rattle.ci_cut.specs.declared.graph.Source.TheVariants.{Made}
use Rattle.ci_cut.specs.FlowGraph.{node_at, reads}
use Rattle.ci_cut.specs.Walks.{Walk}
use Rattle.ci_cut.specs.Representation.{row_at}
use Rattle.ci_cut.proofs.FilledRows.{AreFilled}
use Rattle.ci_cut.proofs.graph_rows.GraphRows.hold.Given as goal

abbrev pub invariant-loop-k : goal.invariant-loop-k
invariant-loop-k l = record {
  size : length l.self.ancestors ≡ 256;
  successors : AreFilled (λ j m. set.contains (node_at l.graph m).before j) (length l.graph.nodes) l.self.successors l.k;
  ancestors : (j k : ℕ) → k < l.k → IsTrue (set.contains (row_at l.self.ancestors k) j) ↔ Walk l.graph j k;
  readers : AreFilled (λ j m. reads l.graph m (Made j)) (length l.graph.nodes) l.self.readers l.k;
}
