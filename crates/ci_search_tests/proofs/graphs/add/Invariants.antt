use Rattle.std.proofs.Common.{ℕ, ◌<◌, IsTrue}
use Rattle.std.specs.List.{list_any}
use Rattle.std.specs.FinSet as set
use Rattle.ci_cut.specs.declared.graph.Source.TheVariants.{Made}
use Rattle.ci_cut.specs.FlowGraph.{is_source}
use Rattle.ci_search_tests.proofs.graphs.add.Given as goal

abbrev pub invariant-loop-source : goal.invariant-loop-source
invariant-loop-source g l = record {
  arcs : (j : ℕ) → IsTrue (set.contains l.before j) → j < l.count;
  made : (j : ℕ) → IsTrue (list_any (is_source (Made j)) l.sources) → j < l.count;
}
