use Rattle.ci_cut.specs.GraphRules.{IsFlowGraph}
use Rattle.ci_search_tests.proofs.search.generated.Given as goal

abbrev pub invariant-loop-k : goal.invariant-loop-k
invariant-loop-k g l = IsFlowGraph (record { nodes = l.nodes.items; read = 1; pad = 0 })
