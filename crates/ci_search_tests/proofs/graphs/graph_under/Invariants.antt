use Rattle.ci_cut.specs.GraphRules.{IsFlowGraph}
use Rattle.ci_search_tests.proofs.graphs.graph_under.Given as goal

abbrev pub invariant-loop-part : goal.invariant-loop-part
invariant-loop-part g l = IsFlowGraph (record { nodes = l.nodes.items; read = l.charges.read; pad = l.charges.pad })
