use Rattle.std.proofs.Common.{arith}
use Rattle.ci_cut.proofs.GraphLaws.{flow_graph_none}
use Rattle.ci_search_tests.proofs.search.chain_of.Goals as goal

pub loop-k-init : goal.loop-k-init
loop-k-init g c = rw c.new-nodes.ensures.items (flow_graph_none 1 0 (omega arith))
