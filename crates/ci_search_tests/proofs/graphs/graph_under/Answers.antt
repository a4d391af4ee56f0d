use Rattle.std.proofs.Common.{arith}
use Rattle.ci_cut.proofs.GraphLaws.{flow_graph_none}
use Rattle.ci_search_tests.proofs.graphs.graph_under.Goals as goal

pub loop-part-init : goal.loop-part-init
loop-part-init g c = rw c.new-nodes.ensures.items (flow_graph_none c.args.charges.read c.args.charges.pad (omega arith))
