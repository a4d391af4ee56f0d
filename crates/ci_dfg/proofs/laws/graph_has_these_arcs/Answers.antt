use Rattle.ci_dfg.proofs.ArcLaws.{graph_has_these_arcs}
use Rattle.ci_dfg.proofs.laws.graph_has_these_arcs.Goals as goal

pub returns : goal.returns
returns c = graph_has_these_arcs
