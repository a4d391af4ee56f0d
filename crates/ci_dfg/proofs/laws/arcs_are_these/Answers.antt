use Rattle.ci_dfg.proofs.ArcLaws.{arcs_are_these}
use Rattle.ci_dfg.proofs.laws.arcs_are_these.Goals as goal

pub returns : goal.returns
returns c = arcs_are_these
