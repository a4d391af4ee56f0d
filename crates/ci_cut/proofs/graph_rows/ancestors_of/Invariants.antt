use Rattle.std.specs.FinSet as set
use Rattle.ci_cut.proofs.WholeRows.{LeadsTo}
use Rattle.ci_cut.proofs.graph_rows.ancestors_of.Given as goal

abbrev pub invariant-loop-last : goal.invariant-loop-last
invariant-loop-last l = LeadsTo l.graph l.node l.row l.rest

abbrev pub decreases-loop-last : goal.decreases-loop-last
decreases-loop-last l = set.len l.rest
