use Rattle.ci_cut.specs.GraphRules.{AreNodes}
use Rattle.ci_folds.proofs.lines.nodes_of.Given as goal

abbrev pub invariant-loop-digits : goal.invariant-loop-digits
invariant-loop-digits l = AreNodes l.graph l.nodes
