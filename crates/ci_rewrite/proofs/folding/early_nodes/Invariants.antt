use Rattle.ci_rewrite.proofs.FoldLaws.{AreReaching}
use Rattle.ci_rewrite.proofs.folding.early_nodes.Given as goal

abbrev pub invariant-loop-k : goal.invariant-loop-k
invariant-loop-k l = AreReaching l.graph l.cut l.reaching l.k
