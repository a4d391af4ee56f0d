use Rattle.std.specs.FinSet as set
use Rattle.ci_cut.proofs.WalkLaws.{IsSearched}
use Rattle.ci_cut.proofs.convexity.is_convex.Given as goal

abbrev pub invariant-loop-k : goal.invariant-loop-k
invariant-loop-k l = IsSearched l.graph (set.contains l.cut) l.k l.passed
