use Rattle.std.specs.FinSet as set
use Rattle.ci_cut.proofs.LongestChains.{AreDelaysBelow}
use Rattle.ci_cut.proofs.timing.critical_path_delay.Given as goal

abbrev pub invariant-loop-k : goal.invariant-loop-k
invariant-loop-k l = AreDelaysBelow l.graph (set.contains l.cut) l.k l.delays l.longest
