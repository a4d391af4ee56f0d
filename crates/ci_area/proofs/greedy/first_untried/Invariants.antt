use Rattle.std.specs.FinSet as set
use Rattle.ci_area.specs.private.Tried.{IsFirstUntried}
use Rattle.ci_area.proofs.greedy.first_untried.Given as goal

abbrev pub invariant-loop-k : goal.invariant-loop-k
invariant-loop-k l = IsFirstUntried l.pieces (set.contains l.tried) l.k l.first
