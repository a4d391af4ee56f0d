use Rattle.std.proofs.Common.{◌-◌, length}
use Rattle.std.specs.FinSet as set
use Rattle.ci_area.specs.private.Tried.{IsTriedSoFar}
use Rattle.ci_area.proofs.greedy.greedy.Given as goal

abbrev pub invariant-loop-next : goal.invariant-loop-next
invariant-loop-next l = IsTriedSoFar l.pieces l.limit l.so_far

abbrev pub decreases-loop-next : goal.decreases-loop-next
decreases-loop-next l = length l.pieces - set.len l.so_far.tried
