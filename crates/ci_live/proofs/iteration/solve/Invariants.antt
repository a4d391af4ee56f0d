use Rattle.ci_live.specs.private.Found.{IsSound, room}
use Rattle.ci_live.proofs.iteration.solve.Given as goal

abbrev pub invariant-loop-found : goal.invariant-loop-found
invariant-loop-found l = IsSound l.flows l.found

abbrev pub decreases-loop-found : goal.decreases-loop-found
decreases-loop-found l = room l.found
