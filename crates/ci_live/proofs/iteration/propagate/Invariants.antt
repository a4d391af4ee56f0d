use Rattle.std.proofs.Common.{◌+◌, ◌≤◌, length, min}
use Rattle.ci_live.specs.private.Found.{IsSound, room}
use Rattle.ci_live.proofs.iteration.propagate.Given as goal

abbrev pub invariant-loop-alloc : goal.invariant-loop-alloc
invariant-loop-alloc l = record {
  sound : IsSound l.flows l.found;
  less : room l.found ≤ room l.fn.found;
}

-- a round that finds nothing is the last one
abbrev pub decreases-loop-alloc : goal.decreases-loop-alloc
decreases-loop-alloc l = room l.found + min 1 (length l.changed.items)
