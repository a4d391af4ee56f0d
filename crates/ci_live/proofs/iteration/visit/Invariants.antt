use Rattle.std.proofs.Common.{take}
use Rattle.ci_live.specs.private.Found.{AreVisits}
use Rattle.ci_live.proofs.iteration.visit.Given as goal

abbrev pub invariant-loop-number : goal.invariant-loop-number
invariant-loop-number l = AreVisits l.flows l.fn.found l.found (take l.number-index l.order) l.changed.items
