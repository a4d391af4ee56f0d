use Rattle.std.proofs.Common.{replicate}
use Rattle.ci_log.specs.private.Packing.{IsHalf, GoesOn}
use Rattle.ci_log.proofs.packing.push_tens.Given as goal

abbrev pub invariant-loop : goal.invariant-loop
invariant-loop l = IsHalf l.high × GoesOn l.initial.text.items l.fn.high (replicate l.counter 15) l.text.items l.high
