use Rattle.std.proofs.Common.{◌≡◌, ◌++◌, replicate}
use Rattle.ci_log.proofs.packed.push_step.Given as goal

abbrev pub invariant-loop : goal.invariant-loop
invariant-loop l = l.items.items ≡ l.initial.items.items ++ replicate l.counter l.step.item
