use Rattle.std.proofs.Common.{◌<◌}
use Rattle.std.specs.List.{All}
use Rattle.ci_live.proofs.predecessors.Predecessors.of_all.Given as goal

abbrev pub invariant-loop-number : goal.invariant-loop-number
invariant-loop-number l = All (λ from. from < l.self.count) l.pending.items
