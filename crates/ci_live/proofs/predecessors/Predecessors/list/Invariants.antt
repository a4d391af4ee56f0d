use Rattle.std.proofs.Common.{◌<◌}
use Rattle.std.specs.List.{All}
use Rattle.ci_live.proofs.predecessors.Predecessors.list.Given as goal

abbrev pub invariant-loop-place : goal.invariant-loop-place
invariant-loop-place l = All (λ from. from < l.self.count) l.pending.items

abbrev pub decreases-loop-place : goal.decreases-loop-place
decreases-loop-place l = l.place
