use Rattle.std.proofs.Common.{nat_eq}
use Rattle.std.specs.FinSet as set
use Rattle.ci_cut.proofs.FilledRows.{AreAddedBut}
use Rattle.ci_cut.proofs.graph_rows.add_at_members.Given as goal

abbrev pub invariant-loop-place : goal.invariant-loop-place
invariant-loop-place l = AreAddedBut l.initial.rows l.rows l.rest (set.contains l.places) (λ k. nat_eq k l.number)

abbrev pub decreases-loop-place : goal.decreases-loop-place
decreases-loop-place l = set.len l.rest
