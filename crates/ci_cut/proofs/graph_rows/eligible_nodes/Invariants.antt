use Rattle.std.proofs.Common.{◌≡◌, ℕ, ◌&&◌, nat_lt}
use Rattle.std.specs.FinSet as set
use Rattle.ci_cut.specs.Prefixes.{is_eligible}
use Rattle.ci_cut.proofs.graph_rows.eligible_nodes.Given as goal

abbrev pub invariant-loop-k : goal.invariant-loop-k
invariant-loop-k l = (j : ℕ) → set.contains l.row j ≡ (nat_lt j l.k && is_eligible l.graph j)
