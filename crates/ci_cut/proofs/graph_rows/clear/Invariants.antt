use Rattle.std.proofs.Common.{◌≡◌, ℕ, ◌<◌, length}
use Rattle.std.specs.FinSet as set
use Rattle.ci_cut.specs.Representation.{row_at}
use Rattle.ci_cut.proofs.graph_rows.clear.Given as goal

abbrev pub invariant-loop-k : goal.invariant-loop-k
invariant-loop-k l = record {
  size : length l.rows ≡ 256;
  cleared : (j : ℕ) → j < l.k → row_at l.rows j ≡ set.empty;
}
