use Rattle.std.proofs.Common.{◌≡◌, ℕ, ◌≤◌, length, slice_index_or, None}
use Rattle.ci_cut.specs.Representation.{IsLastBelow}
use Rattle.ci_cut.proofs.graph_rows.hold_last_below.Given as goal

abbrev pub invariant-loop-k : goal.invariant-loop-k
invariant-loop-k l = record {
  size : length l.last ≡ 257;
  told : (place : ℕ) → place ≤ l.k → IsLastBelow l.graph place (slice_index_or l.last place None);
}
