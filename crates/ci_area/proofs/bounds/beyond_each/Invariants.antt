use Rattle.std.proofs.Common.{◌≡◌, ℕ, ◌≤◌, length, slice_index_or}
use Rattle.ci_area.specs.private.Beyond.{beyond_below}
use Rattle.ci_area.proofs.bounds.beyond_each.Given as goal

abbrev pub invariant-loop-k : goal.invariant-loop-k
invariant-loop-k l = record {
  size : length l.beyond ≡ 33;
  told : (left : ℕ) → left ≤ l.k → slice_index_or l.beyond left 0 ≡ beyond_below l.pieces l.num l.den left;
}
