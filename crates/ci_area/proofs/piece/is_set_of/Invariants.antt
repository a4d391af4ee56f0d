use Rattle.std.proofs.Common.{◌≡◌, ℕ, ◌<◌, ◌≤◌, false, length}
use Rattle.std.specs.FinSet as set
use Rattle.ci_area.proofs.piece.is_set_of.Given as goal

abbrev pub invariant-loop-k : goal.invariant-loop-k
invariant-loop-k l = (j : ℕ) → length l.pieces ≤ j → j < l.k → set.contains l.chosen j ≡ false
