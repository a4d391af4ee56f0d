use Rattle.std.proofs.Common.{◌≡◌, ℕ, ◌<◌, [], length, slice_index_or}
use Rattle.ci_area.specs.Pieces.{area_at, gain_at}
use Rattle.ci_area.specs.private.Beyond.{AreBeyond}
use Rattle.ci_area.proofs.rates.Rates.of.Given as goal

abbrev pub invariant-loop-k : goal.invariant-loop-k
invariant-loop-k l = record {
  size : length l.by_piece ≡ 32;
  told : (k : ℕ) → k < l.k → AreBeyond l.pieces (gain_at l.pieces k) (area_at l.pieces k) (slice_index_or l.by_piece k []);
}
