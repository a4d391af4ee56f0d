use Rattle.std.proofs.Common.{◌≡◌}
use Rattle.std.specs.FinSet as set
use Rattle.ci_word.specs.Numbers.{sum_below}
use Rattle.ci_area.specs.Pieces.{area_at, gain_at}
use Rattle.ci_area.proofs.piece.together.Given as goal

abbrev pub invariant-loop-k : goal.invariant-loop-k
invariant-loop-k l =
    (l.area ≡ sum_below l.k (set.contains l.chosen) (area_at l.pieces))
    × (l.gain ≡ sum_below l.k (set.contains l.chosen) (gain_at l.pieces))
