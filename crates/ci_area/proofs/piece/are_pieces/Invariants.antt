use Rattle.std.proofs.Common.{◌≡◌, ℕ, ◌*◌, ◌-◌, ◌^◌, ◌<◌, ◌≤◌, true}
use Rattle.ci_word.specs.Numbers.{sum_below}
use Rattle.ci_area.specs.Pieces.{area_at, gain_at}
use Rattle.ci_area.proofs.piece.are_pieces.Given as goal

abbrev pub invariant-loop-k : goal.invariant-loop-k
invariant-loop-k l =
    (l.area ≡ sum_below l.k (λ _. true) (area_at l.pieces))
    × (l.gain ≡ sum_below l.k (λ _. true) (gain_at l.pieces))
    × (l.area ≤ l.k * (2 ^ 64 - 1))
    × (l.gain ≤ l.k * (2 ^ 64 - 1))
    × ((j : ℕ) → j < l.k → 1 ≤ gain_at l.pieces j)
