-- For private contracts: sums of what pieces gain beyond the price of their areas.
use Rattle.std.specs.Prelude.{◌≡◌, ℕ, ◌-◌, ◌*◌, ◌<◌, ◌≤◌, true, List, [], length, slice_index_or}
use Rattle.ci_word.specs.Numbers.{sum_below}
use Rattle.ci_area.specs.declared.piece.Piece.{Piece}
use Rattle.ci_area.specs.declared.rates.Rates.{Rates}
use Rattle.ci_area.specs.Pieces.{area_at, gain_at}

-- what the pieces below a number gain beyond the price of their areas at num / den, times den
abbrev pub beyond_below : List Piece → ℕ → ℕ → ℕ → ℕ
beyond_below pieces num den left = sum_below left (λ _. true) (λ k. den * gain_at pieces k - num * area_at pieces k)

-- such a sum for each number
pub record AreBeyond (pieces : List Piece) (num den : ℕ) (beyond : List ℕ) : Type 0 where
  pub size : length beyond ≡ 33
  pub told : (left : ℕ) → left ≤ length pieces → slice_index_or beyond left 0 ≡ beyond_below pieces num den left

-- the sums for each rate that a search tries
pub record AreRates (pieces : List Piece) (rates : Rates) : Type 0 where
  pub unpriced : AreBeyond pieces 0 1 rates.unpriced
  pub size : length rates.by_piece ≡ 32
  pub told : (k : ℕ) → k < length pieces
      → AreBeyond pieces (gain_at pieces k) (area_at pieces k) (slice_index_or rates.by_piece k [])
