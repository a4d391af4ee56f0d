-- Pieces with an area and a gain, and the best set of them within a limit.
use Rattle.std.specs.Prelude.{◌≡◌, ℕ, ◌^◌, ◌<◌, ◌≤◌, Bool, true, List, length, slice_index_or, IsTrue, ◌⊎◌}
use Rattle.ci_word.specs.Numbers.{sum_below}
use Rattle.ci_cut.specs.Best.{ComesBefore, IsSameSet}
use Rattle.ci_area.specs.declared.piece.Piece.{Piece}

abbrev pub no_piece : Piece
no_piece = record { area = 0; gain = 0 }

abbrev pub area_at : List Piece → ℕ → ℕ
area_at pieces k = (slice_index_or pieces k no_piece).area

abbrev pub gain_at : List Piece → ℕ → ℕ
gain_at pieces k = (slice_index_or pieces k no_piece).gain

-- What every call asks for: at most 32 pieces, each of which gains something. All gains together, and all areas, stay
-- below 2 ^ 63, so products of two such sums stay below 2 ^ 126.
pub record ArePieces (pieces : List Piece) : Type 0 where
  pub few : length pieces ≤ 32
  pub gain_least : (k : ℕ) → k < length pieces → 1 ≤ gain_at pieces k
  pub gain_most : sum_below (length pieces) (λ _. true) (gain_at pieces) < 2 ^ 63
  pub area_most : sum_below (length pieces) (λ _. true) (area_at pieces) < 2 ^ 63

-- what the pieces of a set have together
abbrev pub area : List Piece → (ℕ → Bool) → ℕ
area pieces chosen = sum_below (length pieces) chosen (area_at pieces)

abbrev pub gain : List Piece → (ℕ → Bool) → ℕ
gain pieces chosen = sum_below (length pieces) chosen (gain_at pieces)

-- a set of pieces whose areas together are at most the limit
pub record IsWithin (pieces : List Piece) (limit : ℕ) (chosen : ℕ → Bool) : Type 0 where
  pub are_pieces : (k : ℕ) → IsTrue (chosen k) → k < length pieces
  pub fits : area pieces chosen ≤ limit

-- no other set within the limit gains more, and none of those that gain as much comes before
pub record IsBestSet (pieces : List Piece) (limit : ℕ) (chosen : ℕ → Bool) : Type 0 where
  pub within : IsWithin pieces limit chosen
  pub best : (other : ℕ → Bool) → IsWithin pieces limit other
      → (gain pieces other < gain pieces chosen)
      ⊎ ((gain pieces other ≡ gain pieces chosen) × (IsSameSet chosen other ⊎ ComesBefore chosen other))
