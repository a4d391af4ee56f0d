-- The greedy set of pieces: each piece is tried once, those first that gain most for their area.
use Rattle.std.specs.Prelude.{ℕ, ◌+◌, ◌*◌, ◌<◌, ◌≤◌, Bool, ◌&&◌, ◌||◌, nat_eq, nat_lt, List, length, IsTrue, ◌↔◌}
use Rattle.ci_word.specs.Numbers.{sum_below}
use Rattle.ci_area.specs.declared.piece.Piece.{Piece}
use Rattle.ci_area.specs.Pieces.{area_at, gain_at}

-- Piece j is tried before piece k: it has the greater quotient of gain by area, or as great a one and the lesser
-- number. Each piece gains something, so those that need no area come before all others.
abbrev pub is_tried_before : List Piece → ℕ → ℕ → Bool
is_tried_before pieces j k =
    nat_lt (gain_at pieces k * area_at pieces j) (gain_at pieces j * area_at pieces k)
    || (nat_eq (gain_at pieces k * area_at pieces j) (gain_at pieces j * area_at pieces k) && nat_lt j k)

-- the area of those of a set that are tried before the piece
abbrev pub area_before : List Piece → (ℕ → Bool) → ℕ → ℕ
area_before pieces chosen k =
    sum_below (length pieces) (λ j. chosen j && is_tried_before pieces j k) (area_at pieces)

-- a piece is taken in exactly where the areas stay within the limit when it is tried
pub record IsGreedy (pieces : List Piece) (limit : ℕ) (chosen : ℕ → Bool) : Type 0 where
  pub are_pieces : (k : ℕ) → IsTrue (chosen k) → k < length pieces
  pub taken : (k : ℕ) → k < length pieces
      → IsTrue (chosen k) ↔ (area_before pieces chosen k + area_at pieces k ≤ limit)
