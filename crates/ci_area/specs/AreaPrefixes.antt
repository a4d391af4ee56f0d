-- Prefixes: the choices, in or out, for the pieces from the last to the first.
use Rattle.std.specs.Prelude.{◌≡◌, ℕ, ◌+◌, ◌-◌, ◌*◌, ◌/◌, ◌<◌, ◌≤◌, Bool, true, false, ◌&&◌, ◌||◌, nat_eq, List, []}
use Rattle.std.specs.Prelude.{◌∷◌, length, IsTrue}
use Rattle.ci_word.specs.Numbers.{sum_below}
use Rattle.ci_area.specs.declared.piece.Piece.{Piece}
use Rattle.ci_area.specs.Pieces.{area_at, gain_at, area, gain}

-- A choice for each of the last pieces. The newest, which is for the earliest of these pieces, stands first.
abbrev pub Prefix : Type 0
Prefix = List Bool

-- the pieces below this number are undecided
abbrev pub undecided : List Piece → Prefix → ℕ
undecided pieces prefix = length pieces - length prefix

-- the pieces taken in
unfoldable pub taken : List Piece → Prefix → ℕ → Bool
taken pieces [] k = false
taken pieces (choice ∷ prefix) k = (nat_eq k (undecided pieces (choice ∷ prefix)) && choice) || taken pieces prefix k

-- den times what bounds the gain of each set that goes on from the prefix, where area is paid for at num / den: the
-- gain of what is taken in, the price of the area that it leaves, and what each undecided piece gains beyond its price.
abbrev pub scaled_bound : List Piece → ℕ → ℕ → ℕ → Prefix → ℕ
scaled_bound pieces limit num den prefix =
    den * gain pieces (taken pieces prefix) + num * (limit - area pieces (taken pieces prefix))
    + sum_below (undecided pieces prefix) (λ _. true) (λ k. den * gain_at pieces k - num * area_at pieces k)

-- what such a set gains at most by this rate
abbrev pub bound : List Piece → ℕ → ℕ → ℕ → Prefix → ℕ
bound pieces limit num den prefix = scaled_bound pieces limit num den prefix / den

-- the rates num / den that a search tries: none for area, and the gain of each piece that needs area for that area
pub data IsRate (pieces : List Piece) : ℕ → ℕ → Type 0 where
  no_price : IsRate pieces 0 1
  of_piece : (k : ℕ) → k < length pieces → 0 < area_at pieces k → IsRate pieces (gain_at pieces k) (area_at pieces k)

-- the set comes before the prefix: at the first decision in which they differ, the set has the piece
pub record IsBefore (pieces : List Piece) (chosen : ℕ → Bool) (prefix : Prefix) : Type 0 where
  pub piece : ℕ
  pub in_set : IsTrue (chosen piece)
  pub is_decided : undecided pieces prefix ≤ piece
  pub left_out : taken pieces prefix piece ≡ false
  pub same_above : (k : ℕ) → piece < k → chosen k ≡ taken pieces prefix k
