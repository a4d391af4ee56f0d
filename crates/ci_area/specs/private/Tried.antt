-- For private contracts: what is known while pieces are tried one after the other.
use Rattle.std.specs.Prelude.{◌≡◌, ◌≢◌, ℕ, ◌+◌, ◌<◌, ◌≤◌, Bool, List, length, Option, Some, None, IsTrue, ◌↔◌}
use Rattle.std.specs.FinSet as set
use Rattle.ci_area.specs.declared.greedy.Tried.{Tried}
use Rattle.ci_area.specs.declared.piece.Piece.{Piece}
use Rattle.ci_area.specs.Pieces.{area_at, area}
use Rattle.ci_area.specs.Greedy.{is_tried_before, area_before}

-- of the pieces below a number, this one is tried first among those that weren't tried; or each was
abbrev pub IsFirstUntried : List Piece → (ℕ → Bool) → ℕ → Option ℕ → Type 0
IsFirstUntried pieces tried end None = (k : ℕ) → k < end → IsTrue (tried k)
IsFirstUntried pieces tried end (Some first) =
    (first < end) × (¬ IsTrue (tried first))
    × ((k : ℕ) → k < end → ¬ IsTrue (tried k) → k ≢ first → IsTrue (is_tried_before pieces first k))

-- these were tried, before all others, and these of them are in the greedy set
pub record IsTriedSoFar (pieces : List Piece) (limit : ℕ) (so_far : Tried) : Type 0 where
  pub are_pieces : (k : ℕ) → IsTrue (set.contains so_far.tried k) → k < length pieces
  pub were_tried : (k : ℕ) → IsTrue (set.contains so_far.chosen k) → IsTrue (set.contains so_far.tried k)
  pub before_others : (j k : ℕ) → IsTrue (set.contains so_far.tried j) → k < length pieces
      → ¬ IsTrue (set.contains so_far.tried k) → IsTrue (is_tried_before pieces j k)
  pub taken : (k : ℕ) → IsTrue (set.contains so_far.tried k) → IsTrue (set.contains so_far.chosen k)
      ↔ (area_before pieces (set.contains so_far.chosen) k + area_at pieces k ≤ limit)
  pub area_is : so_far.area ≡ area pieces (set.contains so_far.chosen)
  pub fits : so_far.area ≤ limit
