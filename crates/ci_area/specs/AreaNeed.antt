-- Open prefixes, and how many of them leave a piece undecided.
use Rattle.std.specs.Prelude.{ℕ, zero, suc, ◌≤◌, Bool, true, false, List, [], ◌∷◌, ◌++◌, length}
use Rattle.ci_cut.specs.ListCounts.{AtLeast}
use Rattle.ci_area.specs.declared.piece.Piece.{Piece}
use Rattle.ci_area.specs.Pieces.{area, gain}
use Rattle.ci_area.specs.AreaPrefixes.{Prefix, taken, bound, IsRate}
use Rattle.ci_area.specs.Greedy.{IsGreedy}

-- so much is gained by the greedy set, or more
pub record ReachesGreedy (pieces : List Piece) (limit gained : ℕ) : Type 0 where
  pub greedy : ℕ → Bool
  pub is_greedy : IsGreedy pieces limit greedy
  pub most : gain pieces greedy ≤ gained

-- the prefix is within the limit, and its least bound is at least the gain of the greedy set, as is each bound then
pub record IsOpen (pieces : List Piece) (limit : ℕ) (prefix : Prefix) : Type 0 where
  pub fits : area pieces (taken pieces prefix) ≤ limit
  pub above_greedy : (num den : ℕ) → IsRate pieces num den
      → ReachesGreedy pieces limit (bound pieces limit num den prefix)

-- all prefixes that go on from this one, itself among them, by fewer decisions than there are pieces undecided
unfoldable pub continuations : ℕ → Prefix → List Prefix
continuations zero prefix = []
continuations (suc left) prefix = prefix ∷ (continuations left (true ∷ prefix) ++ continuations left (false ∷ prefix))

-- the area need is greater than this: so many prefixes and one more are open and leave a piece undecided
abbrev pub NeedExceeds : List Piece → ℕ → ℕ → Type 0
NeedExceeds pieces limit budget =
    AtLeast (IsOpen pieces limit) (suc budget) (continuations (length pieces) [])
