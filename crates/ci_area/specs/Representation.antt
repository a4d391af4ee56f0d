-- For the contracts of checker and search: what the code holds of a prefix, of the best set and of a log.
use Rattle.std.specs.Prelude.{◌≡◌, ℕ, ◌≤◌, List, ◌++◌, drop, length}
use Rattle.std.specs.FinSet as set
use Rattle.ci_area.specs.declared.decided.Decided.{Decided}
use Rattle.ci_area.specs.declared.log.AreaItem.{AreaItem}
use Rattle.ci_area.specs.declared.piece.Piece.{Piece}
use Rattle.ci_area.specs.declared.rules.Incumbent.{Incumbent}
use Rattle.ci_area.specs.Pieces.{area, gain, IsWithin}
use Rattle.ci_area.specs.AreaPrefixes.{Prefix, undecided, taken}
use Rattle.ci_area.specs.AreaTrees.{IsTree}

-- the decisions of a prefix: the pieces taken in, what they have together, and how many are undecided
pub record Represents (pieces : List Piece) (prefix : Prefix) (decided : Decided) : Type 0 where
  pub within : length prefix ≤ length pieces
  pub is_left : decided.left ≡ undecided pieces prefix
  pub is_taken : (k : ℕ) → set.contains decided.taken k ≡ taken pieces prefix k
  pub area_is : decided.so_far.area ≡ area pieces (taken pieces prefix)
  pub gain_is : decided.so_far.gain ≡ gain pieces (taken pieces prefix)

abbrev pub RepresentsSome : List Piece → Decided → Type 0
RepresentsSome pieces decided = (prefix : Prefix) × Represents pieces prefix decided

-- a set within the limit, with its gain
pub record IsMeasured (pieces : List Piece) (limit : ℕ) (best : Incumbent) : Type 0 where
  pub good : IsWithin pieces limit (set.contains best.set)
  pub gain_is : best.gain ≡ gain pieces (set.contains best.set)

-- a tree of items begins at a place
pub record IsTreeAt (items : List AreaItem) (place : ℕ) : Type 0 where
  pub one : List AreaItem
  pub rest : List AreaItem
  pub is_split : drop place items ≡ one ++ rest
  pub tree : IsTree one
