-- For private contracts: the pieces of some modules and takes.
use Rattle.std.specs.Prelude.{◌≡◌, ℕ, ◌<◌, ◌≤◌, List, length, reverse, slice_get, Some}
use Rattle.ci_area.specs.declared.piece.Piece.{Piece}
use Rattle.ci_area.specs.Pieces.{area_at, gain_at}
use Rattle.ci_gates.specs.Counts.{IsCountOf}
use Rattle.ci_verilog.specs.Modules.{Module}
use Rattle.ci_select.specs.declared.taken.Taken.{Taken}
use Rattle.ci_select.specs.Histories.{History}
use Rattle.ci_select.specs.Instances.{Instance}
use Rattle.ci_select.specs.Savings.{IsSavedBy}
use Rattle.ci_select.specs.Takes.{AreTaken}

-- the area and the gain of the unit of this number
pub record IsPieceAt (modules : List Module) (takes : List Taken) (number area gain : ℕ) : Type 0 where
  pub area_is : (m : Module) → slice_get modules number ≡ Some m → IsCountOf m area
  pub area_most : area ≤ 25596480
  pub gain_is :
      (instance : Instance) (history : History) → AreTaken instance history (reverse takes)
      → IsSavedBy instance number history gain

-- there is one piece for each of so many modules
pub record ArePiecesFor (modules : List Module) (takes : List Taken) (count : ℕ) (pieces : List Piece) : Type 0 where
  pub as_many : length pieces ≡ count
  pub each : (k : ℕ) → k < count → IsPieceAt modules takes k (area_at pieces k) (gain_at pieces k)
