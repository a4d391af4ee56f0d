-- For every reader: the command `area`, the best of the units of a choice of cuts where there is room for so many gates.
use Rattle.std.specs.Prelude.{◌≡◌, ℕ, ◌<◌, Bool, List, [], ◌∷◌, ◌++◌, codes, length, reverse, slice_get, Some}
use Rattle.std.specs.Fmt.{decimal}
use Rattle.ci_reading.specs.Lines.{line}
use Rattle.ci_word.specs.Members.{members_text}
use Rattle.ci_area.specs.declared.piece.Piece.{Piece}
use Rattle.ci_area.specs.Pieces.{area, area_at, gain, gain_at, IsBestSet}
use Rattle.ci_area.specs.AreaNeed.{NeedExceeds}
use Rattle.ci_gates.specs.Counts.{IsCountOf}
use Rattle.ci_log.specs.Books.{Book}
use Rattle.ci_unit.specs.Units.{Unit}
use Rattle.ci_verilog.specs.Modules.{Module}
use Rattle.ci_vemit.specs.Templates.{modules_of}
use Rattle.ci_select.specs.Histories.{History}
use Rattle.ci_select.specs.Instances.{Instance}
use Rattle.ci_select.specs.UnitNumbers.{AreUnits}
use Rattle.ci_select.specs.Savings.{IsSavedBy}
use Rattle.ci_select.specs.LegalBooks.{IsLegal}
use Rattle.ci_select.specs.GivenUp.{GivesUpByNeed}
use Rattle.ci_calls.specs.declared.success.Success.{Success}
use Rattle.ci_commands.specs.BestCommand.{skipped_line}
use Rattle.ci_find.specs.Profiled.{Settings, Profiled, instance_by}

-- ---- the pieces

-- One piece for each unit, by its number: its area is the number of gates of its module, and its gain is what the cuts
-- that were taken as this unit save together over the profiled run.
pub record ArePiecesOf (instance : Instance) (history : History) (units : List Unit) (pieces : List Piece) : Type 0 where
  pub as_many : length pieces ≡ length units
  pub areas_are : (k : ℕ) (m : Module) → slice_get (modules_of units) k ≡ Some m → IsCountOf m (area_at pieces k)
  pub gains_are : (k : ℕ) → k < length units → IsSavedBy instance k history (gain_at pieces k)

-- ---- the line

-- how many gates the units of the set need, what they save, and their numbers in ascending order
abbrev pub area_line : List Piece → (ℕ → Bool) → List ℕ
area_line pieces chosen =
    line (codes "area " ++ decimal (area pieces chosen) ++ codes " gain " ++ decimal (gain pieces chosen)
    ++ codes " units" ++ members_text chosen)

-- The line of the best set of units within the limit; or that it is skipped, which it may be only where the area need of
-- the pieces is greater than the budget.
pub data IsAreaLine (pieces : List Piece) (limit budget : ℕ) : List ℕ → Type 0 where
  set_is_best : (chosen : ℕ → Bool) → IsBestSet pieces limit chosen
      → IsAreaLine pieces limit budget (area_line pieces chosen)
  skipped : NeedExceeds pieces limit budget → IsAreaLine pieces limit budget (skipped_line budget)

-- ---- the command

-- There is a legal book of the instance, in which each search was given up exactly by need. Its units are the pieces,
-- and the line of the best of them is put, by the budget of each search. No file is written.
pub record IsAreaChoice (instance : Instance) (limit : ℕ) (success : Success) : Type 0 where
  pub book : Book
  pub units : List Unit
  pub pieces : List Piece
  pub legal : IsLegal instance book
  pub given_up : GivesUpByNeed instance (reverse book.entries)
  pub units_are : AreUnits instance (reverse book.entries) units
  pub pieces_are : ArePiecesOf instance (reverse book.entries) units pieces
  pub text_is : IsAreaLine pieces limit instance.plan.budget success.text.items
  pub writes_none : success.writes.items ≡ []

-- It makes such a choice for the executable, by its profiled run.
pub record IsAreaMade (settings : Settings) (limit : ℕ) (read : List (List ℕ)) (success : Success) : Type 0 where
  pub executable : List ℕ
  pub others : List (List ℕ)
  pub read_is : read ≡ executable ∷ others
  pub profiled : Profiled settings executable others
  pub choice : IsAreaChoice (instance_by profiled) limit success
