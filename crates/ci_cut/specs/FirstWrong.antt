-- The first item of a list that isn't right, and the reason that is given for it.
use Rattle.std.specs.Prelude.{◌≡◌, ℕ, List, ◌∷◌, ◌++◌, length}
use Rattle.std.specs.List.{AllByRecursion}

-- behind so many items that are right stands one that isn't, and this is its reason
pub record IsFirstWrongIn {Station : Type 0} (IsRight : Station → Type 0) (reason_of : Station → ℕ) (all : List Station)
    (number reason : ℕ) : Type 0 where
  pub before : List Station
  pub station : Station
  pub behind : List Station
  pub is_split : all ≡ before ++ (station ∷ behind)
  pub right_before : AllByRecursion IsRight before
  pub not_right : ¬ IsRight station
  pub is_number : number ≡ length before
  pub is_reason : reason ≡ reason_of station
