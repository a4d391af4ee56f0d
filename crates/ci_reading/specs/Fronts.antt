-- For readers of line formats: fronts of a language, and the first bad symbol of a list that isn't in it.
use Rattle.std.specs.Prelude.{◌≡◌, List, [], ◌∷◌, ◌++◌}

-- some list of the language goes on from here
abbrev pub IsFront : {S : Type 0} → (List S → Type 0) → List S → Type 0
IsFront {S = S} P xs = (more : List S) × P (xs ++ more)

-- behind the front, which some list of the language goes on from, stands a symbol with which none does
pub record IsFirstBad {S : Type 0} (P : List S → Type 0) (xs front : List S) (bad : S) : Type 0 where
  pub rest : List S
  pub splits : xs ≡ front ++ bad ∷ rest
  pub good : IsFront P front
  pub is_bad : ¬ IsFront P (front ++ bad ∷ [])

-- the list is the beginning of one of the language and isn't one
pub record EndsEarly {S : Type 0} (P : List S → Type 0) (xs : List S) : Type 0 where
  pub good : IsFront P xs
  pub is_short : ¬ P xs
