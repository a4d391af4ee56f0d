-- For every reader: the first element of a list that breaks a property, and lists that are made number by number.
use Rattle.std.specs.Prelude.{◌≡◌, ℕ, zero, suc, Bool, if◌then◌else◌, List, [], ◌∷◌, ◌++◌}
use Rattle.std.specs.List.{AllByRecursion}

-- x is the first element of the list that hasn't the property
pub record IsFirstBroken {A : Type 0} (P : A → Type 0) (xs : List A) (x : A) : Type 0 where
  pub before : List A
  pub after : List A
  pub split : xs ≡ before ++ x ∷ after
  pub kept : AllByRecursion P before
  pub broken : ¬ P x

-- the lists that f makes of 0, 1, .., n - 1, one after the other
unfoldable pub each_below : {A : Type 0} → ℕ → (ℕ → List A) → List A
each_below zero f = []
each_below (suc n) f = each_below n f ++ f n

-- f of those of the numbers 0, 1, .., n - 1 that pass the test
abbrev pub those_below : {A : Type 0} → ℕ → (ℕ → Bool) → (ℕ → A) → List A
those_below n test f = each_below n (λ k. if test k then f k ∷ [] else [])
