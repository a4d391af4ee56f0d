-- How many items of a list have a property, which no test needs to decide.
use Rattle.std.specs.Prelude.{ℕ, zero, suc, ◌≤◌, List, ◌∷◌}

-- at least so many of the items have the property
pub data AtLeast {X : Type 0} (P : X → Type 0) : ℕ → List X → Type 0 where
  none : {items : List X} → AtLeast P zero items
  counted : {n : ℕ} {item : X} {rest : List X} → P item → AtLeast P n rest → AtLeast P (suc n) (item ∷ rest)
  passed : {n : ℕ} {item : X} {rest : List X} → AtLeast P n rest → AtLeast P n (item ∷ rest)

-- so many of the items have the property, and no more
pub record AreJust {X : Type 0} (P : X → Type 0) (n : ℕ) (items : List X) : Type 0 where
  pub at_least : AtLeast P n items
  pub no_more : (m : ℕ) → AtLeast P m items → m ≤ n
