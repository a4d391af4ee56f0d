-- For private contracts: numbers that are put into some of the rows beside each other.
use Rattle.std.specs.Prelude.{◌≡◌, ℕ, Bool, ◌&&◌, ◌||◌, List}
use Rattle.std.specs.Ordering.{nat_cmp}
use Rattle.std.specs.FinSet as set
use Rattle.ci_cut.specs.Representation.{row_at}

-- the rows at these places have these numbers too
abbrev pub AreAdded : List (set.FinSet nat_cmp) → List (set.FinSet nat_cmp) → (ℕ → Bool) → (ℕ → Bool) → Type 0
AreAdded before after places numbers =
    (j k : ℕ) → set.contains (row_at after j) k ≡ ((places j && numbers k) || set.contains (row_at before j) k)
