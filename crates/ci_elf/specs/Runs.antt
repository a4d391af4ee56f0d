-- Runs of places that are taken, 16 apart.
use Rattle.std.specs.Prelude.{ℕ, ◌+◌, ◌*◌, ◌<◌, List, slice_index}

-- At each place of the list stands how many places in a row from there on, 16 apart, are known to be taken. Where a
-- place is free, that is 0.
pub record AreRuns (runs : List ℕ) : Type 0 where
  pub taken : (i j : ℕ) → j < slice_index runs i → 0 < slice_index runs (i + 16 * j)
