-- Bytes of a list from an index on.
use Rattle.std.specs.Prelude.{ℕ, suc, zero, ◌+◌, List, [], ◌∷◌, slice_index, slice_set}

-- the bytes from an index on
abbrev pub bytes_from : ℕ → List ℕ → ℕ → List ℕ
bytes_from zero bytes i = []
bytes_from (suc n) bytes i = slice_index bytes i ∷ bytes_from n bytes (i + 1)

-- the list with these bytes from an index on
abbrev pub overwritten : List ℕ → ℕ → List ℕ → List ℕ
overwritten bytes i [] = bytes
overwritten bytes i (new ∷ more) = slice_set (overwritten bytes (i + 1) more) i new
