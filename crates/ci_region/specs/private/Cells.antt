-- For private contracts: how a region keeps its slots.
use Rattle.std.specs.Prelude.{◌≡◌, ◌≢◌, ℕ, ◌+◌, ◌<◌, Bool, Option, Some, None, is_some, ⊤}
use Rattle.std.specs.Prelude.{List, [], ◌∷◌, length, get_or, count_by}
use Rattle.std.specs.Ordering.{nat_cmp}
use Rattle.std.specs.FinMap as map
use Rattle.ci_region.specs.declared.cells.Cell.{Cell}
use Rattle.ci_region.specs.declared.cells.Cell.TheVariants.{Live, Free}

-- the number isn't among these
abbrev pub Avoids : ℕ → List ℕ → Type 0
Avoids number [] = ⊤
Avoids number (other ∷ others) = (number ≢ other) × Avoids number others

module _ {T : Type 0} where
  -- the value of a cell that has one
  abbrev pub value_of : Cell T → Option T
  value_of (Live value) = Some value
  value_of (Free next) = None

  abbrev pub is_live : Cell T → Bool
  is_live cell = is_some (value_of cell)

  -- the values of these cells, each at the number of its cell, of which the first has this one
  unfoldable pub values_from : ℕ → List (Cell T) → map.FinMap nat_cmp T
  values_from number [] = map.empty
  values_from number (Free next ∷ cells) = values_from (number + 1) cells
  values_from number (Live value ∷ cells) = map.insert (values_from (number + 1) cells) number value

  -- the values of these cells, each at its number
  unfoldable pub values_in : List (Cell T) → map.FinMap nat_cmp T
  values_in cells = values_from 0 cells

  -- no cell has a value
  abbrev pub AreFree : List (Cell T) → Type 0
  AreFree cells = (number : ℕ) → number < length cells → value_of (get_or cells number (Free 0)) ≡ None

  -- the cells of these numbers, which differ, are free, and each has the number of the next, of which the first is
  -- this; the last has the number of the cell behind all
  pub data IsChain (cells : List (Cell T)) : ℕ → List ℕ → Type 0 where
    chain_end : {number : ℕ} → number ≡ length cells → IsChain cells number []
    chain_link : {number next : ℕ} {others : List ℕ} → number < length cells → get_or cells number (Free 0) ≡ Free next
        → Avoids number others → IsChain cells next others → IsChain cells number (number ∷ others)

  -- so many cells are reached; so many of them have a value, and all others form a chain that begins at this number
  pub record AreCells (cells : List (Cell T)) (first_free used reached : ℕ) : Type 0 where
    pub free : List ℕ
    pub chained : IsChain cells first_free free
    pub counted : count_by is_live cells ≡ used
    pub rest_free : used + length free ≡ length cells
    pub all : length cells ≡ reached
