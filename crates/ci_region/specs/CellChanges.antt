-- What a block and a cell end as, where a `&mut` into them is handed out, and whose memory a lease is of.
use Rattle.std.specs.Prelude.{◌≡◌, ℕ, ◌+◌, ◌-◌, [], ◌∷◌, ◌++◌, length, take, slice_set}
use Rattle.std.specs.Borrow.{Fml, RattleType, MutBor, Lends}
use Rattle.ci_region.specs.declared.cells.Cell.{Cell}
use Rattle.ci_region.specs.declared.cells.Cell.TheVariants.{Live}
use Rattle.ci_region.specs.declared.cells.Cells.{Cells}
use Rattle.ci_region.specs.declared.cells.Lease.{Lease}
use Rattle.ci_region.specs.contracts.cells.Cell as cell
use Rattle.ci_region.specs.contracts.cells.Cells as block

-- the block after a write: the cell of this number is this one
abbrev pub with_cell : {T : Type 0} → Cells T → ℕ → Cell T → Cells T
with_cell b number cell = record { start = b.start; cells = slice_set b.cells number cell; left = b.left }

-- the block in which the next cell was reached, and has this value
abbrev pub with_next : {T : Type 0} → Cells T → T → Cells T
with_next b value = record { start = b.start; cells = b.cells ++ Live value ∷ []; left = b.left - 1 }

-- the block with the first cells alone, so many; the memory of the others is room
abbrev pub with_only : {T : Type 0} → Cells T → ℕ → Cells T
with_only b number =
    record { start = b.start; cells = take number b.cells; left = b.left + (length b.cells - number) }

-- once the borrow ends, the cell is the last one that was written through it
abbrev pub LendsCell : (T : RattleType) → MutBor (Cells T.Denot) → ℕ → MutBor (Cell T.Denot) → Fml
LendsCell T b number r =
    Lends (block.the_row T) (cell.the_row T) b r (λ new. with_cell b.now number new)

-- once the borrow ends, the cell has the last value that was written through it
abbrev pub LendsLive : (T : RattleType) → MutBor (Cell T.Denot) → MutBor T.Denot → Fml
LendsLive T c value = Lends (cell.the_row T) T c value (λ new. Live new)

-- no cell is reached, and there is room for so many
abbrev pub IsUnreached : {T : Type 0} → Cells T → ℕ → Type 0
IsUnreached b count = (b.cells ≡ []) × (b.left ≡ count)

-- the lease is of the memory of this block, which this allocator gave for so many cells
abbrev pub IsLeaseOf : {T A : Type 0} → Lease T A → Cells T → ℕ → A → Type 0
IsLeaseOf lease b count alloc = (lease.start ≡ b.start) × (lease.count ≡ count) × (lease.alloc ≡ alloc)
