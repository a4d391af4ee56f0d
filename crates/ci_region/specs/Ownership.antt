-- What a block of cells and the right to free it own, and what a `&` to the block shows, for cells of the row C.
-- Behind the cells is room for others, of whose bytes nothing is said.
use Rattle.std.specs.Prelude.{ℕ, ◌+◌, ◌*◌, ◌^◌, List, [], ◌∷◌, length}
use Rattle.std.specs.Mem.{type_size}
use base.Fraction.{full_share}
use base.Fml.{Lft, Fml, ftrue, ffalse, fsep, flt, froom}
use mir.Syntax.{Ty, ty_array}
use mir.Raw.{raw}
use denote.RattleType.{RattleType}
use denote.Memory.{lone, part_at, shared_of}
use denote.Sharing.{nothing, said, beside}
use denote.RawPtr.{Ptr, block_ptr, null_ptr}

module _ (C : RattleType) where
  -- cells side by side, the first of them o bytes into the memory block b
  abbrev pub cells_at : ℕ → ℕ → List C.Denot → Fml
  cells_at b o [] = ftrue
  cells_at b o (cell ∷ cells) = fsep (part_at C full_share cell b o) (cells_at b (o + type_size C) cells)

  -- a `&` to each of them
  abbrev pub cells_lent_at : ℕ → ℕ → List C.Denot → Lft → Fml
  cells_lent_at b o [] = nothing
  cells_lent_at b o (cell ∷ cells) = beside (shared_of C cell b o) (cells_lent_at b (o + type_size C) cells)

  -- the cells, and as many more as there is room for, take fewer than 2 ^ 63 bytes
  abbrev pub cells_fit : List C.Denot → ℕ → Fml
  cells_fit cells left = flt ((length cells + left) * type_size C) (2 ^ 63)

  -- room for so many cells behind these
  abbrev pub room_behind : ℕ → ℕ → List C.Denot → ℕ → Fml
  room_behind b o cells left = froom (raw (ty_array (lone C.mir) left)) b (length cells * type_size C + o)

  -- what a block of these cells owns that begins where the pointer leads, and what a `&` to it shows
  abbrev pub cells_own : Ptr → List C.Denot → ℕ → Fml
  cells_own (block_ptr b o) cells left =
      fsep (cells_fit cells left) (fsep (cells_at b o cells) (room_behind b o cells left))
  cells_own null_ptr cells left = ffalse

  abbrev pub cells_lent : Ptr → List C.Denot → ℕ → Lft → Fml
  cells_lent (block_ptr b o) cells left = beside (said (cells_fit cells left)) (cells_lent_at b o cells)
  cells_lent null_ptr cells left = said ffalse

  -- the allocator's token for the memory of so many cells
  abbrev pub lease_owns : (Ty → Ptr → Fml) → Ptr → ℕ → Fml
  lease_owns token start count = token (raw (ty_array (lone C.mir) count)) start
