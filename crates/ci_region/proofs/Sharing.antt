-- A `&` to a row of cells is made where one to a cell is.
use Prim.Native.Nat.{ℕ, ◌+◌}
use Rattle.std.specs.Prelude.{List, [], ◌∷◌}
use Rattle.std.specs.Mem.{type_size}
use seplogic.Ra.Ura.{Ura}
use base.Fml.{Lft, Incl, ftrue, ffalse, fsep}
use types.Logic.{Logic}
use denote.RattleType.{RattleType, RowLaws}
use denote.Param.Laws.{Laws}
use denote.Memory.{part_at, shared_of}
use base.Fraction.{full_share}
use denote.RawPtr.{Ptr, block_ptr, null_ptr}
use denote.Sharing.{ShrLaws, said}
use denote.SharingLaws.{beside_shr_laws, nothing_shr_laws, said_shr_laws}
use denote.Shares.{Shares-less}
use denote.Struct.Lending.{Lends, Lends-both, Lends-first, Lends-nothing, Lends-said, Lends-false}
use Rattle.ci_region.specs.Ownership.{cells_at, cells_lent_at, room_behind, cells_fit, cells_own, cells_lent}

module _ (C : RattleType) (L : RowLaws C) where
  cells_lent_at_laws : (b o : ℕ) (cells : List C.Denot) → ShrLaws (cells_lent_at C b o cells)
  cells_lent_at_laws b o [] = nothing_shr_laws
  cells_lent_at_laws b o (cell ∷ cells) = beside_shr_laws _ _ (L cell b o)
      (cells_lent_at_laws b (o + type_size C) cells)

  pub cells_lent_laws : (p : Ptr) (cells : List C.Denot) (left : ℕ) → ShrLaws (cells_lent C p cells left)
  cells_lent_laws (block_ptr b o) cells left = beside_shr_laws _ _ (said_shr_laws (cells_fit C cells left) tt)
      (cells_lent_at_laws b o cells)
  cells_lent_laws null_ptr cells left = said_shr_laws ffalse tt

module _ {M : Type 1} {𝓤 : Ura M} (𝓛 : Logic 𝓤) (l : Lft) (C : RattleType) (L : Laws C) (within : Incl l C.lives) where
  Lends-cell : (b o : ℕ) (cell : C.Denot) → Lends 𝓛 (part_at C full_share cell b o) (shared_of C cell b o) l
  Lends-cell b o cell κ ts = Shares-less 𝓛 C C.lives l within (L.shares 𝓛) cell κ ts b o

  Lends-cells_at : (b o : ℕ) (cells : List C.Denot) → Lends 𝓛 (cells_at C b o cells) (cells_lent_at C b o cells) l
  Lends-cells_at b o [] = Lends-nothing 𝓛 ftrue l
  Lends-cells_at b o (cell ∷ cells) =
      Lends-both 𝓛 (part_at C full_share cell b o) (cells_at C b (o + type_size C) cells) (shared_of C cell b o)
      (cells_lent_at C b (o + type_size C) cells) l (Lends-cell b o cell) (Lends-cells_at b (o + type_size C) cells)

  pub Lends-cells : (p : Ptr) (cells : List C.Denot) (left : ℕ)
      → Lends 𝓛 (cells_own C p cells left) (cells_lent C p cells left) l
  Lends-cells (block_ptr b o) cells left =
      let room = room_behind C b o cells left in
      Lends-both 𝓛 (cells_fit C cells left) (fsep (cells_at C b o cells) room) (said (cells_fit C cells left))
      (cells_lent_at C b o cells) l (Lends-said 𝓛 (cells_fit C cells left) tt l)
      (Lends-first 𝓛 (cells_at C b o cells) room (cells_lent_at C b o cells) l (Lends-cells_at b o cells))
  Lends-cells null_ptr cells left = Lends-false 𝓛 (said ffalse) l
