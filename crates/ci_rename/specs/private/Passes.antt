-- For private contracts: a pass over the nodes of a block.
use Rattle.std.specs.Prelude.{◌≡◌, ℕ, ◌+◌, ◌≤◌, List, Option, MatchOption}
use Rattle.std.specs.FinSet as finite
use Rattle.std.specs.Ordering.{nat_cmp}
use Rattle.ci_isa.specs.declared.instruction.Insn.{Insn}
use Rattle.ci_rename.specs.Renaming.{IsFree, IsGoneThrough, IsLeastFree}

-- this is the least register that is free, if one is
abbrev pub HasLeastFree : finite.FinSet nat_cmp → List Insn → Option ℕ → Type 0
HasLeastFree live_out insns free =
    MatchOption free ((r : ℕ) → ¬ IsFree live_out insns r) (IsLeastFree live_out insns)

-- Node i is gone through, and the number of values grows by those that are renamed: one or none.
pub record IsStep (live_out : finite.FinSet nat_cmp) (i : ℕ) (old : List Insn) (before : ℕ) (new : List Insn)
    (after : ℕ) : Type 0 where
  pub further : ℕ
  pub gone : IsGoneThrough live_out old i new further
  pub counted : after ≡ before + further
  pub most : further ≤ 1
