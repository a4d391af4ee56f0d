-- Blocks that can be folded, and what matters of the registers before and behind one, for everybody.
use Rattle.std.specs.Prelude.{◌≡◌, ℕ, suc, ◌<◌, ◌≤◌, Bool, true, false, not, ◌&&◌, ◌||◌, List, length, drop, IsTrue}
use Rattle.std.specs.FinSet as finite
use Rattle.std.specs.List.{list_any}
use Rattle.std.specs.Ordering.{nat_cmp}
use Rattle.ci_isa.specs.declared.instruction.Insn.{Insn}
use Rattle.ci_isa.specs.FieldBounds.{FieldsFit}
use Rattle.ci_isa.specs.Effects.{ends_block, reads_register, writes_register}
use Rattle.ci_isa.specs.Sequences.{nth_insn, ReadFirst, Write}
use Rattle.ci_dfg.specs.Bundles.{AreBundled}

-- the fields of each instruction are within their places in a word
abbrev pub AllFieldsFit : List Insn → Type 0
AllFieldsFit insns = (k : ℕ) → k < length insns → FieldsFit (nth_insn insns k)

-- The first n instructions are the block's actions: behind them stands at most one more, which ends the block.
pub record AreActionsOf (insns : List Insn) (n : ℕ) : Type 0 where
  pub within : n ≤ length insns
  pub most : length insns ≤ suc n
  pub act : (k : ℕ) → k < n → ends_block (nth_insn insns k) ≡ false
  pub end : (k : ℕ) → n ≤ k → k < length insns → ends_block (nth_insn insns k) ≡ true

-- a block that can be folded: of the plain table, or folded before
pub record IsBlock (insns : List Insn) (n : ℕ) : Type 0 where
  pub actions : AreActionsOf insns n
  pub few : length insns ≤ 256
  pub fit : AllFieldsFit insns
  pub bundled : AreBundled insns

-- a set of registers that programs can name
abbrev pub AreNamed : finite.FinSet nat_cmp → Type 0
AreNamed registers = (r : ℕ) → IsTrue (finite.contains registers r) → r < 32

-- A set of registers covers the block, behind which these are live: it has each register that the block reads before it
-- writes it, and each live one that the block doesn't write.
pub record Covers (set : ℕ → Bool) (insns : List Insn) (live_out : finite.FinSet nat_cmp) : Type 0 where
  pub read : (r : ℕ) → ReadFirst insns r → set r ≡ true
  pub live : (r : ℕ) → IsTrue (finite.contains live_out r) → ¬ Write insns r → set r ≡ true

-- The registers that are live before the terminator of a block, which is one instruction or none: those that it reads,
-- and those that are live behind it and that it doesn't write.
abbrev pub live_before : List Insn → finite.FinSet nat_cmp → ℕ → Bool
live_before terminator live_out r =
    list_any (λ insn. reads_register insn r) terminator
    || (finite.contains live_out r && not (list_any (λ insn. writes_register insn r) terminator))

-- those that are live behind the actions of a block
abbrev pub live_behind : List Insn → ℕ → finite.FinSet nat_cmp → ℕ → Bool
live_behind insns n live_out = live_before (drop n insns) live_out
