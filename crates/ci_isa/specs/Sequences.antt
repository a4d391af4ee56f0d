-- Instructions one behind the other: which of them stands at a place, who writes a register, and what is read before it
-- is written.
use Rattle.std.specs.Prelude.{◌≡◌, ℕ, zero, suc, ◌<◌, true, false, ◌++◌, ◌∷◌, if◌then◌else◌, List, Option, Some, None}
use Rattle.std.specs.Prelude.{slice_index_or, IsTrue}
use Rattle.std.specs.List.{Contains}
use Rattle.ci_isa.specs.declared.instruction.Insn.{Insn}
use Rattle.ci_isa.specs.declared.instruction.Insn.TheVariants.{Ebreak}
use Rattle.ci_isa.specs.Effects.{reads_register, writes_register}

-- ---- by place, from 0

module _ (insns : List Insn) where
  abbrev pub nth_insn : ℕ → Insn
  nth_insn k = slice_index_or insns k Ebreak

  -- the place of the latest instruction before place k that writes the register
  unfoldable pub latest_writer : ℕ → ℕ → Option ℕ
  latest_writer register zero = None
  latest_writer register (suc k) = if writes_register (nth_insn k) register then Some k else latest_writer register k

-- Instruction j is the last one before place k that writes the register.
pub record IsLastWriter (insns : List Insn) (r k j : ℕ) : Type 0 where
  pub before : j < k
  pub writes : writes_register (nth_insn insns j) r ≡ true
  pub none_between : (i : ℕ) → j < i → i < k → writes_register (nth_insn insns i) r ≡ false

-- ---- what all of them read and write

abbrev pub IsReadBy : Insn → ℕ → Type 0
IsReadBy insn r = IsTrue (reads_register insn r)

-- one of the instructions writes the register
pub record Write (insns : List Insn) (r : ℕ) : Type 0 where
  pub writer : Insn
  pub there : Contains insns writer
  pub writes : IsTrue (writes_register writer r)

-- The instructions read the register before they write it: one of them reads it, and none before that one writes it.
-- An instruction reads its operands before it writes its result.
pub record ReadFirst (insns : List Insn) (r : ℕ) : Type 0 where
  pub before : List Insn
  pub reader : Insn
  pub after : List Insn
  pub split : insns ≡ before ++ reader ∷ after
  pub reads : IsReadBy reader r
  pub unwritten : ¬ Write before r
