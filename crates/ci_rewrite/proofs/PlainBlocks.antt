-- A block of the plain table has no unit word.
use Rattle.std.specs.Prelude.{ℕ, ◌<◌, List, length}
use Rattle.ci_isa.specs.declared.instruction.Insn.{Insn}
use Rattle.ci_isa.specs.declared.instruction.Insn.TheVariants.{Unit}
use Rattle.ci_isa.specs.Sequences.{nth_insn}
use Rattle.ci_isa.specs.Table.{IsInsnAt}
use Rattle.ci_rewrite.specs.BareWords.{OfUnit}

uses_none : (P : ℕ → Type 0) (word : ℕ) (insn : Insn) → IsInsnAt word insn → OfUnit P insn
uses_none P word (Unit number rd rs1 rs2 rs3) at = absurd at.1
uses_none P word insn at = tt

-- so anything holds of the numbers of its unit words
pub plain_numbers : (insns : List Insn) (words : ℕ → ℕ) → ((k : ℕ) → k < length insns → IsInsnAt (words k) (nth_insn insns k))
    → (P : ℕ → Type 0) (k : ℕ) → k < length insns → OfUnit P (nth_insn insns k)
plain_numbers insns words reads P k below = uses_none P (words k) (nth_insn insns k) (reads k below)
