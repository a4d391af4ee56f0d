-- Unit words that no `cput` stands directly before, for everybody.
use Rattle.std.specs.Prelude.{◌≡◌, ℕ, zero, suc, ◌<◌, ⊤, Bool, false, List, length}
use Rattle.ci_isa.specs.declared.instruction.Insn.{Insn}
use Rattle.ci_isa.specs.declared.instruction.Insn.TheVariants.{Unit}
use Rattle.ci_isa.specs.Effects.{is_cput}
use Rattle.ci_isa.specs.Sequences.{nth_insn}

-- a `cput` stands directly before this place
abbrev pub is_passed_to : List Insn → ℕ → Bool
is_passed_to insns zero = false
is_passed_to insns (suc k) = is_cput (nth_insn insns k)

-- the number of a unit word has the property
abbrev pub OfUnit : (ℕ → Type 0) → Insn → Type 0
OfUnit P (Unit number rd rs1 rs2 rs3) = P number
OfUnit P insn = ⊤

-- so does the number of each unit word that no `cput` stands directly before
abbrev pub OfBareWords : (ℕ → Type 0) → List Insn → Type 0
OfBareWords P insns = (k : ℕ) → k < length insns → is_passed_to insns k ≡ false → OfUnit P (nth_insn insns k)
