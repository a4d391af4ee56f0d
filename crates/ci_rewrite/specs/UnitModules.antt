-- Modules that compute the unit of a cut, and serve the unit words of a block, for everybody.
use Rattle.std.specs.Prelude.{◌≡◌, ℕ, ◌<◌, List, [], ◌∷◌, All, length, slice_get, Some}
use Rattle.ci_isa.specs.declared.instruction.Insn.{Insn}
use Rattle.ci_isa.specs.FieldBounds.{FieldsFit}
use Rattle.ci_isa.specs.Sequences.{nth_insn}
use Rattle.ci_elf.specs.WordLists.{AreWords}
use Rattle.ci_verilog.specs.Modules.{Module, IsModule}
use Rattle.ci_verilog.specs.Values.{IsValueOf}
use Rattle.ci_machine.specs.Extended.{HasModule, IsExtended}
use Rattle.ci_machine.specs.Steps.{Meaning}
use Rattle.ci_machine.specs.Words.{IsWord}
use Rattle.ci_unit.specs.Units.{Unit}
use Rattle.ci_rewrite.specs.BareWords.{OfBareWords}
use Rattle.ci_rewrite.specs.SameEffect.{Serve, ComputesUnit}
use Rattle.ci_rewrite.specs.ComputedUnits.{ComputeUnit}

-- ---- modules

-- there is a module for each unit word of the list
abbrev pub HaveModules : List Module → List Insn → Type 0
HaveModules modules insns = (k : ℕ) → k < length insns → HasModule modules (nth_insn insns k)

-- the module's value doesn't depend on d and e
abbrev pub IgnoresOperands : Module → Type 0
IgnoresOperands m =
    (a b c d e p q : ℕ) (results : List ℕ) → AreWords (a ∷ b ∷ c ∷ d ∷ e ∷ []) → IsWord p → IsWord q
    → IsValueOf m (a ∷ b ∷ c ∷ d ∷ e ∷ []) results → IsValueOf m (a ∷ b ∷ c ∷ p ∷ q ∷ []) results

-- so it is with the module of this number, if there is one
abbrev pub IgnoreOperands : List Module → ℕ → Type 0
IgnoreOperands modules number = (m : Module) → slice_get modules number ≡ Some m → IgnoresOperands m

-- The meaning is one of the extended machine with modules, among which are those of the unit words of a block, and that
-- of the number has the unit's value. For each unit word that no `cput` stands directly before, the value of its module
-- doesn't depend on d and e.
pub record HasUnits (modules : List Module) (meaning : Meaning) (insns : List Insn) (number : ℕ) (unit : Unit)
    : Type 0 where
  pub are_modules : All IsModule modules
  pub is_extended : IsExtended modules meaning
  pub have : HaveModules modules insns
  pub bare : OfBareWords (IgnoreOperands modules) insns
  pub compute : ComputeUnit modules number unit

-- ---- what such machines do

-- Their units serve lists of which they have the modules,
abbrev pub ModulesServe : Type 0
ModulesServe =
    (modules : List Module) (meaning : Meaning) → All IsModule modules → IsExtended modules meaning
    → (insns : List Insn) → ((k : ℕ) → k < length insns → FieldsFit (nth_insn insns k)) → HaveModules modules insns
    → OfBareWords (IgnoreOperands modules) insns → Serve meaning.units insns

-- and compute what their modules do.
abbrev pub ModulesCompute : Type 0
ModulesCompute =
    (modules : List Module) (meaning : Meaning) → All IsModule modules → IsExtended modules meaning
    → (number : ℕ) (unit : Unit) → ComputeUnit modules number unit → ComputesUnit meaning.units number unit
