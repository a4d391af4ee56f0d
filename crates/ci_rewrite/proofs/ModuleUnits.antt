-- The units of a machine with modules: they serve a block, and give what a cut's unit gives.
use Rattle.std.proofs.Common.{◌≡◌, ℕ, ◌<◌, refl, arith, sym, ◌∙◌, subst, lit<, List, [], ◌∷◌, length, Some, None, inl, inr}
use Rattle.std.specs.Prelude.{All, slice_get}
use Rattle.std.proofs.lemmas.Option.{slice_get_cases, get_or_from_slice_get}
use Rattle.ci_isa.specs.declared.instruction.Insn.{Insn}
use Rattle.ci_isa.specs.declared.instruction.Insn.TheVariants.{Lui, Unit}
use Rattle.ci_isa.specs.FieldBounds.{FieldsFit}
use Rattle.ci_isa.specs.Sequences.{nth_insn}
use Rattle.ci_elf.specs.WordLists.{AreWords}
use Rattle.ci_verilog.specs.Modules.{Module, IsModule}
use Rattle.ci_verilog.specs.Values.{IsValueOf}
use Rattle.ci_verilog.proofs.ValueLaws.{value_exists, value_is_one}
use Rattle.ci_machine.specs.Extended.{HasModule, IsExtended}
use Rattle.ci_machine.specs.Steps.{Meaning}
use Rattle.ci_machine.specs.Words.{MakesWords}
use Rattle.ci_machine.proofs.ExtendedMeaning.{five_words, units_give_words}
use Rattle.ci_machine.proofs.TestLaws.{some_is}
use Rattle.ci_unit.specs.Units as terms
use Rattle.ci_rewrite.specs.BareWords.{OfUnit}
use Rattle.ci_rewrite.specs.ComputedUnits.{ComputeUnit}
use Rattle.ci_rewrite.specs.SameEffect as machine
use Rattle.ci_rewrite.specs.UnitModules.{IgnoresOperands, IgnoreOperands, ModulesServe, ModulesCompute}

-- ---- the module of a number

module _ (modules : List Module) (number : ℕ) where
  -- there is a module at the number of one that is found
  found_below : (m : Module) → slice_get modules number ≡ Some m → number < length modules
  found_below m there = elim (slice_get_cases modules number).1 [
    | inl found ↦ found.1
    | inr past ↦ let never : None ≡ Some m = sym past.1 ∙ there in cc
  ]

  -- and one is found below their number
  module_at : number < length modules → (m : Module) × (slice_get modules number ≡ Some m)
  module_at below = elim (slice_get_cases modules number).1 [
    | inl found ↦ (found.0, found.2)
    | inr past ↦ absurd (omega (arith, past.0))
  ]

-- a module that is found is one
found_is : (modules : List Module) → All IsModule modules → (number : ℕ) (m : Module) → slice_get modules number ≡ Some m → IsModule m
found_is modules all number m there =
    subst IsModule (get_or_from_slice_get modules number m m there) (all number m (found_below modules number m there))

-- the module of a unit whose value no hidden operand changes ignores them
pub computing_ignores : (modules : List Module) → All IsModule modules → (number : ℕ) (unit : terms.Unit) → ComputeUnit modules number unit
    → ((a b c d e p q : ℕ) (given others : List ℕ)
    → terms.IsTripleOf unit (a ∷ b ∷ c ∷ d ∷ e ∷ []) given → terms.IsTripleOf unit (a ∷ b ∷ c ∷ p ∷ q ∷ []) others → given ≡ others)
    → IgnoreOperands modules number
computing_ignores modules all number unit compute alike m there = subst IgnoresOperands (some_is (sym compute.there ∙ there)) same
  where
    same : IgnoresOperands compute.computing
    same a b c d e p q results words p_word q_word value =
        let (others, other) =
        value_exists compute.computing (found_is modules all number compute.computing compute.there) (a ∷ b ∷ c ∷ p ∷ q ∷ []) in
        let also = five_words a b c p q (words 0) (words 1) (words 2) p_word q_word in
        subst (IsValueOf compute.computing (a ∷ b ∷ c ∷ p ∷ q ∷ []))
        (sym (alike a b c d e p q results others ((compute.value a b c d e results words).0 value) ((compute.value a b c p q others also).0 other)))
        other

-- ---- what the unit of a machine gives

module _ (modules : List Module) (meaning : Meaning) (all : All IsModule modules) (is : IsExtended modules meaning)
    (number : ℕ) (m : Module) (there : slice_get modules number ≡ Some m) where
  is_module : IsModule m
  is_module = found_is modules all number m there

  module _ (a b c d e : ℕ) (words : AreWords (a ∷ b ∷ c ∷ d ∷ e ∷ [])) where
    abbrev given : List ℕ
    given = meaning.units.results number (a ∷ b ∷ c ∷ d ∷ e ∷ [])

    computed : IsValueOf m (a ∷ b ∷ c ∷ d ∷ e ∷ []) given
    computed = is.computes number m there (a ∷ b ∷ c ∷ d ∷ e ∷ []) refl words

    -- the unit gives any value of the module
    gives : (results : List ℕ) → IsValueOf m (a ∷ b ∷ c ∷ d ∷ e ∷ []) results → given ≡ results
    gives results value = value_is_one m is_module (a ∷ b ∷ c ∷ d ∷ e ∷ []) given results computed value

  ignores : IgnoresOperands m → machine.IgnoresOperands meaning.units number
  ignores same a b c d e words =
      sym (gives a b c 0 0 (five_words a b c 0 0 (words 0) (words 1) (words 2) (lit< tt) (lit< tt)) (given a b c d e words)
      (same a b c d e 0 0 (given a b c d e words) words (lit< tt) (lit< tt) (computed a b c d e words)))

pub modules_serve : ModulesServe
modules_serve modules meaning all is insns fit have bare = record {
  operands = is.further;
  bare = λ k below none. ignore (nth_insn insns k) (have k below) (bare k below none);
  words = λ k below. makes_words (nth_insn insns k) (fit k below) (have k below);
}
  where
    ignore : (insn : Insn) → HasModule modules insn → OfUnit (IgnoreOperands modules) insn → OfUnit (machine.IgnoresOperands meaning.units) insn
    ignore (Unit number rd rs1 rs2 rs3) has same =
        let (m, there) = module_at modules number has in ignores modules meaning all is number m there (same m there)
    ignore insn has same = tt

    makes_words : (insn : Insn) → FieldsFit insn → HasModule modules insn → MakesWords meaning.units insn
    makes_words (Lui rd upper) fits has = fits.1
    makes_words (Unit number rd rs1 rs2 rs3) fits has = units_give_words modules all meaning is number has
    makes_words insn fits has = tt

pub modules_compute : ModulesCompute
modules_compute modules meaning all is number unit compute = record {
  words = units_give_words modules all meaning is number (found_below modules number compute.computing compute.there);
  value = λ a b c d e words.
      (compute.value a b c d e (meaning.units.results number (a ∷ b ∷ c ∷ d ∷ e ∷ [])) words).0
      (computed modules meaning all is number compute.computing compute.there a b c d e words);
}
