-- Unit words that no `cput` stands directly before: by place, and along the list.
use Rattle.std.specs.Prelude.{◌≡◌, ℕ, zero, suc, ◌<◌, Bool, true, false, not, ◌&&◌, ◌==◌, List, [], ◌∷◌, length}
use Rattle.std.proofs.Common.{refl, sym, ap, ◌∙◌, subst, arith, true≢false}
use Rattle.std.proofs.lemmas.Bool.{and_parts, and_from, eqb-true, eq-eqb}
use Rattle.ci_word.specs.Numbers.{some_below}
use Rattle.ci_word.proofs.NumberLaws.{some_below_iff}
use Rattle.ci_isa.specs.declared.instruction.Insn.{Insn}
use Rattle.ci_isa.specs.declared.instruction.Insn.TheVariants.{Unit, Cread, Cput}
use Rattle.ci_isa.specs.Effects.{is_cput}
use Rattle.ci_isa.specs.Sequences.{nth_insn}
use Rattle.ci_dfg.specs.Bundles.{Before, another, left_by, before_at}
use Rattle.ci_rewrite.specs.private.Follows.{MayStand, Follow}
use Rattle.ci_unit.proofs.SourceLaws.{not_true}
use Rattle.ci_rewrite.specs.BareWords.{is_passed_to, OfUnit, OfBareWords}
use Rattle.ci_rewrite.proofs.FollowLaws.{follow_place, may_stand_anywhere}

-- ---- lists

-- what holds of each place holds along the list
along : (Q : Before → Insn → Type 0) (before : Before) (insns : List Insn)
    → ((k : ℕ) → k < length insns → Q (before_at before insns k) (nth_insn insns k)) → Follow Q before insns
along Q before [] each = tt
along Q before (insn ∷ insns) each = (each 0 (omega arith), along Q (left_by insn) insns later)
  where
    later : (k : ℕ) → k < length insns → Q (before_at (left_by insn) insns k) (nth_insn insns k)
    later zero below = each 1 (omega arith)
    later (suc k) below = each (suc (suc k)) (omega arith)

module _ (P : ℕ → Type 0) where
  -- behind an instruction
  may_from : (before insn : Insn) → (is_cput before ≡ false → OfUnit P insn) → MayStand P (left_by before) insn
  may_from (Cput rs1 rs2) insn of = tt
  may_from (Unit m rd rs1 rs2 rs3) (Unit number d r1 r2 r3) of = of refl
  may_from (Unit m rd rs1 rs2 rs3) insn of = tt
  may_from (Cread rd zero) (Unit number d r1 r2 r3) of = of refl
  may_from (Cread rd zero) insn of = tt
  may_from (Cread rd (suc index)) (Unit number d r1 r2 r3) of = of refl
  may_from (Cread rd (suc index)) insn of = tt
  may_from before (Unit number d r1 r2 r3) of = of refl
  may_from before insn of = tt

  of_from : (before insn : Insn) → MayStand P (left_by before) insn → is_cput before ≡ false → OfUnit P insn
  of_from (Cput rs1 rs2) insn may none = cc
  of_from (Unit m rd rs1 rs2 rs3) (Unit number d r1 r2 r3) may none = may
  of_from (Unit m rd rs1 rs2 rs3) insn may none = tt
  of_from (Cread rd zero) (Unit number d r1 r2 r3) may none = may
  of_from (Cread rd zero) insn may none = tt
  of_from (Cread rd (suc index)) (Unit number d r1 r2 r3) may none = may
  of_from (Cread rd (suc index)) insn may none = tt
  of_from before (Unit number d r1 r2 r3) may none = may
  of_from before insn may none = tt

  -- at the front
  may_first : (insn : Insn) → OfUnit P insn → MayStand P another insn
  may_first (Unit number d r1 r2 r3) of = of
  may_first insn of = tt

  of_first : (insn : Insn) → MayStand P another insn → OfUnit P insn
  of_first (Unit number d r1 r2 r3) may = may
  of_first insn may = tt

  module _ (insns : List Insn) where
    pub bare_along : OfBareWords P insns → Follow (MayStand P) another insns
    bare_along bare = along (MayStand P) another insns at
      where
        at : (k : ℕ) → k < length insns → MayStand P (before_at another insns k) (nth_insn insns k)
        at zero below = may_first (nth_insn insns 0) (bare 0 below refl)
        at (suc k) below = may_from (nth_insn insns k) (nth_insn insns (suc k)) (bare (suc k) below)

    pub bare_by_place : Follow (MayStand P) another insns → OfBareWords P insns
    bare_by_place follow zero below none =
        of_first (nth_insn insns 0) (follow_place (MayStand P) (may_stand_anywhere P) another insns follow 0 below)
    bare_by_place follow (suc k) below none =
        of_from (nth_insn insns k) (nth_insn insns (suc k)) (follow_place (MayStand P) (may_stand_anywhere P) another insns follow (suc k) below) none

-- what holds at each place holds of the bare words
pub of_bare : (P : ℕ → Type 0) (insns : List Insn) → ((k : ℕ) → k < length insns → OfUnit P (nth_insn insns k)) → OfBareWords P insns
of_bare P insns each k below none = each k below

-- ---- numbers

-- a unit word of this number
abbrev is_number : ℕ → Insn → Bool
is_number m (Unit number rd rs1 rs2 rs3) = number == m
is_number m insn = false

-- a unit word of this number stands bare in the list
abbrev pub stands_bare : List Insn → ℕ → Bool
stands_bare insns m = some_below (length insns) (λ k. not (is_passed_to insns k) && is_number m (nth_insn insns k))

number_of : (P : ℕ → Type 0) (m : ℕ) (insn : Insn) → is_number m insn ≡ true → OfUnit P insn → P m
number_of P m (Unit number rd rs1 rs2 rs3) is of = subst P (eqb-true number m is) of
number_of P m insn is of = absurd (true≢false (sym is))

-- so it has what all such have
pub bare_has : (P : ℕ → Type 0) (insns : List Insn) → OfBareWords P insns → (m : ℕ) → stands_bare insns m ≡ true → P m
bare_has P insns bare m is =
    let (k, below, found) = (some_below_iff (length insns) (λ k. not (is_passed_to insns k) && is_number m (nth_insn insns k))).0 is in
    let (unpassed, numbered) = and_parts (not (is_passed_to insns k)) (is_number m (nth_insn insns k)) found in
    number_of P m (nth_insn insns k) numbered (bare k below (not_true (is_passed_to insns k) unpassed))

-- and what all have that stand bare holds of the bare words
pub bare_from : (P : ℕ → Type 0) (insns : List Insn) → ((m : ℕ) → stands_bare insns m ≡ true → P m) → OfBareWords P insns
bare_from P insns each k below none = of (nth_insn insns k) refl
  where
    of : (insn : Insn) → nth_insn insns k ≡ insn → OfUnit P insn
    of (Unit number rd rs1 rs2 rs3) same = each number
        ((some_below_iff (length insns) (λ j. not (is_passed_to insns j) && is_number number (nth_insn insns j))).1 (
          k,
          below,
          and_from (not (is_passed_to insns k)) (is_number number (nth_insn insns k)) (ap not none)
              (ap (is_number number) same ∙ eq-eqb number number refl),
        ))
    of insn same = tt
