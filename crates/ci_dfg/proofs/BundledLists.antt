-- Lists whose bundles are whole.
use Rattle.std.proofs.Common.{◌≡◌, ℕ, zero, suc, ◌<◌, refl, sym, ap, subst, ◌∙◌, arith, List, [], ◌∷◌, length, true≢false}
use Rattle.std.specs.Prelude.{true, false}
use Rattle.std.proofs.lemmas.List.{get_or_past}
use Rattle.ci_isa.specs.declared.instruction.Insn.{Insn}
use Rattle.ci_isa.specs.declared.instruction.Insn.TheVariants.{Unit, Cread, Cput, Ebreak}
use Rattle.ci_isa.specs.FieldBounds.{FieldsFit}
use Rattle.ci_isa.specs.Effects.{is_unit, is_cread, is_cput}
use Rattle.ci_isa.specs.Sequences.{nth_insn}
use Rattle.ci_dfg.specs.Bundles.{AreBundled, is_read_of, Before, a_put, a_unit, a_first, another, left_by, may_read}
use Rattle.ci_dfg.specs.Bundles.{MayFollow, IsDone, Bundled, before_at}

-- ---- by place

pub by_place : (before : Before) (insns : List Insn) → Bundled before insns → (k : ℕ) → k < length insns
    → MayFollow (before_at before insns k) (nth_insn insns k)
by_place before [] bundled k below = absurd (omega arith)
by_place before (insn ∷ insns) bundled zero below = bundled.0
by_place before (insn ∷ insns) bundled (suc zero) below = by_place (left_by insn) insns bundled.1 zero (omega arith)
by_place before (insn ∷ insns) bundled (suc (suc k)) below = by_place (left_by insn) insns bundled.1 (suc k) (omega arith)

-- a `cput` isn't the last
pub put_goes_on : (before : Before) (insns : List Insn) → Bundled before insns → (k : ℕ) → k < length insns → is_cput (nth_insn insns k) ≡ true
    → is_unit (nth_insn insns (suc k)) ≡ true
put_goes_on before [] bundled k below is = absurd (omega arith)
put_goes_on before (Cput rs1 rs2 ∷ []) bundled zero below is = absurd bundled.1
put_goes_on before (Cput rs1 rs2 ∷ Unit number rd a b c ∷ insns) bundled zero below is = refl
put_goes_on before (Cput rs1 rs2 ∷ insn ∷ insns) bundled zero below is = absurd bundled.1.0
put_goes_on before (insn ∷ insns) bundled zero below is = cc
put_goes_on before (insn ∷ insns) bundled (suc k) below is = put_goes_on (left_by insn) insns bundled.1 k (omega arith) is

unit_left : (insn : Insn) → left_by insn ≡ a_unit → is_unit insn ≡ true
unit_left (Unit number rd rs1 rs2 rs3) is = refl
unit_left (Cread rd zero) is = cc
unit_left (Cread rd (suc index)) is = cc
unit_left insn is = cc

first_left : (insn : Insn) → left_by insn ≡ a_first → is_read_of 0 insn
first_left (Cread rd zero) is = refl
first_left (Cread rd (suc index)) is = cc
first_left insn is = cc

read_behind : (before : Before) (n : ℕ) (insn : Insn) → is_read_of n insn → MayFollow before insn → may_read before n
read_behind a_put n (Cread rd index) is may = absurd may
read_behind a_unit n (Cread rd index) is may = sym is ∙ may
read_behind a_first n (Cread rd index) is may = sym is ∙ may
read_behind another n (Cread rd index) is may = absurd may
read_behind before n insn is may = absurd is

behind_unit : (before : Before) → may_read before 0 → before ≡ a_unit
behind_unit a_put is = absurd is
behind_unit a_unit is = refl
behind_unit a_first is = absurd (let never : 0 ≡ 1 = is in cc)
behind_unit another is = absurd is

behind_first : (before : Before) → may_read before 1 → before ≡ a_first
behind_first a_put is = absurd is
behind_first a_unit is = absurd (let never : 1 ≡ 0 = is in cc)
behind_first a_first is = refl
behind_first another is = absurd is

-- ---- the two forms of the rule

pub bundled_is : (insns : List Insn) → Bundled another insns → AreBundled insns
bundled_is insns bundled = record {
  put = put_goes_on another insns bundled;
  first = λ k below is. behind_a_unit k (behind_unit (before_at another insns k) (may_stand k 0 below is));
  second = λ k below is. behind_a_first k (behind_first (before_at another insns k) (may_stand k 1 below is));
}
  where
    may_stand : (k n : ℕ) → k < length insns → is_read_of n (nth_insn insns k) → may_read (before_at another insns k) n
    may_stand k n below is = read_behind (before_at another insns k) n (nth_insn insns k) is (by_place another insns bundled k below)

    behind_a_unit : (k : ℕ) → before_at another insns k ≡ a_unit → (u : ℕ) × (k ≡ suc u) × (is_unit (nth_insn insns u) ≡ true)
    behind_a_unit zero is = cc
    behind_a_unit (suc u) is = (u, refl, unit_left (nth_insn insns u) is)

    behind_a_first : (k : ℕ) → before_at another insns k ≡ a_first → (u : ℕ) × (k ≡ suc u) × is_read_of 0 (nth_insn insns u)
    behind_a_first zero is = cc
    behind_a_first (suc u) is = (u, refl, first_left (nth_insn insns u) is)

from_places : (before : Before) (insns : List Insn)
    → ((k : ℕ) → k < length insns → MayFollow (before_at before insns k) (nth_insn insns k))
    → IsDone (before_at before insns (length insns)) → Bundled before insns
from_places before [] follow done = done
from_places before (insn ∷ insns) follow done =
    (follow 0 (omega arith), from_places (left_by insn) insns rest (subst IsDone (sym (behind (length insns))) done))
  where
    behind : (k : ℕ) → before_at (left_by insn) insns k ≡ before_at before (insn ∷ insns) (suc k)
    behind zero = refl
    behind (suc k) = refl

    rest : (k : ℕ) → k < length insns → MayFollow (before_at (left_by insn) insns k) (nth_insn insns k)
    rest k below = subst (λ b. MayFollow b (nth_insn insns k)) (sym (behind k)) (follow (suc k) (omega arith))

-- what stands behind a word, by what each of the two asks of the other
follows : (first second : Insn) → FieldsFit second → (is_cput first ≡ true → is_unit second ≡ true)
    → (is_read_of 0 second → is_unit first ≡ true) → (is_read_of 1 second → is_read_of 0 first) → MayFollow (left_by first) second
follows (Cput rs1 rs2) (Unit number rd a b c) fit put one two = tt
follows (Cput rs1 rs2) second fit put one two = absurd (true≢false (sym (put refl)))
follows (Unit number rd a b c) (Cread q zero) fit put one two = refl
follows first (Cread q zero) fit put one two = absurd (true≢false (sym (one refl)))
follows (Cread rd zero) (Cread q (suc zero)) fit put one two = refl
follows (Cread rd (suc n)) (Cread q (suc zero)) fit put one two = absurd (let never : suc n ≡ 0 = two refl in cc)
follows first (Cread q (suc zero)) fit put one two = absurd (two refl)
follows first (Cread q (suc (suc index))) fit put one two = absurd (let low = fit.1 in omega arith)
follows (Cread rd zero) second fit put one two = tt
follows (Cread rd (suc n)) second fit put one two = tt
follows first second fit put one two = tt

-- where each word is one of the table
pub is_bundled : (insns : List Insn) → ((k : ℕ) → k < length insns → FieldsFit (nth_insn insns k)) → AreBundled insns → Bundled another insns
is_bundled insns fit are = from_places another insns each (done (length insns) refl)
  where
    at_front : (insn : Insn) → FieldsFit insn → (is_read_of 0 insn → ⊥) → (is_read_of 1 insn → ⊥) → MayFollow another insn
    at_front (Cread rd zero) fits one two = absurd (one refl)
    at_front (Cread rd (suc zero)) fits one two = absurd (two refl)
    at_front (Cread rd (suc (suc index))) fits one two = absurd (let low = fits.1 in omega arith)
    at_front insn fits one two = tt

    each : (k : ℕ) → k < length insns → MayFollow (before_at another insns k) (nth_insn insns k)
    each zero below =
        at_front (nth_insn insns 0) (fit 0 below)
        (λ is. let (u, never, unit) = are.first 0 below is in cc) (λ is. let (u, never, read) = are.second 0 below is in cc)
    each (suc k) below =
        follows (nth_insn insns k) (nth_insn insns (suc k)) (fit (suc k) below) (are.put k (omega arith))
        (λ is. let (u, same, unit) = are.first (suc k) below is in subst (λ j. is_unit (nth_insn insns j) ≡ true) (pred same) unit)
        (λ is. let (u, same, read) = are.second (suc k) below is in subst (λ j. is_read_of 0 (nth_insn insns j)) (pred same) read)
      where
        pred : {a b : ℕ} → suc a ≡ suc b → b ≡ a
        pred same = omega (arith, same)

    goes_on : (insn : Insn) → (is_cput insn ≡ true → ⊥) → IsDone (left_by insn)
    goes_on (Cput rs1 rs2) never = absurd (never refl)
    goes_on (Cread rd zero) never = tt
    goes_on (Cread rd (suc index)) never = tt
    goes_on insn never = tt

    done : (k : ℕ) → k ≡ length insns → IsDone (before_at another insns k)
    done zero same = tt
    done (suc k) same =
        goes_on (nth_insn insns k) (λ put.
        true≢false (sym (are.put k (omega (arith, same)) put) ∙ ap is_unit (get_or_past insns (suc k) Ebreak (omega (arith, same)))))

-- ---- blocks without `cput` and `cread`

plain_follows : (before : Before) (insn : Insn) → IsDone before → is_cput insn ≡ false → is_cread insn ≡ false
    → MayFollow before insn × IsDone (left_by insn)
plain_follows a_put insn done put read = absurd done
plain_follows before (Cput rs1 rs2) done put read = cc
plain_follows before (Cread rd index) done put read = cc
plain_follows a_unit insn done put read = (tt, tt)
plain_follows a_first insn done put read = (tt, tt)
plain_follows another insn done put read = (tt, tt)

plain_behind : (before : Before) (insns : List Insn) → IsDone before
    → ((k : ℕ) → k < length insns → (is_cput (nth_insn insns k) ≡ false) × (is_cread (nth_insn insns k) ≡ false)) → Bundled before insns
plain_behind before [] done plain = done
plain_behind before (insn ∷ insns) done plain =
    let (put, read) = plain 0 (omega arith) in
    let (follows, ends) = plain_follows before insn done put read in
    (follows, plain_behind (left_by insn) insns ends (λ k below. plain (suc k) (omega arith)))

pub plain_is_bundled : (insns : List Insn)
    → ((k : ℕ) → k < length insns → (is_cput (nth_insn insns k) ≡ false) × (is_cread (nth_insn insns k) ≡ false)) → Bundled another insns
plain_is_bundled insns plain = plain_behind another insns tt plain
