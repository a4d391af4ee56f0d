-- Lists of registers: what they are without x0, the test of a register, and the set.
use Rattle.std.proofs.Common.{◌≡◌, ℕ, zero, suc, ◌+◌, ◌-◌, ◌<◌, Bool, false, List, [], ◌∷◌, ◌++◌, length, get_or, take}
use Rattle.std.proofs.Common.{refl, sym, ap, ◌∙◌, arith, inl, inr, append-nil}
use Rattle.std.specs.Prelude.{not, ◌==◌, ◌&&◌, ◌||◌, if◌then◌else◌, replicate}
use Rattle.std.specs.List.{list_any}
use Rattle.std.specs.Ordering.{nat_cmp, eq_by_cmp}
use Rattle.std.specs.FinSet as set
use Rattle.std.specs.Cmp.{nat_cmp_total, unsigned_tied}
use Rattle.std.proofs.lemmas.Bool.{cases_eq, ne_eqb}
use Rattle.std.proofs.lemmas.Bool.Decides.{nat_tests}
use Rattle.std.proofs.lemmas.List.{take_more}
use Rattle.std.proofs.lemmas.List.Elements.{filter-append}
use Rattle.ci_word.proofs.NumberLaws.{same_numbers}
use Rattle.ci_isa.specs.declared.instruction.Insn.{Insn}
use Rattle.ci_isa.specs.Effects.{operands, results, padded, is_kept, without_x0, is_among, reads_register}
use Rattle.ci_isa.specs.Effects.{writes_register}
use Rattle.ci_isa.specs.RegisterSets.{set_without_x0, registers_read, registers_written}

-- ---- x0

-- a test that x0 fails finds nothing more where x0 is among the registers
pub any_without_x0 : (p : ℕ → Bool) → p 0 ≡ false → (registers : List ℕ) → list_any p (without_x0 registers) ≡ list_any p registers
any_without_x0 p fails [] = refl
any_without_x0 p fails (r ∷ rest) =
    elim (cases_eq r 0) [
      | inl zero_register ↦ rw zero_register (any_without_x0 p fails rest ∙ ap (λ b. b || list_any p rest) (sym fails))
      | inr other ↦
          ap (λ b. list_any p (if not b then r ∷ without_x0 rest else without_x0 rest)) (ne_eqb r 0 other)
          ∙ ap (λ b. p r || b) (any_without_x0 p fails rest)
    ]

-- registers that are the same without x0 are the same ones
is_among_same : (left right : List ℕ) (r : ℕ) → without_x0 left ≡ without_x0 right → is_among left r ≡ is_among right r
is_among_same left right r same =
    elim (cases_eq r 0) [
      | inl zero_register ↦ rw zero_register refl
      | inr other ↦
          let fails : (0 == r) ≡ false = grind (arith, nat_tests) in
          ap (λ b. is_kept r && b) (sym (any_without_x0 (λ n. n == r) fails left) ∙ ap (list_any (λ n. n == r)) same ∙ any_without_x0 (λ n. n == r) fails right)
    ]

-- ---- lists that end in 0 for none

zeros_are_none : (count : ℕ) → without_x0 (replicate count 0) ≡ []
zeros_are_none zero = refl
zeros_are_none (suc count) = zeros_are_none count

pub without_padding : (count : ℕ) (registers : List ℕ) → without_x0 (padded count registers) ≡ without_x0 registers
without_padding count registers =
    filter-append is_kept registers (replicate (count - length registers) 0)
    ∙ ap (λ rest. without_x0 registers ++ rest) (zeros_are_none (count - length registers))
    ∙ append-nil (without_x0 registers)

-- ---- the set

-- the set of one number more
pub from_list_more : (numbers : List ℕ) (i : ℕ) (row : set.FinSet nat_cmp) → i < length numbers
    → row ≡ set.from_list (take i numbers) → set.insert row (get_or numbers i 0)
    ≡ set.from_list (take (i + 1) numbers)
from_list_more numbers i row within is =
    ap (λ (s : set.FinSet nat_cmp). set.insert s (get_or numbers i 0)) is
    ∙ sym (set.from_list_push nat_cmp_total set.nat_cmp-IsAntisymmetric (take i numbers) (get_or numbers i 0))
    ∙ ap set.from_list (sym (take_more numbers i 0 within))

-- ---- the set and the test

among_set : (registers : List ℕ) (r : ℕ) → is_among registers r ≡ set.contains (set_without_x0 registers) r
among_set registers r =
    ap (λ b. not b && list_any (λ n. n == r) registers) (sym (unsigned_tied r 0))
    ∙ ap (λ b. not (eq_by_cmp nat_cmp r 0) && b) (sym (set.contains-from_list_nat registers r))
    ∙ sym (set.contains-remove nat_cmp_total (set.from_list registers) 0 r)

-- the set of registers that are the same without x0
set_same : (left right : List ℕ) → without_x0 left ≡ without_x0 right → set_without_x0 left ≡ set_without_x0 right
set_same left right same =
    same_numbers (set_without_x0 left) (set_without_x0 right) (λ r. sym (among_set left r) ∙ is_among_same left right r same ∙ among_set right r)

pub set_without_padding : (count : ℕ) (registers : List ℕ) → set_without_x0 (padded count registers) ≡ set_without_x0 registers
set_without_padding count registers = set_same (padded count registers) registers (without_padding count registers)

pub reads_register_is : (insn : Insn) (r : ℕ) → reads_register insn r ≡ set.contains (registers_read insn) r
reads_register_is insn r = among_set (operands insn) r

pub writes_register_is : (insn : Insn) (r : ℕ) → writes_register insn r ≡ set.contains (registers_written insn) r
writes_register_is insn r = among_set (results insn) r
