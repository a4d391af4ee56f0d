-- What registers hold after a write, and what a set of registers says of one of them.
use Rattle.std.proofs.Common.{◌≡◌, ℕ, refl, sym, ◌∙◌, arith, List, [], ◌∷◌}
use Rattle.std.specs.Prelude.{Bool, true, false, ◌==◌, ◌&&◌, ◌||◌, if◌then◌else◌, drop}
use Rattle.std.specs.List.{list_any}
use Rattle.std.proofs.lemmas.Bool.Decides.{nat_tests}
use Rattle.ci_machine.specs.Cores.{Core, register, with_register, values_in, with_registers}
use Rattle.ci_isa.specs.Effects.{is_among, is_kept}
use Rattle.ci_machine.specs.Agreement.{AgreeOn}
use Rattle.ci_machine.proofs.TestLaws.{by_test, neither_first, neither_second, either_second, or_second}

pub register_kept : (core : Core) (r value q : ℕ) → is_among (r ∷ []) q ≡ false → register (with_register core r value) q ≡ register core q
register_kept core r value q other = grind (arith, nat_tests)

pub register_written : (core : Core) (r value q : ℕ) → is_among (r ∷ []) q ≡ true → register (with_register core r value) q ≡ value
register_written core r value q same = grind (arith, nat_tests)

-- a write to x0 changes nothing
pub x0_stays : (core : Core) (value : ℕ) → with_register core 0 value ≡ core
x0_stays core value i = record core { registers = λ n. dropped (n == 0) value (core.registers n) i }
  where
    dropped : (b : Bool) (v x : ℕ) → (if b && false then v else x) ≡ x
    dropped true v x = refl
    dropped false v x = refl

pub first_there : (r : ℕ) (more : List ℕ) → list_any (λ n. n == r) (r ∷ more) ≡ true
first_there r more = grind (arith, nat_tests)

pub second_there : (a r : ℕ) (more : List ℕ) → list_any (λ n. n == r) (a ∷ r ∷ more) ≡ true
second_there a r more = grind (arith, nat_tests)

pub operands_agree : (registers : List ℕ) (left right : Core) (r : ℕ) → AgreeOn (is_among registers) left right
    → list_any (λ n. n == r) registers ≡ true → register left r ≡ register right r
operands_agree registers left right r agree there = grind (arith, nat_tests, agree r)

-- ---- lists of registers

-- a register of a list is the first of it, or one behind that
first_or_more : (r : ℕ) (more : List ℕ) (q : ℕ) → is_among (r ∷ more) q ≡ (is_among (r ∷ []) q || is_among more q)
first_or_more r more q = regrouped (is_kept q) (r == q) (list_any (λ n. n == q) more)
  where
    regrouped : (kept same there : Bool) → (kept && (same || there)) ≡ ((kept && (same || false)) || (kept && there))
    regrouped kept same there = grind arith

pub values_agree : (registers : List ℕ) (left right : Core) → AgreeOn (is_among registers) left right → values_in left registers ≡ values_in right registers
values_agree [] left right agree = refl
values_agree (r ∷ more) left right agree =
    let first = operands_agree (r ∷ more) left right r agree (first_there r more) in
    let rest = values_agree more left right (λ q is. agree q (first_or_more r more q ∙ either_second (is_among (r ∷ []) q) _ is)) in
    λ i. first i ∷ rest i

pub registers_kept : (registers values : List ℕ) (core : Core) (q : ℕ) → is_among registers q ≡ false
    → register (with_registers core registers values) q ≡ register core q
registers_kept [] values core q other = refl
registers_kept (r ∷ more) values core q other =
    let none = sym (first_or_more r more q) ∙ other in
    let rest = drop 1 values in
    register_kept (with_registers core more rest) r _ q (neither_first (is_among (r ∷ []) q) _ none)
    ∙ registers_kept more rest core q (neither_second (is_among (r ∷ []) q) _ none)

pub registers_written : (registers values : List ℕ) (left right : Core) (q : ℕ) → is_among registers q ≡ true
    → register (with_registers left registers values) q ≡ register (with_registers right registers values) q
registers_written [] values left right q is = absurd (never (is_kept q) is)
  where
    never : (kept : Bool) → (kept && false) ≡ true → ⊥
    never kept is = grind arith
registers_written (r ∷ more) values left right q is =
    let rest = drop 1 values in
    let on_left = with_registers left more rest in
    let on_right = with_registers right more rest in
    by_test (is_among (r ∷ []) q)
    (λ here. register_written on_left r _ q here ∙ sym (register_written on_right r _ q here))
    (λ other.
    register_kept on_left r _ q other
    ∙ registers_written more rest left right q (or_second (is_among (r ∷ []) q) _ (sym (first_or_more r more q) ∙ is) other)
    ∙ sym (register_kept on_right r _ q other))
