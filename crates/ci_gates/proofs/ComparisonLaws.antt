-- Differences and comparisons of words.
use Rattle.std.specs.Prelude.{◌≡◌, ℕ, ◌+◌, ◌-◌, ◌*◌, ◌%◌, ◌<◌, Bool, true, false, nat_lt, if◌then◌else◌}
use Rattle.std.proofs.Common.{refl, sym, arith}
use Rattle.std.proofs.lemmas.Bool.{lt-ltb, le-ltb}
use Rattle.ci_netlist.specs.Netlists.{differ, digit}
use Rattle.ci_netlist.proofs.NumberLaws.{low_digits}

-- with the complement in place of the right number
pub with_complement : (p bits carry left right complement : ℕ) → complement + right + 1 ≡ p → bits + p * carry ≡ left + complement + 1
    → bits + p * carry + right ≡ left + p
with_complement p bits carry left right complement is sum = omega (arith, is, sum)

pub difference_modulo : (p bits carry left right : ℕ) → bits < p → right < p → bits + p * carry + right ≡ left + p
    → bits ≡ (left + p - right) % p
difference_modulo p bits carry left right under right_under is =
    low_digits p bits carry (left + p - right) under (omega (arith, is, right_under))

-- without a carry the right number is greater
pub no_carry_is_less : (carry : Bool) (p bits left right : ℕ) → bits < p → left < p → bits + p * digit carry + right ≡ left + p
    → differ carry true ≡ nat_lt left right
no_carry_is_less true p bits left right under left_under is =
    sym (le-ltb left right (omega (arith, is, under)))
no_carry_is_less false p bits left right under left_under is =
    sym (lt-ltb left right (omega (arith, is, under)))

pub one_digit : (b : Bool) → digit b + 2 * 0 ≡ (if b then 1 else 0)
one_digit true = refl
one_digit false = refl
