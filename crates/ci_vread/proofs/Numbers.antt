-- Decimal digits that write a number, and those that write none.
use Rattle.std.proofs.Common.{◌≡◌, ◌≢◌, ℕ, zero, suc, ◌+◌, ◌*◌, ◌/◌, ◌%◌, ◌^◌, ◌<◌, ◌≤◌, ◌⊎◌, inl, inr, true, false, ◌&&◌, ◌||◌, not, eqb, ltb, List}
use Rattle.std.proofs.Common.{[], ◌∷◌, length, refl, sym, ap, subst, arith, lit<}
use Rattle.std.specs.Fmt.{decimal, digits, digits_onto, digit_glyph}
use Rattle.std.specs.Str.Parse.{AllDigits, IsNumeral, digits_value}
use Rattle.std.proofs.Math.Nat.{pow-suc, one-le-pow}
use Rattle.std.proofs.lemmas.Bool.{and_parts, cases_lt, cond_both, false_from_ne_true}
use Rattle.std.proofs.lemmas.Bool.Decides.{nat_tests}
use Rattle.std.proofs.lemmas.Fmt.{decimal_is_IsNumeral, decimal_digit, first_decimal, decimal-digits_value}
use Rattle.std.proofs.lemmas.Str.Parse.{IsNumeralModel}
use Rattle.ci_reading.proofs.DigitLaws.{digits_below}
use Rattle.ci_vread.specs.Lexicon.{IsNumber}
use Rattle.ci_vread.specs.private.Scanning.{byte_at, is_good}
use Rattle.ci_vread.proofs.Runs.{true_is_not_false}

own : IsNumeralModel (AllDigits 10) (digits_value 10)
own = record { to = λ ds all. all; from = λ ds all. all; same = λ ds all. refl }

-- good digits write their number
pub good_number : (ds : List ℕ) → AllDigits 10 ds → is_good ds ≡ true → IsNumber ds (digits_value 10 ds)
good_number ds all good =
    let both = and_parts (ltb 0 (length ds) && ltb (length ds) 8) (eqb (length ds) 1 || not (eqb (byte_at ds 0) 48)) good in
    let sizes = and_parts (ltb 0 (length ds)) (ltb (length ds) 8) both.0 in
    let some : 0 < length ds = grind (arith, nat_tests) in
    let few : length ds ≤ 7 = grind (arith, nat_tests) in
    let alone : byte_at ds 0 ≡ 48 → length ds ≡ 1 = λ e. by e both.1 in
    let below : digits_value 10 ds < 10 ^ 7 = digits_below 10 7 ds (lit< tt) few all in
    let wide : digits_value 10 ds < 2 ^ 64 = omega arith in
    (sym (decimal-digits_value own ds all some alone wide), few)
  where
    by : byte_at ds 0 ≡ 48 → (eqb (length ds) 1 || not (eqb (byte_at ds 0) 48)) ≡ true → length ds ≡ 1
    by first e = grind (arith, nat_tests)

-- digits stand before those that were written
onto_longer : (k n : ℕ) (acc : List ℕ) → length acc ≤ length (digits_onto k 10 false n acc)
onto_longer zero n acc = omega arith
onto_longer (suc k) n acc =
    let others = onto_longer k (n / 10) (digit_glyph false (n % 10) ∷ acc) in
    cond_both (eqb (n / 10) 0) _ _ (λ ds. length acc ≤ length ds) (λ e. omega arith) (λ e. omega arith)

many_digits : (j k n : ℕ) (acc : List ℕ) → 10 ^ j ≤ n → j < k → length acc + j < length (digits_onto k 10 false n acc)
many_digits j zero n acc large less = absurd (omega arith)
many_digits zero (suc k) n acc large less =
    let others = onto_longer k (n / 10) (digit_glyph false (n % 10) ∷ acc) in
    cond_both (eqb (n / 10) 0) _ _ (λ ds. length acc + 0 < length ds) (λ e. omega arith) (λ e. omega arith)
many_digits (suc j) (suc k) n acc large less =
    let power : 10 ^ suc j ≡ 10 ^ j * 10 = pow-suc 10 j in
    let some : 1 ≤ 10 ^ j = one-le-pow j 10 (lit< tt) in
    let front : 10 ^ j ≤ n / 10 = omega arith in
    let not_last : eqb (n / 10) 0 ≡ false = grind (arith, nat_tests) in
    let others = many_digits j k (n / 10) (digit_glyph false (n % 10) ∷ acc) front (omega arith) in
    rw not_last (omega arith)

-- at most seven digits write a number below ten million
few_below : (n : ℕ) → length (decimal n) ≤ 7 → n < 10 ^ 7
unfolding digits
few_below n few = elim (cases_lt n (10 ^ 7)) [
  | inl below ↦ below
  | inr above ↦ absurd (omega (arith, many_digits 7 64 n [] above (lit< tt)))
]

-- what digits that write a number are
pub record IsGood (ds : List ℕ) (n : ℕ) : Type 0 where
  pub numeral : IsNumeral 10 ds
  pub good : is_good ds ≡ true
  pub value : digits_value 10 ds ≡ n
  pub below : n < 10 ^ 7
  pub few : length ds ≤ 7

first_digit : (n : ℕ) → n < 2 ^ 64 → (length (decimal n) ≡ 1) ⊎ (byte_at (decimal n) 0 ≢ 48)
first_digit zero wide = inl (ap length (decimal_digit 0 (lit< tt)))
first_digit (suc n) wide = let first = first_decimal (suc n) (omega arith) wide in inr (λ e. omega arith)

pub number_good : (ds : List ℕ) (n : ℕ) → IsNumber ds n → IsGood ds n
number_good ds n is =
    let few : length (decimal n) ≤ 7 = omega (arith, ap length is.0) in
    let below = few_below n few in
    let wide : n < 2 ^ 64 = omega arith in
    let numeral = decimal_is_IsNumeral n wide in
    subst (λ b. IsGood b n) (sym is.0)
    (record { numeral = numeral.0; good = by few numeral.0.0 (first_digit n wide); value = numeral.1; below = below; few = few })
  where
    by : length (decimal n) ≤ 7 → 0 < length (decimal n) → (length (decimal n) ≡ 1) ⊎ (byte_at (decimal n) 0 ≢ 48) → is_good (decimal n) ≡ true
    by few some (inl one) = grind (arith, nat_tests)
    by few some (inr first) = grind (arith, nat_tests)

-- digits that are not good write no number
pub bad_digits : (ds : List ℕ) → is_good ds ≡ false → (n : ℕ) → ¬ IsNumber ds n
bad_digits ds bad n is = true_is_not_false (number_good ds n is).good bad

-- and digits that write none are not good
pub not_good : (ds : List ℕ) → AllDigits 10 ds → ((n : ℕ) → ¬ IsNumber ds n) → is_good ds ≡ false
not_good ds all none = false_from_ne_true (is_good ds) (λ e. none (digits_value 10 ds) (good_number ds all e))
