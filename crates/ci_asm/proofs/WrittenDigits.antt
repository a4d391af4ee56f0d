-- The digits that a number is written by, and the name of a register, are read as these.
use Rattle.std.proofs.Common.{◌≡◌, ℕ, ◌+◌, ◌/◌, ◌%◌, ◌^◌, ◌<◌, ◌≤◌, true, false, nat_lt, List, [], ◌∷◌, ◌++◌, length, refl, ap, ◌∙◌, arith, Some, lit<, lit≤}
use Rattle.std.proofs.Common.{inl, inr}
use Rattle.std.specs.List.{AllByRecursion}
use Rattle.std.specs.Char.{digit_value}
use Rattle.std.specs.Str.Parse.{AllDigits, IsNumeral, digits_value}
use Rattle.std.specs.Fmt.{decimal, digits}
use Rattle.std.proofs.lemmas.Fmt.{decimal_is_IsNumeral, digits_is_IsNumeral, length-decimal-le, decimal_digit, decimal_step}
use Rattle.std.proofs.lemmas.Bool.{cases_lt}
use Rattle.std.proofs.lemmas.Bool.Decides.{nat_tests}
use Rattle.ci_reading.specs.Hex.{eight_hex_digits}
use Rattle.ci_reading.proofs.DigitLaws.{eight_hex_digits_value, eight_hex_digits_all, length_hex}
use Rattle.ci_asm.specs.private.Tokens.{is_digit, is_between, two_digits, register_at, has_one_digit, has_two_digits, register_of}
use Rattle.ci_asm.specs.Lexicon.{IsDigit, IsHexDigit, StartsWith}
use Rattle.ci_asm.specs.Shown.{register_name}
use Rattle.ci_asm.proofs.TestLaws.{pick_true}

-- one digit or more, and at most ten, which write the number
pub record AreDigitsOf (IsOne : ℕ → Type 0) (base n : ℕ) (written : List ℕ) : Type 0 where
  pub proper : StartsWith IsOne IsOne written
  pub value : digits_value base written ≡ n
  pub few : length written ≤ 10

each_digit : (IsOne : ℕ → Type 0) (base : ℕ) → ((c : ℕ) → digit_value c < base → IsOne c) → (written : List ℕ)
    → AllDigits base written → AllByRecursion IsOne written
each_digit IsOne base one [] all = tt
each_digit IsOne base one (d ∷ written) all = (one d all.0, each_digit IsOne base one written all.1)

digits_of : (IsOne : ℕ → Type 0) (base n : ℕ) → ((c : ℕ) → digit_value c < base → IsOne c) → (written : List ℕ)
    → IsNumeral base written → digits_value base written ≡ n → length written ≤ 10 → AreDigitsOf IsOne base n written
digits_of IsOne base n one [] numeral value few = absurd (omega (arith, numeral.0))
digits_of IsOne base n one (d ∷ written) numeral value few =
    record { proper = each_digit IsOne base one (d ∷ written) numeral.1; value = value; few = few }

digit_byte : (c : ℕ) → digit_value c < 10 → IsDigit c
digit_byte c h = grind (arith, nat_tests)

hex_byte : (c : ℕ) → digit_value c < 16 → IsHexDigit c
hex_byte c h = grind (arith, nat_tests)

-- ---- decimal digits

pub decimal_digits : (n : ℕ) → n < 2 ^ 32 → AreDigitsOf IsDigit 10 n (decimal n)
decimal_digits n below =
    let wide : n < 2 ^ 64 = omega arith in
    let small : n < 10 ^ 10 = omega arith in
    let numeral = decimal_is_IsNumeral n wide in
    digits_of IsDigit 10 n digit_byte (decimal n) numeral.0 numeral.1 (length-decimal-le 10 n (lit< tt) small wide)

-- ---- hex digits

pub hex_digits : (n : ℕ) → n < 16 ^ 5 → AreDigitsOf IsHexDigit 16 n (digits 16 false n)
hex_digits n h =
    let wide : n < 16 ^ 64 = omega arith in
    let numeral = digits_is_IsNumeral 16 false (lit≤ tt) (lit≤ tt) n wide in
    digits_of IsHexDigit 16 n hex_byte (digits 16 false n) numeral.0 numeral.1 (omega (arith, length_hex 4 n h))

pub eight_digits : (n : ℕ) → n < 2 ^ 32 → AreDigitsOf IsHexDigit 16 n (eight_hex_digits n)
eight_digits n h = record {
  proper = each_digit IsHexDigit 16 hex_byte (eight_hex_digits n) (eight_hex_digits_all n);
  value = eight_hex_digits_value n h;
  few = omega arith;
}

-- ---- registers

register_at-below : (n : ℕ) → n < 32 → register_at n ≡ Some n
register_at-below n h =
    let yes : nat_lt n 32 ≡ true = grind (arith, nat_tests) in
    rw yes refl

one_digit : (n : ℕ) → n < 10 → register_of (120 ∷ (48 + n) ∷ []) ≡ Some n
unfolding register_of
one_digit n h =
    let digit : is_digit (48 + n) ≡ true = grind (arith, nat_tests) in
    let value : two_digits 48 (48 + n) ≡ n = omega arith in
    pick_true (has_one_digit (120 ∷ (48 + n) ∷ [])) _ _ digit ∙ (ap register_at value ∙ register_at-below n (omega arith))

more_digits : (n : ℕ) → 10 ≤ n → n < 32 → register_of (120 ∷ (48 + n / 10) ∷ (48 + n % 10) ∷ []) ≡ Some n
unfolding register_of
more_digits n many h =
    let tens : is_between 49 57 (48 + n / 10) ≡ true = grind (arith, nat_tests) in
    let ones : is_digit (48 + n % 10) ≡ true = grind (arith, nat_tests) in
    let value : two_digits (48 + n / 10) (48 + n % 10) ≡ n = omega arith in
    let text = 120 ∷ (48 + n / 10) ∷ (48 + n % 10) ∷ [] in
    let two : has_two_digits text ≡ true = rw (tens, ones) refl in
    pick_true (has_two_digits text) _ _ two ∙ (ap register_at value ∙ register_at-below n h)

pub register_of-name : (n : ℕ) → n < 32 → register_of (register_name n) ≡ Some n
register_of-name n h =
    let wide : n < 2 ^ 64 = omega arith in
    elim (cases_lt n 10) [
      | inl few ↦ ap (λ ds. register_of (120 ∷ ds)) (decimal_digit n few) ∙ one_digit n few
      | inr many ↦ ap (λ ds. register_of (120 ∷ ds)) (decimal_step n many wide ∙ ap (λ ds. ds ++ (48 + n % 10) ∷ []) (decimal_digit (n / 10) (omega arith)))
          ∙ more_digits n many h
    ]
