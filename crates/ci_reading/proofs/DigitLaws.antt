-- The number that digits of a base write, and the digits of numbers.
use Rattle.std.proofs.Common.{ap, ◌≡◌, ℕ, zero, suc, ◌+◌, ◌*◌, ◌/◌, ◌%◌, ◌^◌, ◌<◌, ◌≤◌, Bool, true, false, cond, eqb, List}
use Rattle.std.proofs.Common.{[], ◌∷◌, length, get_or, take, length-take, arith}
use Rattle.std.specs.Char.{digit_value}
use Rattle.std.specs.Str.Parse.{AllDigits, digits_value}
use Rattle.std.specs.Fmt.{digits, digits_onto, digit_glyph}
use Rattle.std.proofs.Math.Nat.{pow-suc, pow-le-pow_right}
use Rattle.std.proofs.lemmas.Int.Digits.{digits_value-lt, digits_value_more, digits_more}
use Rattle.std.proofs.lemmas.Bool.Decides.{nat_tests}
use Rattle.ci_reading.specs.Hex.{hex_digit, eight_hex_digits}

-- ---- from digits to a number

pub digit_at : (base : ℕ) (ds : List ℕ) (i : ℕ) → AllDigits base ds → i < length ds → digit_value (get_or ds i 0) < base
digit_at base [] i all lt = absurd (omega (arith, lt))
digit_at base (d ∷ ds) zero all lt = all.0
digit_at base (d ∷ ds) (suc i) all lt = digit_at base ds i all.1 (omega (arith, lt))

-- at most so many digits write a number below that power of the base
pub digits_below : (base most : ℕ) (ds : List ℕ) → 0 < base → length ds ≤ most → AllDigits base ds → digits_value base ds < base ^ most
digits_below base most ds some few all =
    omega (arith, digits_value-lt base ds all, pow-le-pow_right some few)

-- so does a digit more, where it is among them
pub digit_fits :
    (base most n digit : ℕ) (ds : List ℕ) (i : ℕ) → 0 < base → length ds ≤ most → i < length ds → AllDigits base (take i ds)
    → n ≡ digits_value base (take i ds) → digit ≡ digit_value (get_or ds i 0) → digit < base → n * base + digit < base ^ most
digit_fits base most n digit ds i some few lt all so_far value small =
    let short : length (take (i + 1) ds) ≤ most = omega (arith, length-take (i + 1) ds) in
    let below = digits_below base most (take (i + 1) ds) some short (digits_more base ds i lt all (omega (arith, small, value))) in
    let number : n * base ≡ digits_value base (take i ds) * base = ap (λ v. v * base) so_far in
    omega (arith, digits_value_more base ds i lt, below, number, value)

-- ---- from a number to digits

glyph_value : (d : ℕ) → d < 16 → digit_value (hex_digit d) ≡ d
glyph_value d small = grind (arith, nat_tests)

-- the digit at a place of the eight
eighth_value : (n k : ℕ) → digit_value (hex_digit (n / 16 ^ k % 16)) ≡ n / 16 ^ k % 16
eighth_value n k = glyph_value (n / 16 ^ k % 16) (omega arith)

eighth_small : (n k : ℕ) → digit_value (hex_digit (n / 16 ^ k % 16)) < 16
eighth_small n k = rw (eighth_value n k) (omega arith)

-- eight hex digits write their word
pub eight_hex_digits_value : (n : ℕ) → n < 2 ^ 32 → digits_value 16 (eight_hex_digits n) ≡ n
eight_hex_digits_value n small =
    rw (eighth_value n 7, eighth_value n 6, eighth_value n 5, eighth_value n 4, eighth_value n 3, eighth_value n 2, eighth_value n 1, eighth_value n 0)
    (by n small)
  where
    by :
        (n : ℕ) → n < 2 ^ 32
        → (((((((0 * 16 + n / 16 ^ 7 % 16) * 16 + n / 16 ^ 6 % 16) * 16 + n / 16 ^ 5 % 16) * 16 + n / 16 ^ 4 % 16) * 16 + n / 16 ^ 3 % 16) * 16
        + n / 16 ^ 2 % 16) * 16 + n / 16 ^ 1 % 16) * 16 + n / 16 ^ 0 % 16 ≡ n
    by n small = omega arith

pub eight_hex_digits_all : (n : ℕ) → AllDigits 16 (eight_hex_digits n)
eight_hex_digits_all n = (
  eighth_small n 7,
  (eighth_small n 6, (eighth_small n 5, (eighth_small n 4, (eighth_small n 3, (eighth_small n 2, (eighth_small n 1, (eighth_small n 0, tt))))))),
)

either_length : (b : Bool) (xs ys : List ℕ) (most : ℕ) → length xs ≤ most → length ys ≤ most → length (cond b xs ys) ≤ most
either_length true xs ys most first second = first
either_length false xs ys most first second = second

suc-add-one : (j : ℕ) → suc j + 1 ≡ suc (j + 1)
suc-add-one j = omega arith

length_onto : (j k n : ℕ) (acc : List ℕ) → n < 16 ^ (j + 1) → length (digits_onto k 16 false n acc) ≤ length acc + (j + 1)
length_onto j zero n acc small = omega arith
length_onto zero (suc k) n acc small =
    let last : eqb (n / 16) 0 ≡ true = grind (arith, nat_tests) in
    rw last (omega arith)
length_onto (suc j) (suc k) n acc small =
    let power : 16 ^ (suc j + 1) ≡ 16 ^ (j + 1) * 16 = rw (suc-add-one j) (pow-suc 16 (j + 1)) in
    let front : n / 16 < 16 ^ (j + 1) = omega arith in
    let others = length_onto j k (n / 16) (digit_glyph false (n % 16) ∷ acc) front in
    either_length (eqb (n / 16) 0) (digit_glyph false (n % 16) ∷ acc) _ (length acc + (suc j + 1)) (omega arith) (omega arith)

-- how many hex digits write a number
pub length_hex : (k n : ℕ) → n < 16 ^ (k + 1) → length (digits 16 false n) ≤ k + 1
unfolding digits
length_hex k n small = omega (arith, length_onto k 64 n [] small)
