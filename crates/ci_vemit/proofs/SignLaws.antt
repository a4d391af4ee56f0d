-- Words in two's complement: their 64 bits, and shifts, products and comparisons of these.
use Rattle.std.proofs.Common.{◌≡◌, ℕ, ◌+◌, ◌-◌, ◌*◌, ◌/◌, ◌%◌, ◌^◌, ◌<◌, ◌≤◌, nat_lt, if◌then◌else◌, ℤ, pos, negsuc}
use Rattle.std.proofs.Common.{◌*ℤ◌, int_lt, bit_xor, refl, sym, ap, ◌∙◌, subst, arith, inl, inr, FitsSigned, w64, to_z}
use Rattle.std.proofs.Common.{of_z, unsigned_abs, lit<}
use Rattle.std.proofs.lemmas.Bool.{cases_lt}
use Rattle.std.proofs.lemmas.Bool.Decides.{nat_tests}
use Rattle.std.proofs.lemmas.Int.{ints, of_z-to_z, wrapping_mul-bits, int_wrap_fits, fits_signed_mul}
use Rattle.std.specs.Int.{int_wrap}
use Rattle.std.proofs.lemmas.Nat.{pow_pos, pow-add, div_below, mod_below, div-add-mod', div-mul-add, mod-mul-add, mul-lt, xor_block, xor_comm, shr_le}
use Rattle.ci_word.specs.Arithmetic.{signed, word_of, floor_quotient}

-- the 64 bits of a word with a sign
abbrev pub extended : ℕ → ℕ
extended n = if nat_lt n (2 ^ 31) then n else n + (2 ^ 64 - 2 ^ 32)

-- ---- a word below and from 2 ^ 31 on

pub signed_low : (n : ℕ) → n < 2 ^ 31 → signed n ≡ pos n
signed_low n low = grind (arith, ints)

pub signed_high : (n : ℕ) → 2 ^ 31 ≤ n → n < 2 ^ 32 → signed n ≡ negsuc (2 ^ 32 - 1 - n)
signed_high n high word = grind (arith, ints)

pub extended_low : (n : ℕ) → n < 2 ^ 31 → extended n ≡ n
extended_low n low = grind (arith, nat_tests)

pub extended_high : (n : ℕ) → 2 ^ 31 ≤ n → extended n ≡ n + (2 ^ 64 - 2 ^ 32)
extended_high n high = grind (arith, nat_tests)

-- ---- what is below a number that is one less than a multiple

module _ (c d n : ℕ) (some : 0 < d) (below : n < c * d) where
  from_above : c * d - 1 - n ≡ (c - 1 - n / d) * d + (d - 1 - n % d)
  from_above =
      let small : n / d < c = div_below n d c some below in
      let rest : n % d < d = mod_below n d some in
      let parts : n / d * d + n % d ≡ n = div-add-mod' n d in
      let counted : c ≡ (n / d + 1) + (c - 1 - n / d) = omega arith in
      let whole : c * d ≡ (n / d * d + d) + (c - 1 - n / d) * d =
      ap (λ m. m * d) counted ∙ expanded (n / d) (c - 1 - n / d) in
      omega arith
    where
      expanded : (a b : ℕ) → ((a + 1) + b) * d ≡ (a * d + d) + b * d
      expanded a b = omega arith

  -- the quotient and the remainder of the numbers below, counted from above
  pub quotient_from_above : (c * d - 1 - n) / d ≡ c - 1 - n / d
  quotient_from_above =
      let rest : n % d < d = mod_below n d some in
      ap (λ m. m / d) from_above ∙ div-mul-add (c - 1 - n / d) d (d - 1 - n % d) (omega arith)

  pub remainder_from_above : (c * d - 1 - n) % d ≡ d - 1 - n % d
  remainder_from_above =
      let rest : n % d < d = mod_below n d some in
      ap (λ m. m % d) from_above ∙ mod-mul-add (c - 1 - n / d) d (d - 1 - n % d) (omega arith)

-- ---- shifts

shifted_low : (n k : ℕ) → n < 2 ^ 31 → extended n / 2 ^ k % 2 ^ 32 ≡ word_of (floor_quotient (signed n) (2 ^ k))
shifted_low n k low =
    ap (λ m. m / 2 ^ k % 2 ^ 32) (extended_low n low) ∙ sym (ap (λ z. word_of (floor_quotient z (2 ^ k))) (signed_low n low))

shifted_high : (n k : ℕ) → 2 ^ 31 ≤ n → n < 2 ^ 32 → k < 32
    → extended n / 2 ^ k % 2 ^ 32 ≡ word_of (floor_quotient (signed n) (2 ^ k))
shifted_high n k high word few =
    ap (λ m. m / 2 ^ k % 2 ^ 32) (extended_high n high ∙ upper)
    ∙ ap (λ m. (m - 1 - (2 ^ 32 - 1 - n)) / 2 ^ k % 2 ^ 32) (sym all)
    ∙ ap (λ m. m % 2 ^ 32) (quotient_from_above (2 ^ (64 - k)) (2 ^ k) (2 ^ 32 - 1 - n) (pow_pos k) (subst (λ m. 2 ^ 32 - 1 - n < m) (sym all) (omega arith)))
    ∙ ap (λ m. (m - 1 - (2 ^ 32 - 1 - n) / 2 ^ k) % 2 ^ 32) more
    ∙ remainder_from_above (2 ^ (32 - k)) (2 ^ 32) ((2 ^ 32 - 1 - n) / 2 ^ k) (pow_pos 32)
    (let small = shr_le (2 ^ 32 - 1 - n) k in let some = pow_pos (32 - k) in omega (arith, small, some))
    ∙ sym (ap (λ z. word_of (floor_quotient z (2 ^ k))) (signed_high n high word))
  where
    upper : n + (2 ^ 64 - 2 ^ 32) ≡ 2 ^ 64 - 1 - (2 ^ 32 - 1 - n)
    upper = omega arith

    all : 2 ^ (64 - k) * 2 ^ k ≡ 2 ^ 64
    all = sym (pow-add 2 (64 - k) k) ∙ ap (λ m. 2 ^ m) (let e : (64 - k) + k ≡ 64 = omega arith in e)

    more : 2 ^ (64 - k) ≡ 2 ^ (32 - k) * 2 ^ 32
    more = ap (λ m. 2 ^ m) (let e : 64 - k ≡ (32 - k) + 32 = omega arith in e) ∙ pow-add 2 (32 - k) 32

-- the shift of the 64 bits to the right by less than 32
pub signed_shift : (n k : ℕ) → n < 2 ^ 32 → k < 32
    → extended n / 2 ^ k % 2 ^ 32 ≡ word_of (floor_quotient (signed n) (2 ^ k))
signed_shift n k word few =
    elim (cases_lt n (2 ^ 31)) [
      | inl low ↦ shifted_low n k low
      | inr high ↦ shifted_high n k high word few
    ]

-- ---- high halves

-- the high word of a number in 64 bits is the word of its quotient
high_word : (z : ℤ) → FitsSigned w64 z → of_z w64 z / 2 ^ 32 % 2 ^ 32 ≡ word_of (floor_quotient z (2 ^ 32))
high_word (pos n) fits = refl
high_word (negsuc n) fits = omega arith

signed_64 : (n : ℕ) → n < 2 ^ 32 → to_z w64 (extended n) ≡ signed n
signed_64 n word = grind (arith, ints)

unsigned_64 : (n : ℕ) → n < 2 ^ 32 → to_z w64 n ≡ pos n
unsigned_64 n word = grind (arith, ints)

extended_fits : (n : ℕ) → n < 2 ^ 32 → extended n < 2 ^ 64
extended_fits n word = grind (arith, nat_tests)

signed_is_small : (n : ℕ) → n < 2 ^ 32 → unsigned_abs (signed n) ≤ 2 ^ 31
signed_is_small n word = grind (arith, ints)

-- the product of the 64 bits of two whole numbers
high_of_product : (m n : ℕ) (y z : ℤ) → m < 2 ^ 64 → n < 2 ^ 64 → to_z w64 m ≡ y → to_z w64 n ≡ z → FitsSigned w64 (y *ℤ z)
    → m * n % 2 ^ 64 / 2 ^ 32 % 2 ^ 32 ≡ word_of (floor_quotient (y *ℤ z) (2 ^ 32))
high_of_product m n y z fits_m fits_n is_m is_n fits =
    ap (λ k. k / 2 ^ 32 % 2 ^ 32) product ∙ high_word (y *ℤ z) fits
  where
    product : m * n % 2 ^ 64 ≡ of_z w64 (y *ℤ z)
    product =
        sym (of_z-to_z w64 (m * n % 2 ^ 64) (mod_below (m * n) (2 ^ 64) (pow_pos 64)))
        ∙ ap (of_z w64) (wrapping_mul-bits w64 m n fits_m fits_n
        ∙ (λ i. int_wrap w64 (is_m i *ℤ is_n i)) ∙ int_wrap_fits w64 (y *ℤ z) fits)

pub signed_product : (m n : ℕ) → m < 2 ^ 32 → n < 2 ^ 32
    → extended m * extended n % 2 ^ 64 / 2 ^ 32 % 2 ^ 32 ≡ word_of (floor_quotient (signed m *ℤ signed n) (2 ^ 32))
signed_product m n word_m word_n =
    high_of_product (extended m) (extended n) (signed m) (signed n) (extended_fits m word_m) (extended_fits n word_n)
    (signed_64 m word_m) (signed_64 n word_n)
    (fits_signed_mul w64 (signed m) (signed n) (2 ^ 31) (2 ^ 31) (signed_is_small m word_m) (signed_is_small n word_n) (lit< tt))

pub mixed_product : (m n : ℕ) → m < 2 ^ 32 → n < 2 ^ 32
    → extended m * n % 2 ^ 64 / 2 ^ 32 % 2 ^ 32 ≡ word_of (floor_quotient (signed m *ℤ pos n) (2 ^ 32))
mixed_product m n word_m word_n =
    high_of_product (extended m) n (signed m) (pos n) (extended_fits m word_m) (omega arith)
    (signed_64 m word_m) (unsigned_64 n word_n)
    (fits_signed_mul w64 (signed m) (pos n) (2 ^ 31) (2 ^ 32 - 1) (signed_is_small m word_m) (omega arith) (lit< tt))

pub unsigned_product : (m n : ℕ) → m < 2 ^ 32 → n < 2 ^ 32 → m * n % 2 ^ 64 / 2 ^ 32 % 2 ^ 32 ≡ m * n / 2 ^ 32
unsigned_product m n word_m word_n =
    let small : m * n < 2 ^ 64 = mul-lt m n (2 ^ 32) (2 ^ 32) word_m word_n in
    omega arith

-- ---- comparisons

xor_nothing : (n : ℕ) → bit_xor n 0 ≡ n
xor_nothing n = xor_comm n 0

turned_low : (n : ℕ) → n < 2 ^ 31 → bit_xor n 2147483648 ≡ n + 2 ^ 31
turned_low n low =
    let none : n ≡ 0 * 2 ^ 31 + n = omega arith in
    let one : 1 * 2 ^ 31 + bit_xor n 0 ≡ n + 2 ^ 31 = omega (arith, xor_nothing n) in
    ap (λ m. bit_xor m 2147483648) none ∙ xor_block 31 0 1 n 0 low (pow_pos 31) ∙ one

turned_high : (n : ℕ) → 2 ^ 31 ≤ n → n < 2 ^ 32 → bit_xor n 2147483648 + 2 ^ 31 ≡ n
turned_high n high word =
    let one : n ≡ 1 * 2 ^ 31 + (n - 2 ^ 31) = omega arith in
    let none : 0 * 2 ^ 31 + bit_xor (n - 2 ^ 31) 0 + 2 ^ 31 ≡ n = omega (arith, xor_nothing (n - 2 ^ 31)) in
    ap (λ m. bit_xor m 2147483648 + 2 ^ 31) one
    ∙ ap (λ m. m + 2 ^ 31) (xor_block 31 1 1 (n - 2 ^ 31) 0 (omega arith) (pow_pos 31)) ∙ none

-- turning the top bits over puts signed words into their order
pub signed_order : (m n : ℕ) → m < 2 ^ 32 → n < 2 ^ 32
    → nat_lt (bit_xor m 2147483648) (bit_xor n 2147483648) ≡ int_lt (signed m) (signed n)
signed_order m n word_m word_n =
    elim (cases_lt m (2 ^ 31)) [
      | inl low_m ↦
          elim (cases_lt n (2 ^ 31)) [
            | inl low_n ↦ let e = turned_low m low_m in let f = turned_low n low_n in grind (arith, ints, e, f)
            | inr high_n ↦ let e = turned_low m low_m in let f = turned_high n high_n word_n in grind (arith, ints, e, f)
          ]
      | inr high_m ↦
          elim (cases_lt n (2 ^ 31)) [
            | inl low_n ↦ let e = turned_high m high_m word_m in let f = turned_low n low_n in grind (arith, ints, e, f)
            | inr high_n ↦ let e = turned_high m high_m word_m in let f = turned_high n high_n word_n in grind (arith, ints, e, f)
          ]
    ]
