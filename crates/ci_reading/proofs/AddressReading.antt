-- Reading an address is exact: eight hexadecimal digits in lower case.
use Rattle.std.proofs.Common.{◌≡◌, ℕ, zero, suc, ◌+◌, ◌-◌, ◌*◌, ◌/◌, ◌%◌, ◌^◌, ◌<◌, ◌≤◌, Bool, true, false, cond}
use Rattle.std.proofs.Common.{nat_lt, ◌&&◌, not, List, [], ◌∷◌, ◌++◌, length, refl, sym, ap, ◌∙◌, subst, arith, lit<}
use Rattle.std.proofs.Common.{add-one, Option, Some, None, Ok, Err}
use Rattle.std.specs.Char.{digit_value, is_ascii_uppercase}
use Rattle.std.proofs.lemmas.Bool.Decides.{nat_tests}
use Rattle.std.proofs.Math.Nat.{pow-suc, div-div-eq-div-mul, mul-div_cancel}
use Rattle.ci_reading.specs.Hex.{eight_hex_digits}
use Rattle.ci_reading.specs.Hex as hex
use Rattle.ci_reading.specs.LineReading.{Stop, ◌>>=◌}
use Rattle.ci_reading.specs.Fields.{hex_value, found_before, hex_digit, address}
use Rattle.ci_reading.proofs.Languages.{Plainly, Then, joined}
use Rattle.ci_reading.proofs.Exact.{IsExact, IsStop, plain_stop, plain_exact, and_then, also}

value_again : (d : ℕ) → d < 16 → hex_value (hex.hex_digit d) ≡ Some d
value_again d h = grind (arith, nat_tests)

record IsGlyph (x d : ℕ) : Type 0 where
  small : d < 16
  is : x ≡ hex.hex_digit d

glyph : (x : ℕ) → digit_value x < 16 → is_ascii_uppercase x ≡ false → x ≡ hex.hex_digit (digit_value x)
glyph x small lower = grind (arith, nat_tests)

glyph_again : (x d : ℕ) → hex_value x ≡ Some d → IsGlyph x d
glyph_again x d e = by (nat_lt (digit_value x) 16) refl (is_ascii_uppercase x) refl e
  where
    by : (t : Bool) → nat_lt (digit_value x) 16 ≡ t → (u : Bool) → is_ascii_uppercase x ≡ u
        → cond (t && not u) (Some (digit_value x)) None ≡ Some d → IsGlyph x d
    by false digit u case e = absurd (cc)
    by true digit true case e = absurd (cc)
    by true digit false case e =
        let same : digit_value x ≡ d = cc in
        let small : digit_value x < 16 = grind (arith, nat_tests, digit) in
        record { small = omega (arith, small, same); is = glyph x small case ∙ ap (λ d. hex.hex_digit d) same }

abbrev IsDigit : List ℕ → ℕ → Type 0
IsDigit ys d = (d < 16) × (ys ≡ hex.hex_digit d ∷ [])

module _ {K : Type 0} where
  digit_sound : (xs : List ℕ) (d : ℕ) (rest : List ℕ) → hex_digit {K = K} xs ≡ Ok (d, rest) → (ys : List ℕ) × (xs ≡ ys ++ rest) × IsDigit ys d
  digit_sound [] d rest e = absurd (cc)
  digit_sound (x ∷ xs) d rest e = by (hex_value x) refl e
    where
      by : (o : Option ℕ) → hex_value x ≡ o → found_before {K = K} (length (x ∷ xs)) xs o ≡ Ok (d, rest) → (ys : List ℕ) × (x ∷ xs ≡ ys ++ rest) × IsDigit ys d
      by None is e = absurd (cc)
      by (Some k) is e =
          let pair : (k, xs) ≡ (d, rest) = cc in
          let value : k ≡ d = ap (λ (p : ℕ × List ℕ). p.0) pair in
          let g = glyph_again x d (is ∙ ap (λ k. Some k) value) in
          (x ∷ [], (λ i. x ∷ (pair i).1), (g.small, ap (λ b. b ∷ []) g.is))

  digit_stops : (bound : ℕ) (xs : List ℕ) (s : Stop K) → hex_digit xs ≡ Err s → IsStop bound hex_digit (Plainly IsDigit) xs s
  digit_stops bound [] s e = plain_stop [] [] (48 ∷ []) 0 [] s refl (cc) (lit< tt, refl) (λ b tail other at. absurd (cc))
  digit_stops bound (x ∷ xs) s e = by (hex_value x) refl e
    where
      by : (o : Option ℕ) → hex_value x ≡ o → found_before (length (x ∷ xs)) xs o ≡ Err s → IsStop bound hex_digit (Plainly IsDigit) (x ∷ xs) s
      by (Some k) value e = absurd (cc)
      by None value e =
          plain_stop [] (x ∷ xs) (48 ∷ []) 0 (x ∷ xs) s refl (cc) (lit< tt, refl)
          (λ b tail other at. let same : x ≡ b = cc in ap (found_before (length (b ∷ other)) other) (ap hex_value (sym same) ∙ value))

-- ---- addresses

-- a number below 2 ^ 32 and its digits
abbrev pub IsAddress : List ℕ → ℕ → Type 0
IsAddress ys n = (n < 2 ^ 32) × (ys ≡ eight_hex_digits n)

pub zero_address : IsAddress (eight_hex_digits 0) 0
zero_address = (lit< tt, refl)

-- the last digits of a number
abbrev last_digits : ℕ → ℕ → List ℕ
last_digits zero n = []
last_digits (suc count) n = hex.hex_digit (n / 16 ^ count % 16) ∷ last_digits count n

-- the digits behind those of the value
pub record AreDigits (count value : ℕ) (ys : List ℕ) (n : ℕ) : Type 0 where
  pub front : n / 16 ^ count ≡ value
  pub text : ys ≡ last_digits count n

power_some : (k : ℕ) → 0 < 16 ^ k
power_some zero = omega arith
power_some (suc k) = omega (arith, power_some k, pow-suc 16 k)

divided_twice : (n k : ℕ) → n / 16 ^ suc k ≡ n / 16 ^ k / 16
divided_twice n k = ap (λ p. n / p) (pow-suc 16 k) ∙ sym (div-div-eq-div-mul n (16 ^ k) 16)

-- some number has any front
with_front : (count value : ℕ) → (value * 16 ^ count) / 16 ^ count ≡ value
with_front count value = mul-div_cancel value (power_some count)

module _ {K : Type 0} {Other : K → ℕ → Type 0} {most : ℕ} (bound : ℕ) where
  digit_exact : IsExact Other most bound hex_digit (Plainly IsDigit)
  digit_exact =
      plain_exact (λ ys d rest l. ap (λ v. hex_digit (v ++ rest)) l.1 ∙ ap (found_before (length (hex.hex_digit d ∷ rest)) rest) (value_again d l.0))
      (λ xs d rest small read. digit_sound xs d rest read) (λ xs s small read. digit_stops bound xs s read)

  pub digits_exact : (count value : ℕ) → IsExact Other most bound (address count value) (Plainly (AreDigits count value))
  unfolding address
  digits_exact zero value =
      plain_exact (λ ys n rest l. ap (λ v. Ok (value, v ++ rest)) l.text ∙ ap (λ v. Ok (v, rest)) (sym (same n l.front)))
      (λ xs n rest small read.
      let pair : (value, xs) ≡ (n, rest) = cc in
      ([], ap (λ (p : ℕ × List ℕ). p.1) pair, record { front = omega (arith, ap (λ (p : ℕ × List ℕ). p.0) pair); text = refl }))
      (λ xs s small read. absurd (cc))
    where
      same : (n : ℕ) → n / 16 ^ 0 ≡ value → n ≡ value
      same n e = omega (arith, e)
  digits_exact (suc count) value =
      also to from
      (and_then bound hex_digit (λ d. address count (16 * value + d)) IsDigit digit_exact
      (λ d. AreDigits count (16 * value + d)) (λ ys d l. digits_exact count (16 * value + d))
      (λ ys d l. (
        last_digits count ((16 * value + d) * 16 ^ count),
        (16 * value + d) * 16 ^ count,
        record { front = with_front count (16 * value + d); text = refl },
      )))
    where
      to : (ys : List ℕ) (n : ℕ) → Then IsDigit (λ d. AreDigits count (16 * value + d)) ys n → AreDigits (suc count) value ys n
      to _ _ (joined ys zs d n l m) =
          let small = l.0 in
          let front : n / 16 ^ count ≡ 16 * value + d = m.front in
          let last : n / 16 ^ count % 16 ≡ d = ap (λ v. v % 16) front ∙ omega (arith, small) in
          record {
            front = divided_twice n count ∙ (ap (λ v. v / 16) front ∙ omega (arith, small));
            text = ap (λ v. v ++ zs) l.1 ∙ (λ i. hex.hex_digit (sym last i) ∷ m.text i);
          }

      from : (ys : List ℕ) (n : ℕ) → AreDigits (suc count) value ys n → Then IsDigit (λ d. AreDigits count (16 * value + d)) ys n
      from ys n a =
          let d = n / 16 ^ count % 16 in
          let high : n / 16 ^ count / 16 ≡ value = sym (divided_twice n count) ∙ a.front in
          subst (λ v. Then IsDigit (λ d. AreDigits count (16 * value + d)) v n) (sym a.text)
          (joined (hex.hex_digit d ∷ []) (last_digits count n) d n (omega arith, refl) (record { front = omega (arith, high); text = refl }))

  pub address_exact : IsExact Other most bound (address 8 0) (Plainly IsAddress)
  address_exact =
      also (λ ys n a. (omega (arith, a.front), a.text)) (λ ys n a. record { front = let less = a.0 in omega (arith, less); text = a.1 }) (digits_exact 8 0)

-- ---- a loop over digits

pub digit_small : (xs : List ℕ) (d : ℕ) (after : List ℕ) → hex_digit {K = Unit {0}} xs ≡ Ok (d, after) → d < 16
digit_small xs d after e = (digit_sound xs d after e).2.0

module _ {K : Type 0} where
  pub next_digit : (count left value d : ℕ) (xs after : List ℕ) → left ≡ suc count
      → hex_digit {K = K} xs ≡ Ok (d, after) → address {K = K} left value xs ≡ address count (16 * value + d) after
  unfolding address
  next_digit count left value d xs after some e = ap (λ n. address n value xs) some ∙ ap (λ r. r >>= λ digit. address count (16 * value + digit.0) digit.1) e

  pub no_digit_left : (value : ℕ) (xs : List ℕ) (left : ℕ) → left ≡ 0 → address {K = K} left value xs ≡ Ok (value, xs)
  unfolding address
  no_digit_left value xs left none = ap (λ n. address n value xs) none

  pub digit_stopped : (s : Stop K) (count left value : ℕ) (xs : List ℕ) → left ≡ suc count → hex_digit xs ≡ Err s → address left value xs ≡ Err s
  unfolding address
  digit_stopped s count left value xs some fails =
      ap (λ n. address n value xs) some ∙ ap (λ r. r >>= λ digit. address count (16 * value + digit.0) digit.1) fails

-- digits below a power of 16, and one more
pub value_more : (value d k : ℕ) → value < 16 ^ k → d < 16 → 16 * value + d < 16 ^ (k + 1)
value_more value d k less small = subst (λ p. 16 * value + d < p) (sym (ap (λ n. 16 ^ n) (add-one k) ∙ pow-suc 16 k)) (omega (arith, less, small))

power_most : (k d : ℕ) → 16 ^ k ≤ 16 ^ (k + d)
power_most k zero = let one : k + 0 ≡ k = omega arith in omega (arith, ap (λ n. 16 ^ n) one)
power_most k (suc d) =
    let one : k + suc d ≡ suc (k + d) = omega arith in
    omega (arith, power_most k d, ap (λ n. 16 ^ n) one, pow-suc 16 (k + d))

-- what has fewer than nine digits fits
pub value_few : (value k : ℕ) → value < 16 ^ k → k ≤ 8 → value < 2 ^ 32
value_few value k less few =
    let all : k + (8 - k) ≡ 8 = omega (arith, few) in
    omega (arith, less, power_most k (8 - k), ap (λ n. 16 ^ n) all)
