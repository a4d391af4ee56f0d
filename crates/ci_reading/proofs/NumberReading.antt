-- Reading a number of a range is exact: each digit that is taken leads on to a number of the range.
use Rattle.std.proofs.Common.{◌≡◌, ◌≢◌, ℕ, zero, suc, ◌+◌, ◌-◌, ◌*◌, ◌/◌, ◌%◌, ◌^◌, ◌<◌, ◌≤◌, ◌⊎◌, inl, inr, Bool, true}
use Rattle.std.proofs.Common.{false, cond, ◌&&◌, ◌||◌, nat_le, nat_lt, eqb, List, [], ◌∷◌, ◌++◌, length, refl, sym, ap}
use Rattle.std.proofs.Common.{◌∙◌, subst, arith, add-one, append_assoc, mul-le-mul_left, mul-le-mul_right, mul-pos}
use Rattle.std.proofs.Common.{lit<, zero-le, append-nil, Ok, Err}
use Rattle.std.specs.Fmt.{decimal}
use Rattle.std.proofs.lemmas.Fmt.{decimal_digit, decimal_step, decimal_by_steps}
use Rattle.std.proofs.lemmas.Bool.{eqb-true, cases_lt}
use Rattle.std.proofs.lemmas.Bool.Decides.{nat_tests}
use Rattle.std.proofs.Math.Nat.{pow-suc}
use Rattle.std.specs.Char.{is_ascii_digit}
use Rattle.ci_reading.specs.declared.fields.Numbers.{Numbers}
use Rattle.ci_reading.specs.LineReading.{Stop, Read, stop}
use Rattle.ci_reading.specs.Fields.{meets, reaches_from, reaches, begins, extends, ends, closed, digits_on, number, number_alone}
use Rattle.ci_reading.proofs.Languages.{Plainly, Mapped, mapped}
use Rattle.ci_reading.proofs.Exact.{IsExact, IsStop, plain_stop, plain_exact, also, seen_plainly}

-- ---- which values lead on to a number of the range

-- a number of the range has the value's digits and then k more
pub record Reaches (numbers : Numbers) (value k : ℕ) : Type 0 where
  few : k < 7
  high : value * 10 ^ k ≤ numbers.high
  low : numbers.low < value * 10 ^ k + 10 ^ k

pub both_true : (a b : Bool) → (a && b) ≡ true → (a ≡ true) × (b ≡ true)
both_true true true e = (refl, refl)
both_true true false e = absurd (cc)
both_true false b e = absurd (cc)

power_some : (k : ℕ) → 0 < 10 ^ k
power_some zero = omega arith
power_some (suc k) = omega (arith, power_some k, pow-suc 10 k)

-- with some number of further digits
abbrev reaches_with : Numbers → ℕ → ℕ → Bool
reaches_with numbers value k = meets numbers (value * 10 ^ k) (10 ^ k)

or_true : (b : Bool) → (b || true) ≡ true
or_true true = refl
or_true false = refl

module _ (numbers : Numbers) (value : ℕ) where
  some_reach : (count j : ℕ) → reaches_from numbers value (10 ^ j) count ≡ true → (k : ℕ) × (k < j + count) × (reaches_with numbers value k ≡ true)
  unfolding reaches_from
  some_reach zero j e = absurd (cc)
  some_reach (suc count) j e = by (some_reach count (suc j)) (reaches_with numbers value j) refl e
    where
      by : (reaches_from numbers value (10 ^ suc j) count ≡ true → (k : ℕ) × (k < suc j + count) × (reaches_with numbers value k ≡ true))
          → (b : Bool) → reaches_with numbers value j ≡ b
          → (b || reaches_from numbers value (10 ^ j * 10) count) ≡ true
          → (k : ℕ) × (k < j + suc count) × (reaches_with numbers value k ≡ true)
      by others true is e = (j, omega arith, is)
      by others false is e = let o = others (subst (λ s. reaches_from numbers value s count ≡ true) (sym (pow-suc 10 j)) e) in (o.0, omega (arith, o.1), o.2)

  reach_some : (count j k : ℕ) → j ≤ k → k < j + count → reaches_with numbers value k ≡ true → reaches_from numbers value (10 ^ j) count ≡ true
  unfolding reaches_from
  reach_some zero j k le less e = absurd (omega (arith, le, less))
  reach_some (suc count) j k le less e = by (λ later. reach_some count (suc j) k (omega (arith, later)) (omega (arith, less)) e) (cases_lt j k)
    where
      by : (j < k → reaches_from numbers value (10 ^ suc j) count ≡ true) → (j < k) ⊎ (k ≤ j)
          → (reaches_with numbers value j || reaches_from numbers value (10 ^ j * 10) count) ≡ true
      by others (inl later) =
          let rest : reaches_from numbers value (10 ^ j * 10) count ≡ true =
          subst (λ s. reaches_from numbers value s count ≡ true) (pow-suc 10 j) (others later) in
          rw rest (or_true (reaches_with numbers value j))
      by others (inr here) =
          let same : k ≡ j = omega (arith, le, here) in
          let now : reaches_with numbers value j ≡ true = subst (λ k. reaches_with numbers value k ≡ true) same e in
          ap (λ b. b || reaches_from numbers value (10 ^ j * 10) count) now

-- what a value is from which digits lead on
pub data Leads (numbers : Numbers) (value : ℕ) : Type 0 where
  alone : value ≡ 0 → numbers.low ≡ 0 → Leads numbers value
  with_digits : (k : ℕ) → 0 < value → Reaches numbers value k → Leads numbers value

leads : (numbers : Numbers) (value : ℕ) → reaches numbers value ≡ true → Leads numbers value
unfolding reaches
leads numbers value e = by (eqb value 0) refl e
  where
    by : (b : Bool) → eqb value 0 ≡ b → cond b (eqb numbers.low 0) (reaches_from numbers value 1 7) ≡ true → Leads numbers value
    by true is e = alone (eqb-true value 0 is) (eqb-true numbers.low 0 e)
    by false is e =
        let k = some_reach numbers value 7 0 e in
        let tests = both_true (nat_le (value * 10 ^ k.0) numbers.high) (nat_lt numbers.low (value * 10 ^ k.0 + 10 ^ k.0)) k.2 in
        with_digits k.0 (grind (arith, nat_tests)) (record { few = omega (arith, k.1); high = grind (arith, nat_tests); low = grind (arith, nat_tests) })

reaches-leads : (numbers : Numbers) (value : ℕ) → Leads numbers value → reaches numbers value ≡ true
unfolding reaches
reaches-leads numbers value (alone is low) = rw (is, low) refl
reaches-leads numbers value (with_digits k some r) =
    let not_zero : eqb value 0 ≡ false = grind (arith, nat_tests) in
    let low = r.low in let high = r.high in
    let test : reaches_with numbers value k ≡ true = grind (arith, nat_tests, low, high) in
    rw not_zero (reach_some numbers value 7 0 k zero-le (omega (arith, r.few)) test)

-- ---- the loop over the digits that may follow

pub power_more : (scale k : ℕ) → scale ≡ 10 ^ k → scale * 10 ≡ 10 ^ (k + 1)
power_more scale k e = ap (λ v. v * 10) e ∙ (sym (pow-suc 10 k) ∙ ap (λ n. 10 ^ n) (sym (add-one k)))

pub reaches_zero : (numbers : Numbers) (value : ℕ) → value ≡ 0 → eqb numbers.low 0 ≡ reaches numbers value
unfolding reaches
reaches_zero numbers value e = rw e refl

pub reaches_some : (numbers : Numbers) (value : ℕ) → value ≢ 0 → reaches_from numbers value 1 7 ≡ reaches numbers value
unfolding reaches
reaches_some numbers value some = let not_zero : eqb value 0 ≡ false = grind (arith, nat_tests, some) in rw not_zero refl

module _ (numbers : Numbers) (value scale left : ℕ) where
  pub reach_found : (count : ℕ) → left ≡ suc count → meets numbers (value * scale) scale ≡ true → reaches_from numbers value scale left ≡ true
  unfolding reaches_from
  reach_found count some e = ap (reaches_from numbers value scale) some ∙ ap (λ b. b || reaches_from numbers value (scale * 10) count) e

  pub reach_more : (count : ℕ) → left ≡ suc count → meets numbers (value * scale) scale ≡ false
      → reaches_from numbers value scale left ≡ reaches_from numbers value (scale * 10) count
  unfolding reaches_from
  reach_more count some e = ap (reaches_from numbers value scale) some ∙ ap (λ b. b || reaches_from numbers value (scale * 10) count) e

  pub reach_none : left ≡ 0 → reaches_from numbers value scale left ≡ false
  unfolding reaches_from
  reach_none none = ap (reaches_from numbers value scale) none

-- a value from which digits lead on is in no case too great
pub reaches_below : (numbers : Numbers) (value : ℕ) → reaches numbers value ≡ true → value ≤ numbers.high
reaches_below numbers value e = by (leads numbers value e)
  where
    by : Leads numbers value → value ≤ numbers.high
    by (alone is low) = omega (arith, is)
    by (with_digits k some r) = omega (arith, r.high, mul-le-mul_left value (power_some k))

-- a number of the range leads on
reaches_in : (numbers : Numbers) (n : ℕ) → numbers.low ≤ n → n ≤ numbers.high → reaches numbers n ≡ true
reaches_in numbers zero low high = reaches-leads numbers zero (alone refl (omega (arith, low)))
reaches_in numbers (suc n) low high = reaches-leads numbers (suc n)
    (with_digits 0 (omega arith) (record { few = lit< tt; high = omega (arith, high); low = omega (arith, low) }))

shorter_high : (q r P high : ℕ) → (10 * q + r) * P ≤ high → q * (P * 10) ≤ high
shorter_high q r P high h = omega (arith, h)

shorter_low : (q r P low : ℕ) → r ≤ 9 → low < (10 * q + r) * P + P → low < q * (P * 10) + P * 10
shorter_low q r P low small h = omega (arith, h, mul-le-mul_right P small)

-- what has one digit less leads on, too
reaches_shorter : (numbers : Numbers) (n : ℕ) → numbers.high ≤ 9999999 → 10 ≤ n → reaches numbers n ≡ true → reaches numbers (n / 10) ≡ true
reaches_shorter numbers n few ge e = by (leads numbers n e)
  where
    not_six : (k : ℕ) → Reaches numbers n k → k ≢ 6
    not_six k r six = let high : n * 10 ^ 6 ≤ numbers.high = subst (λ k. n * 10 ^ k ≤ numbers.high) six r.high in absurd (omega (arith, high, few, ge))

    by : Leads numbers n → reaches numbers (n / 10) ≡ true
    by (alone is low) = absurd (omega (arith, is, ge))
    by (with_digits k some r) =
        let parts : n ≡ 10 * (n / 10) + n % 10 = omega arith in
        let small : n % 10 ≤ 9 = omega arith in
        let high : (10 * (n / 10) + n % 10) * 10 ^ k ≤ numbers.high = subst (λ v. v * 10 ^ k ≤ numbers.high) parts r.high in
        let low : numbers.low < (10 * (n / 10) + n % 10) * 10 ^ k + 10 ^ k = subst (λ v. numbers.low < v * 10 ^ k + 10 ^ k) parts r.low in
        let power : 10 ^ k * 10 ≡ 10 ^ suc k = sym (pow-suc 10 k) in
        reaches-leads numbers (n / 10) (with_digits (suc k) (omega (arith, ge)) (record {
          few = let not = not_six k r in omega (arith, r.few, not);
          high = subst (λ P. n / 10 * P ≤ numbers.high) power (shorter_high (n / 10) (n % 10) (10 ^ k) numbers.high high);
          low = subst (λ P. numbers.low < n / 10 * P + P) power (shorter_low (n / 10) (n % 10) (10 ^ k) numbers.low small low);
        }))

-- ---- digits

-- a digit more
decimal_more : (w d : ℕ) → 0 < w → w < 2 ^ 60 → d < 10 → decimal (10 * w + d) ≡ decimal w ++ (48 + d) ∷ []
decimal_more w d some few small =
    let front : (10 * w + d) / 10 ≡ w = omega (arith, small) in
    let last : (10 * w + d) % 10 ≡ d = omega (arith, small) in
    decimal_step (10 * w + d) (omega (arith, some)) (omega (arith, few, small)) ∙ (λ i. decimal (front i) ++ (48 + last i) ∷ [])

-- a number of k digits more
decimal_front : (k n w : ℕ) → 0 < w → n < 2 ^ 64 → w * 10 ^ k ≤ n → n < w * 10 ^ k + 10 ^ k → (more : List ℕ) × (decimal n ≡ decimal w ++ more)
decimal_front zero n w some few low high =
    let same : n ≡ w = omega (arith, low, high) in
    ([], ap decimal same ∙ sym (append-nil (decimal w)))
decimal_front (suc k) n w some few low high =
    let power : 10 ^ suc k ≡ 10 ^ k * 10 = pow-suc 10 k in
    let from : w * (10 ^ k * 10) ≤ n = subst (λ P. w * P ≤ n) power low in
    let to : n < w * (10 ^ k * 10) + 10 ^ k * 10 = subst (λ P. n < w * P + P) power high in
    let start : 0 < w * 10 ^ k = mul-pos some (power_some k) in
    let o = decimal_front k (n / 10) w some (omega (arith, few)) (omega (arith, from)) (omega (arith, to)) in (
      o.0 ++ (48 + n % 10) ∷ [],
      decimal_step n (omega (arith, start, from)) few
          ∙ (ap (λ v. v ++ (48 + n % 10) ∷ []) o.1 ∙ append_assoc (decimal w) o.0 ((48 + n % 10) ∷ [])),
    )

-- the digits lead to a number of the range
record IsLed (numbers : Numbers) (value : ℕ) : Type 0 where
  n : ℕ
  low : numbers.low ≤ n
  high : n ≤ numbers.high
  more : List ℕ
  text : decimal n ≡ decimal value ++ more

led : (numbers : Numbers) (value : ℕ) → numbers.low ≤ numbers.high → numbers.high ≤ 9999999 → reaches numbers value ≡ true → IsLed numbers value
led numbers value range few e = by (leads numbers value e)
  where
    by : Leads numbers value → IsLed numbers value
    by (alone is low) = record { n = 0; low = omega (arith, low); high = omega arith; more = []; text = ap decimal (sym is) ∙ sym (append-nil (decimal value)) }
    by (with_digits k some r) = from (cases_lt numbers.low (value * 10 ^ k))
      where
        from : (numbers.low < value * 10 ^ k) ⊎ (value * 10 ^ k ≤ numbers.low) → IsLed numbers value
        from (inl below) =
            let power = power_some k in
            let o = decimal_front k (value * 10 ^ k) value some (omega (arith, r.high, few)) (omega arith) (omega (arith, power)) in
            record { n = value * 10 ^ k; low = omega (arith, below); high = r.high; more = o.0; text = o.1 }
        from (inr above) =
            let o = decimal_front k numbers.low value some (omega (arith, range, few)) above r.low in
            record { n = numbers.low; low = omega arith; high = range; more = o.0; text = o.1 }

-- ---- what is read

-- the text of a number of the range, and of a byte that may end it
pub record IsNumber (numbers : Numbers) (ys : List ℕ) (x : ℕ × ℕ) : Type 0 where
  pub low : numbers.low ≤ x.0
  pub high : x.0 ≤ numbers.high
  pub ended : ends numbers x.0 x.1 ≡ true
  pub text : ys ≡ decimal x.0 ++ x.1 ∷ []

-- the byte that ends each number does so
pub end_ends : (numbers : Numbers) (n : ℕ) → numbers.low ≤ n → ends numbers n numbers.end ≡ true
end_ends numbers n low =
    let test : nat_le numbers.low n ≡ true = grind (arith, nat_tests) in
    let same : eqb numbers.end numbers.end ≡ true = grind (arith, nat_tests) in
    rw (test, same) refl

-- how far the digits of a number are taken
record IsRun (K : Type 0) (numbers : Numbers) (from : ℕ) (xs : List ℕ) : Type 0 where
  value : ℕ
  tail : List ℕ
  rest : List ℕ
  splits : xs ≡ tail ++ rest
  text : decimal from ++ tail ≡ decimal value
  good : reaches numbers value ≡ true
  over : extends numbers value rest ≡ false
  is : digits_on {K = K} numbers from xs ≡ closed numbers value rest

record IsTaken (K : Type 0) (numbers : Numbers) (xs : List ℕ) : Type 0 where
  value : ℕ
  rest : List ℕ
  splits : xs ≡ decimal value ++ rest
  good : reaches numbers value ≡ true
  over : extends numbers value rest ≡ false
  is : number {K = K} numbers xs ≡ closed numbers value rest

-- what ends a number
record IsClosed (numbers : Numbers) (value : ℕ) (rest : List ℕ) (x : ℕ × ℕ) (after : List ℕ) : Type 0 where
  at : rest ≡ x.1 ∷ after
  same : value ≡ x.0
  is : ends numbers value x.1 ≡ true

module _ {K : Type 0} where
  -- a number's digits are taken, whatever follows them
  taken_digits : (numbers : Numbers) → numbers.high ≤ 9999999 → (n : ℕ) → n < 2 ^ 64 → (rest : List ℕ)
      → reaches numbers n ≡ true → number {K = K} numbers (decimal n ++ rest) ≡ digits_on numbers n rest
  taken_digits numbers few = decimal_by_steps (λ n ds. (rest : List ℕ) → reaches numbers n ≡ true
      → number {K = K} numbers (ds ++ rest) ≡ digits_on numbers n rest) one more
    where
      value_of : (d : ℕ) → 48 + d - 48 ≡ d
      value_of d = omega arith

      digit : (d : ℕ) → d < 10 → is_ascii_digit (48 + d) ≡ true
      digit d small = grind (arith, nat_tests)

      one : (n : ℕ) → n < 10 → (rest : List ℕ) → reaches numbers n ≡ true → number {K = K} numbers ((48 + n) ∷ rest) ≡ digits_on numbers n rest
      one n small rest e = rw (digit n small, value_of n, e) refl

      more : (n : ℕ) (ds : List ℕ) → 10 ≤ n → ((rest : List ℕ) → reaches numbers (n / 10) ≡ true
          → number {K = K} numbers (ds ++ rest) ≡ digits_on numbers (n / 10) rest)
          → (rest : List ℕ) → reaches numbers n ≡ true → number {K = K} numbers ((ds ++ (48 + n % 10) ∷ []) ++ rest) ≡ digits_on numbers n rest
      more n ds ge front rest e =
          let d = n % 10 in
          let whole : 10 * (n / 10) + (48 + d - 48) ≡ n = omega arith in
          let positive : nat_lt 0 (n / 10) ≡ true = grind (arith, nat_tests) in
          let takes : extends numbers (n / 10) ((48 + d) ∷ rest) ≡ true = rw (digit d (omega arith), positive, whole) e in
          ap (number numbers) (append_assoc ds ((48 + d) ∷ []) rest)
          ∙ (front ((48 + d) ∷ rest) (reaches_shorter numbers n few ge e)
          ∙ (ap (λ b. cond b (digits_on numbers (10 * (n / 10) + (48 + d - 48)) rest) (closed numbers (n / 10) ((48 + d) ∷ rest))) takes
          ∙ ap (λ v. digits_on numbers v rest) whole))

  run : (numbers : Numbers) → numbers.high ≤ 9999999 → (xs : List ℕ) (from : ℕ) → reaches numbers from ≡ true → IsRun K numbers from xs
  run numbers few [] from e = record { value = from; tail = []; rest = []; splits = refl; text = append-nil (decimal from); good = e; over = refl; is = refl }
  run numbers few (x ∷ xs) from e = by (run numbers few xs) (extends numbers from (x ∷ xs)) refl
    where
      by : ((v : ℕ) → reaches numbers v ≡ true → IsRun K numbers v xs) → (b : Bool) → extends numbers from (x ∷ xs) ≡ b → IsRun K numbers from (x ∷ xs)
      by others true is =
          let tests = both_true (is_ascii_digit x && nat_lt 0 from) (reaches numbers (10 * from + (x - 48))) is in
          let digit = both_true (is_ascii_digit x) (nat_lt 0 from) tests.0 in
          let o = others (10 * from + (x - 48)) tests.1 in
          let some : 0 < from = grind (arith, nat_tests) in
          let below = reaches_below numbers from e in
          let small : x - 48 < 10 = grind (arith, nat_tests) in
          let byte : 48 + (x - 48) ≡ x = grind (arith, nat_tests) in
          let step : decimal (10 * from + (x - 48)) ≡ decimal from ++ x ∷ [] =
          decimal_more from (x - 48) some (omega (arith, below, few)) small
          ∙ ap (λ b. decimal from ++ b ∷ []) byte in
          record {
            value = o.value;
            tail = x ∷ o.tail;
            rest = o.rest;
            splits = ap (λ v. x ∷ v) o.splits;
            text = sym (append_assoc (decimal from) (x ∷ []) o.tail) ∙ (ap (λ v. v ++ o.tail) (sym step) ∙ o.text);
            good = o.good;
            over = o.over;
            is = ap (λ b. cond b (digits_on numbers (10 * from + (x - 48)) xs) (closed numbers from (x ∷ xs))) is ∙ o.is;
          }
      by others false is = record {
        value = from;
        tail = [];
        rest = x ∷ xs;
        splits = refl;
        text = append-nil (decimal from);
        good = e;
        over = is;
        is = ap (λ b. cond b (digits_on numbers (10 * from + (x - 48)) xs) (closed numbers from (x ∷ xs))) is;
      }

  taken : (numbers : Numbers) → numbers.high ≤ 9999999 → (xs : List ℕ) → begins numbers xs ≡ true → IsTaken K numbers xs
  taken numbers few [] e = absurd (cc)
  taken numbers few (x ∷ xs) e =
      let tests = both_true (is_ascii_digit x) (reaches numbers (x - 48)) e in
      let o = run numbers few xs (x - 48) tests.1 in
      let digit = tests.0 in
      let small : x - 48 < 10 = grind (arith, nat_tests, digit) in
      let byte : 48 + (x - 48) ≡ x = grind (arith, nat_tests, digit) in
      let one : decimal (x - 48) ≡ x ∷ [] = decimal_digit (x - 48) small ∙ ap (λ b. b ∷ []) byte in
      record {
        value = o.value;
        rest = o.rest;
        good = o.good;
        over = o.over;
        splits = ap (λ v. x ∷ v) o.splits ∙ (sym (ap (λ v. (v ++ o.tail) ++ o.rest) one) ∙ ap (λ v. v ++ o.rest) o.text);
        is = ap (λ b. cond b (digits_on numbers (x - 48) xs) (Err (stop (length (x ∷ xs))))) e ∙ o.is;
      }

  closed_ok : (numbers : Numbers) (value : ℕ) (rest : List ℕ) (x : ℕ × ℕ) (after : List ℕ)
      → closed {K = K} numbers value rest ≡ Ok (x, after) → IsClosed numbers value rest x after
  closed_ok numbers value [] x after e = absurd (cc)
  closed_ok numbers value (b ∷ rest) x after e = by (ends numbers value b) refl e
    where
      by : (t : Bool) → ends numbers value b ≡ t
          → cond {A = Read ℕ K (ℕ × ℕ)} t (Ok ((value, b), rest)) (Err (stop (length (b ∷ rest)))) ≡ Ok (x, after)
          → IsClosed numbers value (b ∷ rest) x after
      by false is e = absurd (cc)
      by true is e =
          let pair : ((value, b), rest) ≡ (x, after) = cc in
          let number : (value, b) ≡ x = ap (λ (p : (ℕ × ℕ) × List ℕ). p.0) pair in
          record {
            at = λ i. (number i).1 ∷ (pair i).1;
            same = ap (λ (p : ℕ × ℕ). p.0) number;
            is = subst (λ (p : ℕ × ℕ). ends numbers value p.1 ≡ true) number is;
          }

  record IsOpen (numbers : Numbers) (value : ℕ) (rest : List ℕ) (s : Stop K) : Type 0 where
    is_stop : s ≡ stop (length rest)
    open_at : (b : ℕ) (tail other : List ℕ) → rest ≡ b ∷ tail → closed {K = K} numbers value (b ∷ other) ≡ Err (stop (length (b ∷ other)))

  closed_err : (numbers : Numbers) (value : ℕ) (rest : List ℕ) (s : Stop K) → closed numbers value rest ≡ Err s → IsOpen numbers value rest s
  closed_err numbers value [] s e = record { is_stop = cc; open_at = λ b tail other at. absurd (cc) }
  closed_err numbers value (c ∷ rest) s e = by (ends numbers value c) refl e
    where
      by : (t : Bool) → ends numbers value c ≡ t
          → cond {A = Read ℕ K (ℕ × ℕ)} t (Ok ((value, c), rest)) (Err (stop (length (c ∷ rest)))) ≡ Err s
          → IsOpen numbers value (c ∷ rest) s
      by true is e = absurd (cc)
      by false is e = record {
        is_stop = cc;
        open_at = λ b tail other at.
            let same : c ≡ b = cc in
            ap (λ t. cond t (Ok ((value, b), other)) (Err (stop (length (b ∷ other))))) (subst (λ b. ends numbers value b ≡ false) same is);
      }

module _ (numbers : Numbers) (range : numbers.low ≤ numbers.high) (few : numbers.high ≤ 9999999) (no_digit : is_ascii_digit numbers.end ≡ false) where
  -- a byte that may end a number is no digit
  not_on : (n b : ℕ) (rest : List ℕ) → ends numbers n b ≡ true → extends numbers n (b ∷ rest) ≡ false
  not_on n b rest e =
      let tests = both_true (nat_le numbers.low n) (eqb b numbers.end || (numbers.listed && eqb b 32 && nat_lt n numbers.high)) e in
      let last = tests.1 in
      let digit : is_ascii_digit b ≡ false = by (eqb b numbers.end) refl last in
      ap (λ d. d && nat_lt 0 n && reaches numbers (10 * n + (b - 48))) digit
    where
      by : (t : Bool) → eqb b numbers.end ≡ t → (t || (numbers.listed && eqb b 32 && nat_lt n numbers.high)) ≡ true → is_ascii_digit b ≡ false
      by true is all = ap is_ascii_digit (eqb-true b numbers.end is) ∙ no_digit
      by false is all =
          let two = both_true (numbers.listed && eqb b 32) (nat_lt n numbers.high) all in
          let blank = both_true numbers.listed (eqb b 32) two.0 in
          ap is_ascii_digit (eqb-true b 32 blank.1)

  module _ {K : Type 0} where
    again : (x : ℕ × ℕ) (rest : List ℕ) → IsNumber numbers (decimal x.0 ++ x.1 ∷ []) x → number {K = K} numbers (decimal x.0 ++ x.1 ∷ rest) ≡ Ok (x, rest)
    again x rest is =
        let n = x.0 in let b = x.1 in
        taken_digits numbers few n (omega (arith, is.high, few)) (b ∷ rest) (reaches_in numbers n is.low is.high)
        ∙ (ap (λ t. cond t (digits_on numbers (10 * n + (b - 48)) rest) (closed numbers n (b ∷ rest))) (not_on n b rest is.ended)
        ∙ ap (λ t. cond t (Ok ((n, b), rest)) (Err (stop (length (b ∷ rest))))) is.ended)

    whole_number : (ys : List ℕ) (x : ℕ × ℕ) (rest : List ℕ) → IsNumber numbers ys x → number {K = K} numbers (ys ++ rest) ≡ Ok (x, rest)
    whole_number ys x rest is =
        ap (λ v. number numbers (v ++ rest)) is.text
        ∙ (ap (number numbers) (append_assoc (decimal x.0) (x.1 ∷ []) rest)
        ∙ again x rest (record { low = is.low; high = is.high; ended = is.ended; text = refl }))

    not_begun : (xs : List ℕ) → begins numbers xs ≡ false → number {K = K} numbers xs ≡ Err (stop (length xs))
    not_begun [] e = refl
    not_begun (x ∷ xs) e = ap (λ b. cond b (digits_on numbers (x - 48) xs) (Err (stop (length (x ∷ xs))))) e

    sound_number : (xs : List ℕ) (x : ℕ × ℕ) (rest : List ℕ) (b : Bool) → begins numbers xs ≡ b
        → number {K = K} numbers xs ≡ Ok (x, rest) → (ys : List ℕ) × (xs ≡ ys ++ rest) × IsNumber numbers ys x
    sound_number xs x rest false begun read = let stopped = not_begun xs begun in absurd (cc)
    sound_number xs x rest true begun read =
        let o = taken numbers few xs begun in
        let c = closed_ok numbers o.value o.rest x rest (sym o.is ∙ read) in
        let tests = both_true (nat_le numbers.low o.value) (eqb x.1 numbers.end || (numbers.listed && eqb x.1 32 && nat_lt o.value numbers.high)) c.is in
        let low_test = tests.0 in
        let low : numbers.low ≤ o.value = grind (arith, nat_tests, low_test) in
        let high : o.value ≤ numbers.high = reaches_below numbers o.value o.good in (
          decimal o.value ++ x.1 ∷ [],
          o.splits ∙ (ap (λ v. decimal o.value ++ v) c.at ∙ sym (append_assoc (decimal o.value) (x.1 ∷ []) rest)),
          record {
            low = subst (λ v. numbers.low ≤ v) c.same low;
            high = subst (λ v. v ≤ numbers.high) c.same high;
            ended = subst (λ v. ends numbers v x.1 ≡ true) c.same c.is;
            text = ap (λ v. decimal v ++ x.1 ∷ []) c.same;
          },
        )

    stops_number : (bound : ℕ) (xs : List ℕ) (s : Stop K) (b : Bool) → begins numbers xs ≡ b
        → number numbers xs ≡ Err s → IsStop bound (number numbers) (Plainly (IsNumber numbers)) xs s
    stops_number bound xs s false begun read =
        let is : s ≡ stop (length xs) = sym (let stopped = not_begun xs begun in cc) in
        plain_stop [] xs (decimal numbers.low ++ numbers.end ∷ []) (numbers.low, numbers.end) xs s refl is
        (record { low = omega arith; high = range; ended = end_ends numbers numbers.low (omega arith); text = refl })
        (λ b tail other at. not_begun (b ∷ other) (subst (λ v. begins numbers v ≡ false) at begun))
    stops_number bound xs s true begun read =
        let o = taken numbers few xs begun in
        let c = closed_err numbers o.value o.rest s (sym o.is ∙ read) in
        let l = led numbers o.value range few o.good in
        plain_stop (decimal o.value) o.rest (l.more ++ numbers.end ∷ []) (l.n, numbers.end) xs s o.splits c.is_stop
        (record {
          low = l.low;
          high = l.high;
          ended = end_ends numbers l.n l.low;
          text = sym (append_assoc (decimal o.value) l.more (numbers.end ∷ [])) ∙ ap (λ v. v ++ numbers.end ∷ []) (sym l.text);
        })
        (λ b tail other at.
        let over : extends numbers o.value (b ∷ other) ≡ false = subst (λ v. extends numbers o.value v ≡ false) at o.over in
        taken_digits numbers few o.value (omega (arith, reaches_below numbers o.value o.good, few)) (b ∷ other) o.good
        ∙ (ap (λ t. cond t (digits_on numbers (10 * o.value + (b - 48)) other) (closed numbers o.value (b ∷ other))) over
        ∙ c.open_at b tail other at))

    pub number_exact : {Other : K → ℕ → Type 0} {most : ℕ} (bound : ℕ) → IsExact Other most bound (number numbers) (Plainly (IsNumber numbers))
    number_exact bound =
        plain_exact whole_number (λ xs x rest small read. sound_number xs x rest (begins numbers xs) refl read)
        (λ xs s small read. stops_number bound xs s (begins numbers xs) refl read)

    -- what was read is one of the numbers
    pub number_read : (xs : List ℕ) (x : ℕ × ℕ) (rest : List ℕ) → number {K = K} numbers xs ≡ Ok (x, rest) → (ys : List ℕ) × IsNumber numbers ys x
    number_read xs x rest read = let o = sound_number xs x rest (begins numbers xs) refl read in (o.0, o.2)

-- ---- a number with one byte that may stand behind it

-- the text of a number of the range, and the byte that ends it
abbrev pub IsAlone : Numbers → List ℕ → ℕ → Type 0
IsAlone numbers ys n = (numbers.low ≤ n) × (n ≤ numbers.high) × (ys ≡ decimal n ++ numbers.end ∷ [])

pub least_alone : (numbers : Numbers) → numbers.low ≤ numbers.high → IsAlone numbers (decimal numbers.low ++ numbers.end ∷ []) numbers.low
least_alone numbers range = (omega arith, range, refl)

module _ (numbers : Numbers) (range : numbers.low ≤ numbers.high) (few : numbers.high ≤ 9999999)
    (no_digit : is_ascii_digit numbers.end ≡ false) (alone : numbers.listed ≡ false) where
  end_of : (n b : ℕ) → ends numbers n b ≡ true → b ≡ numbers.end
  end_of n b e =
      let tests = both_true (nat_le numbers.low n) (eqb b numbers.end || (numbers.listed && eqb b 32 && nat_lt n numbers.high)) e in
      by (eqb b numbers.end) refl (sym (ap (λ l. eqb b numbers.end || (l && eqb b 32 && nat_lt n numbers.high)) alone) ∙ tests.1)
    where
      by : (t : Bool) → eqb b numbers.end ≡ t → (t || false) ≡ true → b ≡ numbers.end
      by true is all = eqb-true b numbers.end is
      by false is all = absurd (cc)

  pub number_alone_exact : {K : Type 0} {Other : K → ℕ → Type 0} {most : ℕ} (bound : ℕ)
      → IsExact Other most bound (number_alone numbers) (Plainly (IsAlone numbers))
  number_alone_exact bound =
      also to from (seen_plainly bound (number numbers) (λ x. x.0) (IsNumber numbers) (number_exact numbers range few no_digit bound))
    where
      to : (ys : List ℕ) (n : ℕ) → Mapped (λ (x : ℕ × ℕ). x.0) (IsNumber numbers) ys n → IsAlone numbers ys n
      to _ _ (mapped ys x is) = (is.low, is.high, is.text ∙ ap (λ b. decimal x.0 ++ b ∷ []) (end_of x.0 x.1 is.ended))

      from : (ys : List ℕ) (n : ℕ) → IsAlone numbers ys n → Mapped (λ (x : ℕ × ℕ). x.0) (IsNumber numbers) ys n
      from ys n is = mapped ys (n, numbers.end) (record { low = is.0; high = is.1; ended = end_ends numbers n is.0; text = is.2 })
