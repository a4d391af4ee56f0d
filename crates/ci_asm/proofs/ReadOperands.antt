-- Registers and numbers, as tokens and as the code reads them.
use Rattle.std.proofs.Common.{◌≡◌, ℕ, zero, suc, ◌+◌, ◌/◌, ◌%◌, ◌<◌, ◌≤◌, ◌⊎◌, inl, inr, Bool, true, false, cond, ◌&&◌, nat_le, nat_lt, eqb, List, [], ◌∷◌}
use Rattle.std.proofs.Common.{◌++◌, length, refl, sym, ap, ◌∙◌, arith, Option, Some, None, ℤ, pos, neg_ℤ, ◌≤ℤ◌}
use Rattle.std.specs.Prelude.{unsigned_abs, not}
use Rattle.std.specs.Str.Parse.{digits_value}
use Rattle.std.proofs.lemmas.Fmt.{decimal_digit, decimal_step}
use Rattle.std.proofs.lemmas.Int.{ints}
use Rattle.std.proofs.lemmas.Bool.{eqb-true}
use Rattle.std.proofs.lemmas.Bool.Decides.{nat_tests}
use Rattle.ci_asm.specs.declared.numbers.Number.{Number}
use Rattle.ci_asm.specs.declared.slots.Field.{Field}
use Rattle.ci_asm.specs.private.Tokens.{byte_at, is_digit, is_between, number, number_of, two_digits, register_at, has_one_digit, has_two_digits, register_of}
use Rattle.ci_asm.specs.private.Shapes.{fits, is_one}
use Rattle.ci_asm.specs.private.Statements.{signed_value}
use Rattle.ci_asm.specs.Shown.{register_name}
use Rattle.ci_asm.specs.Lexicon as lex
use Rattle.ci_asm.specs.Lexicon.{decimal_number, hex_number, spelling, IsToken}
use Rattle.ci_asm.specs.Forms.{most_below, most_above, is_offset, IsIn, IsNumber, Writes}
use Rattle.ci_asm.proofs.TestLaws.{by_test, and_both, pick_false}
use Rattle.ci_asm.proofs.LongestTokens.{no_x_behind}

-- ---- registers

chosen : {A : Type 0} (a b : Bool) (x y : Option A) (r : A) → cond a x (cond b y None) ≡ Some r → ((a ≡ true) × (x ≡ Some r)) ⊎ ((b ≡ true) × (y ≡ Some r))
chosen true b x y r e = inl (refl, e)
chosen false true x y r e = inr (refl, e)
chosen false false x y r e = absurd (cc)

register_at-same : (n r : ℕ) → register_at n ≡ Some r → (n ≡ r) × (r < 32)
register_at-same n r e = by (nat_lt n 32) refl e
  where
    by : (b : Bool) → nat_lt n 32 ≡ b → cond b (Some n) None ≡ Some r → (n ≡ r) × (r < 32)
    by true at e = let same : n ≡ r = cc in (same, grind (arith, nat_tests))
    by false at e = absurd (cc)

one_digit_name : (text : List ℕ) (r : ℕ) → has_one_digit text ≡ true → register_at (two_digits 48 (byte_at text 1)) ≡ Some r
    → (text ≡ register_name r) × (r < 32)
one_digit_name [] r e found = absurd (cc)
one_digit_name (a ∷ []) r e found =
    let outer = and_both (eqb a 120 && eqb 1 2) (is_digit 0) e in
    let no : is_digit 0 ≡ true = outer.1 in
    absurd (cc)
one_digit_name (a ∷ b ∷ []) r e found =
    let outer = and_both (eqb a 120 && eqb 2 2) (is_digit b) e in
    let x : a ≡ 120 = eqb-true a 120 (and_both (eqb a 120) (eqb 2 2) outer.0).0 in
    let known = register_at-same (two_digits 48 b) r found in
    let digit : (48 ≤ b) × (b ≤ 57) = let test = outer.1 in (grind (arith, nat_tests), grind (arith, nat_tests)) in
    let value : b ≡ 48 + r = let two = known.0 in omega arith in
    let small : r < 10 = omega arith in
    ((λ i. x i ∷ value i ∷ []) ∙ ap (λ ds. 120 ∷ ds) (sym (decimal_digit r small)), known.1)
one_digit_name (a ∷ b ∷ c ∷ text) r e found =
    let outer = and_both (eqb a 120 && eqb (length (a ∷ b ∷ c ∷ text)) 2) (is_digit b) e in
    let size : length (a ∷ b ∷ c ∷ text) ≡ 2 = eqb-true _ 2 (and_both (eqb a 120) (eqb (length (a ∷ b ∷ c ∷ text)) 2) outer.0).1 in
    absurd (omega arith)

two_digit_name : (text : List ℕ) (r : ℕ) → has_two_digits text ≡ true → register_at (two_digits (byte_at text 1) (byte_at text 2)) ≡ Some r
    → (text ≡ register_name r) × (r < 32)
two_digit_name [] r e found = absurd (cc)
two_digit_name (a ∷ []) r e found =
    let no : is_digit 0 ≡ true = (and_both (eqb a 120 && eqb 1 3 && is_between 49 57 0) (is_digit 0) e).1 in
    absurd (cc)
two_digit_name (a ∷ b ∷ []) r e found =
    let no : is_digit 0 ≡ true = (and_both (eqb a 120 && eqb 2 3 && is_between 49 57 b) (is_digit 0) e).1 in
    absurd (cc)
two_digit_name (a ∷ b ∷ c ∷ []) r e found =
    let outer = and_both (eqb a 120 && eqb 3 3 && is_between 49 57 b) (is_digit c) e in
    let middle = and_both (eqb a 120 && eqb 3 3) (is_between 49 57 b) outer.0 in
    let x : a ≡ 120 = eqb-true a 120 (and_both (eqb a 120) (eqb 3 3) middle.0).0 in
    let known = register_at-same (two_digits b c) r found in
    let tens : (49 ≤ b) × (b ≤ 57) = let test = middle.1 in (grind (arith, nat_tests), grind (arith, nat_tests)) in
    let ones : (48 ≤ c) × (c ≤ 57) = let test = outer.1 in (grind (arith, nat_tests), grind (arith, nat_tests)) in
    let value = known.0 in
    let below = known.1 in
    let many : 10 ≤ r = omega arith in
    let first : b ≡ 48 + r / 10 = omega arith in
    let second : c ≡ 48 + r % 10 = omega arith in (
      (λ i. x i ∷ first i ∷ second i ∷ [])
          ∙ ap (λ ds. 120 ∷ ds) (sym (decimal_step r many (omega arith) ∙ ap (λ ds. ds ++ (48 + r % 10) ∷ []) (decimal_digit (r / 10) (omega arith)))),
      below,
    )
two_digit_name (a ∷ b ∷ c ∷ d ∷ text) r e found =
    let all = a ∷ b ∷ c ∷ d ∷ text in
    let outer = and_both (eqb a 120 && eqb (length all) 3 && is_between 49 57 b) (is_digit c) e in
    let middle = and_both (eqb a 120 && eqb (length all) 3) (is_between 49 57 b) outer.0 in
    let size : length all ≡ 3 = eqb-true (length all) 3 (and_both (eqb a 120) (eqb (length all) 3) middle.0).1 in
    absurd (omega arith)

-- a name that is read as a register is the register's
pub register_named : (text : List ℕ) (r : ℕ) → register_of text ≡ Some r → (text ≡ register_name r) × (r < 32)
unfolding register_of
register_named text r e = elim (chosen (has_one_digit text) (has_two_digits text) _ _ r e) [
  | inl one ↦ one_digit_name text r one.0 one.1
  | inr two ↦ two_digit_name text r two.0 two.1
]

-- ---- numbers

-- the number of a token
abbrev pub number_result : lex.Token → Option Number
number_result (decimal_number negative digits) = number negative 10 digits
number_result (hex_number digits) = number false 16 digits
number_result other = None

pub number_of-token : (t : lex.Token) → IsNumber t → IsToken t → number_of (spelling t) ≡ number_result t
unfolding number_of
number_of-token (decimal_number true digits) is proper = refl
number_of-token (decimal_number false []) is proper = absurd proper
number_of-token (decimal_number false (d ∷ ds)) is proper =
    let digit = proper.0 in
    let minus : eqb d 45 ≡ false = grind (arith, nat_tests) in
    rw (minus, no_x_behind ds proper.1) refl
number_of-token (hex_number digits) is proper = refl
number_of-token other is proper = absurd is

number_small : (negative : Bool) (base : ℕ) (digits : List ℕ) (n : Number) → number negative base digits ≡ Some n
    → (length digits ≤ 10) × (record { negative = negative; magnitude = digits_value base digits } ≡ n)
number_small negative base digits n e = by (nat_lt 10 (length digits)) refl e
  where
    by : (b : Bool) → nat_lt 10 (length digits) ≡ b → cond b None (Some (record { negative = negative; magnitude = digits_value base digits })) ≡ Some n
        → (length digits ≤ 10) × (record { negative = negative; magnitude = digits_value base digits } ≡ n)
    by true at e = absurd (cc)
    by false at e = (grind (arith, nat_tests), cc)

number_capped : (negative : Bool) (base : ℕ) (digits : List ℕ) → length digits ≤ 10
    → number negative base digits ≡ Some (record { negative = negative; magnitude = digits_value base digits })
number_capped negative base digits few =
    let room : nat_lt 10 (length digits) ≡ false = grind (arith, nat_tests) in
    pick_false (nat_lt 10 (length digits)) _ _ room

-- what the code reads is what the token writes
pub number_writes : (t : lex.Token) (n : Number) → number_result t ≡ Some n → Writes t (signed_value n)
number_writes (decimal_number negative digits) n e = let s = number_small negative 10 digits n e in (s.0, sym (ap signed_value s.1))
number_writes (hex_number digits) n e = let s = number_small false 16 digits n e in (s.0, sym (ap signed_value s.1))
number_writes other n e = absurd (cc)

pub writes_number : (t : lex.Token) (z : ℤ) → Writes t z → (n : Number) × (number_result t ≡ Some n) × (signed_value n ≡ z)
writes_number (decimal_number negative digits) z w = (_, number_capped negative 10 digits w.0, sym w.1)
writes_number (hex_number digits) z w = (_, number_capped false 16 digits w.0, sym w.1)
writes_number other z w = absurd w

pub writes_is_number : (t : lex.Token) (z : ℤ) → Writes t z → IsNumber t
writes_is_number (decimal_number negative digits) z w = tt
writes_is_number (hex_number digits) z w = tt
writes_is_number other z w = absurd w

-- a token writes one number
pub one_value : (t : lex.Token) (a b : ℤ) → Writes t a → Writes t b → a ≡ b
one_value (decimal_number negative digits) a b first second = first.1 ∙ sym second.1
one_value (hex_number digits) a b first second = first.1 ∙ sym second.1
one_value other a b first second = absurd first

-- ---- the number 1

abbrev pub one_number : Number
one_number = record { negative = false; magnitude = 1 }

pub one_same : (n : Number) → is_one n ≡ true → n ≡ one_number
one_same n e = by n.negative n.magnitude e
  where
    by : (negative : Bool) (m : ℕ) → (not negative && eqb m 1) ≡ true → ◌≡◌ {A = Number} (record { negative = negative; magnitude = m }) one_number
    by true m e = absurd (cc)
    by false m e = ap (λ k. record { negative = false; magnitude = k }) (eqb-true m 1 e)

pub signed_one : (n : Number) → signed_value n ≡ pos 1 → is_one n ≡ true
signed_one n e = by n.negative n.magnitude e
  where
    by : (negative : Bool) (m : ℕ) → cond negative (neg_ℤ (pos m)) (pos m) ≡ pos 1 → (not negative && eqb m 1) ≡ true
    by true zero e = absurd (cc)
    by true (suc m) e = absurd (cc)
    by false m e = let same : m ≡ 1 = cc in ap (λ k. eqb k 1) same

-- ---- fields

pub abs_signed : (n : Number) → unsigned_abs (signed_value n) ≡ n.magnitude
abs_signed n = by n.negative n.magnitude
  where
    by : (negative : Bool) (m : ℕ) → unsigned_abs (cond negative (neg_ℤ (pos m)) (pos m)) ≡ m
    by true zero = refl
    by true (suc m) = refl
    by false m = refl

pub ruleset magnitudes = (abs_signed)

abbrev IsBetween : ℕ → ℕ → ℤ → Type 0
IsBetween low high n = (neg_ℤ (pos low) ≤ℤ n) × (n ≤ℤ pos high)

-- how far from 0
between_near : (low high : ℕ) (n : Number) → IsBetween low high (signed_value n) → n.magnitude ≤ cond n.negative low high
between_near low high n h = by n.negative n.magnitude h.0 h.1
  where
    by : (negative : Bool) (m : ℕ) → neg_ℤ (pos low) ≤ℤ cond negative (neg_ℤ (pos m)) (pos m) → cond negative (neg_ℤ (pos m)) (pos m) ≤ℤ pos high
        → m ≤ cond negative low high
    by true m a b = omega (arith, ints)
    by false m a b = omega (arith, ints)

near_between : (low high : ℕ) (n : Number) → n.magnitude ≤ cond n.negative low high → IsBetween low high (signed_value n)
near_between low high n h = by n.negative n.magnitude h
  where
    by : (negative : Bool) (m : ℕ) → m ≤ cond negative low high → IsBetween low high (cond negative (neg_ℤ (pos m)) (pos m))
    by true m h = (omega (arith, ints), omega (arith, ints))
    by false m h = (omega (arith, ints), omega (arith, ints))

-- the code's test of a field is the definitions' range
pub fits_in : (field : Field) (n : Number) → fits field n ≡ true → IsIn field (signed_value n)
fits_in field n e =
    let even = λ (offset : Bool). cond offset (eqb (n.magnitude % 2) 0) true in
    let both = and_both (nat_le n.magnitude (cond n.negative (most_below field) (most_above field))) (even (is_offset field)) e in
    let test = both.0 in
    let range = near_between (most_below field) (most_above field) n (grind (arith, nat_tests)) in
    (range.0, range.1, λ offset. ap (λ m. m % 2) (abs_signed n) ∙ eqb-true _ 0 (sym (ap even offset) ∙ both.1))

pub in_fits : (field : Field) (n : Number) → IsIn field (signed_value n) → fits field n ≡ true
in_fits field n h =
    let even = λ (offset : Bool). cond offset (eqb (n.magnitude % 2) 0) true in
    let near = between_near (most_below field) (most_above field) n (h.0, h.1) in
    let test : nat_le n.magnitude (cond n.negative (most_below field) (most_above field)) ≡ true = grind (arith, nat_tests) in
    rw test (by_test (is_offset field)
    (λ offset. ap even offset ∙ (let half : n.magnitude % 2 ≡ 0 = sym (ap (λ m. m % 2) (abs_signed n)) ∙ h.2 offset in ap (λ k. eqb k 0) half))
    (ap even))
