-- Texts that are written token by token, put together from their parts: what may follow a part is told by its first byte.
use Rattle.std.proofs.Common.{◌≡◌, ℕ, ◌+◌, ◌*◌, ◌/◌, ◌%◌, ◌^◌, ◌<◌, ◌≤◌, inl, inr, Bool, true, false, not, cond, List, [], ◌∷◌, ◌++◌, length, refl, sym, ◌∙◌}
use Rattle.std.proofs.Common.{subst}
use Rattle.std.proofs.Common.{arith, lit<}
use Rattle.std.specs.Prelude.{codes, nat_le}
use Rattle.std.specs.Char.{digit_value}
use Rattle.std.specs.Fmt.{decimal}
use Rattle.std.specs.Str.Parse.{AllDigits, IsNumeral, digits_value, digits_value_after}
use Rattle.std.proofs.lemmas.List.{append_assoc, length-append}
use Rattle.std.proofs.Math.Nat.{pow-le-pow_right}
use Rattle.std.proofs.lemmas.Bool.Decides.{nat_tests}
use Rattle.std.proofs.lemmas.Fmt.{decimal_is_IsNumeral, length-decimal-le}
use Rattle.ci_reading.specs.Hex.{hex_digit, eight_hex_digits}
use Rattle.ci_reading.specs.Lines.{line}
use Rattle.ci_reading.specs.WrittenTokens.{IsApart, IsWritten, blank_before, token_before}
use Rattle.ci_reading.proofs.DigitLaws.{eight_hex_digits_value, eight_hex_digits_all}
use Rattle.ci_vread.specs.declared.tokens.Sign.{Sign}
use Rattle.ci_vread.specs.Lexicon.{Token, IsNumber, sign, number, constant, cycles, spelling, constant_spelling, Spells, of_sign, of_number, of_constant}
use Rattle.ci_vread.specs.Lexicon.{of_cycles, unit_format}
use Rattle.ci_vemit.specs.Texts.{hex_digits}
use Rattle.ci_vemit.proofs.TokenBytes.{joins, is_mark, is_word, decimal_joins, constant_joins, word_of_joins, word_apart, mark_apart, line_apart}

-- ---- parts of a line

-- the text is empty, or its first byte joins with no token before it
abbrev pub stands_apart : List ℕ → Bool
stands_apart [] = true
stands_apart (c ∷ text) = not (joins c)

-- the tokens are those of the text, before any rest that stands apart
pub record Written (text : List ℕ) (tokens : List Token) : Type 0 where
  pub before : (rest : List ℕ) (others : List Token) → stands_apart rest ≡ true → IsWritten unit_format rest others
      → IsWritten unit_format (text ++ rest) (tokens ++ others)

not_joined : (c : ℕ) → not (joins c) ≡ true → joins c ≡ false
not_joined c e = by (joins c) e
  where
    by : (b : Bool) → not b ≡ true → b ≡ false
    by true e = absurd (cc)
    by false e = refl

word_before : (bytes rest : List ℕ) → is_word bytes ≡ true → stands_apart rest ≡ true → IsApart unit_format bytes rest
word_before bytes [] is apart = tt
word_before bytes (c ∷ rest) is apart = word_apart bytes c rest is (not_joined c apart)

still_apart : (text rest : List ℕ) → stands_apart text ≡ true → stands_apart rest ≡ true → stands_apart (text ++ rest) ≡ true
still_apart [] rest starts apart = apart
still_apart (c ∷ text) rest starts apart = starts

pub none : Written [] []
none = record { before = λ rest others apart more. more }

-- a token alone
pub lone : {bytes : List ℕ} {t : Token} → Spells bytes t → is_word bytes ≡ true → Written bytes (t ∷ [])
lone {bytes} s is = record { before = λ rest others apart more. token_before s (word_before bytes rest is apart) more }

pub word : {bytes text : List ℕ} {t : Token} {tokens : List Token} → Spells bytes t → is_word bytes ≡ true → stands_apart text ≡ true
    → Written text tokens → Written (bytes ++ text) (t ∷ tokens)
word {bytes} {text} {t} {tokens} s is starts w = record {
  before = λ rest others apart more.
      subst (λ x. IsWritten unit_format x (t ∷ (tokens ++ others))) (sym (append_assoc bytes text rest))
      (token_before s (word_before bytes (text ++ rest) is (still_apart text rest starts apart)) (w.before rest others apart more));
}

pub mark : {text : List ℕ} {tokens : List Token} (s : Sign) (c : ℕ) → spelling s ≡ c ∷ [] → is_mark c ≡ true → Written text tokens
    → Written (c ∷ text) (sign s ∷ tokens)
mark {text} {tokens} s c spelt is w = record {
  before = λ rest others apart more.
      token_before (subst (λ b. Spells b (sign s)) spelt (of_sign s)) (mark_apart c (text ++ rest) is) (w.before rest others apart more);
}

pub blank : {text : List ℕ} {tokens : List Token} → Written text tokens → Written (32 ∷ text) tokens
blank w = record { before = λ rest others apart more. blank_before (inl refl) (w.before rest others apart more) }

pub phrase : {first second : List ℕ} {tokens others : List Token} → Written first tokens → stands_apart second ≡ true → Written second others
    → Written (first ++ second) (tokens ++ others)
phrase {first} {second} {tokens} {others} w starts v = record {
  before = λ rest behind apart more.
      subst (λ x. IsWritten unit_format x (tokens ++ others ++ behind)) (sym (append_assoc first second rest))
      (subst (IsWritten unit_format (first ++ (second ++ rest))) (sym (append_assoc tokens others behind))
      (w.before (second ++ rest) (others ++ behind) (still_apart second rest starts apart) (v.before rest behind apart more)));
}

-- ---- whole lines

-- the tokens are those of the text, before any rest
pub record Lines (text : List ℕ) (tokens : List Token) : Type 0 where
  pub before : (rest : List ℕ) (others : List Token) → IsWritten unit_format rest others
      → IsWritten unit_format (text ++ rest) (tokens ++ others)

pub no_lines : Lines [] []
no_lines = record { before = λ rest others more. more }

pub one_line : {text : List ℕ} {tokens : List Token} → Written text tokens → Lines (line text) tokens
one_line {text} {tokens} w = record {
  before = λ rest others more.
      subst (λ x. IsWritten unit_format x (tokens ++ others)) (sym (append_assoc text (10 ∷ []) rest))
      (w.before (10 ∷ rest) others refl (blank_before (inr (inr refl)) more));
}

pub then : {first second : List ℕ} {tokens others : List Token} → Lines first tokens → Lines second others
    → Lines (first ++ second) (tokens ++ others)
then {first} {second} {tokens} {others} w v = record {
  before = λ rest behind more.
      subst (λ x. IsWritten unit_format x (tokens ++ others ++ behind)) (sym (append_assoc first second rest))
      (subst (IsWritten unit_format (first ++ (second ++ rest))) (sym (append_assoc tokens others behind))
      (w.before (second ++ rest) (others ++ behind) (v.before rest behind more)));
}

-- ---- numbers and constants

pub number_is : (n : ℕ) → n ≤ 9999999 → IsNumber (decimal n) n
number_is n few = (refl, length-decimal-le 7 n (lit< tt) (omega arith) (omega arith))

numeral : (n : ℕ) → n ≤ 9999999 → IsNumeral 10 (decimal n)
numeral n few = (decimal_is_IsNumeral n (omega arith)).0

pub number_word : (n : ℕ) → n ≤ 9999999 → is_word (decimal n) ≡ true
number_word n few = word_of_joins (decimal n) (numeral n few).0 (decimal_joins n)

pub number_spelt : (n : ℕ) → n ≤ 9999999 → Spells (decimal n) (number n)
number_spelt n few = of_number (number_is n few)

pub cycles_line : (n : ℕ) → n ≤ 9999999 → Lines (line (codes "// cycles " ++ decimal n)) (cycles n ∷ [])
cycles_line n few = record {
  before = λ rest others more. token_before (of_cycles (number_is n few)) (line_apart (codes "// cycles " ++ decimal n) rest) more;
}

record WritesHex (value : ℕ) (written : List ℕ) : Type 0 where
  numeral : IsNumeral 16 written
  value_is : digits_value 16 written ≡ value
  few : length written ≤ 16

all_digits : (first second : List ℕ) → AllDigits 16 first → AllDigits 16 second → AllDigits 16 (first ++ second)
all_digits [] second a b = b
all_digits (c ∷ first) second a b = (a.0, all_digits first second a.1 b)

-- eight digits behind a number
eight_more : (n value : ℕ) → digits_value_after 16 n (eight_hex_digits value) ≡ n * 2 ^ 32 + digits_value 16 (eight_hex_digits value)
eight_more n value = by n (at 7) (at 6) (at 5) (at 4) (at 3) (at 2) (at 1) (at 0)
  where
    at : ℕ → ℕ
    at k = digit_value (hex_digit (value / 16 ^ k % 16))

    by : (n a b c d e f g h : ℕ) → (((((((n * 16 + a) * 16 + b) * 16 + c) * 16 + d) * 16 + e) * 16 + f) * 16 + g) * 16 + h
        ≡ n * 2 ^ 32 + ((((((((0 * 16 + a) * 16 + b) * 16 + c) * 16 + d) * 16 + e) * 16 + f) * 16 + g) * 16 + h)
    by n a b c d e f g h = omega arith

eight_written : (value : ℕ) → value < 2 ^ 32 → WritesHex value (eight_hex_digits (value % 2 ^ 32))
eight_written value small =
    let same : value % 2 ^ 32 ≡ value = omega arith in
    record {
      numeral = (omega arith, eight_hex_digits_all (value % 2 ^ 32));
      value_is = eight_hex_digits_value (value % 2 ^ 32) (omega arith) ∙ same;
      few = omega arith;
    }

sixteen_written : (value : ℕ) → value < 2 ^ 64
    → WritesHex value (eight_hex_digits (value / 2 ^ 32) ++ eight_hex_digits (value % 2 ^ 32))
sixteen_written value small =
    let high = value / 2 ^ 32 in
    let low = value % 2 ^ 32 in
    let first = eight_hex_digits_value high (omega arith) in
    let second = eight_hex_digits_value low (omega arith) in
    let again : high * 2 ^ 32 + low ≡ value = omega arith in
    record {
      numeral = (omega arith, all_digits (eight_hex_digits high) (eight_hex_digits low) (eight_hex_digits_all high) (eight_hex_digits_all low));
      value_is = eight_more (digits_value 16 (eight_hex_digits high)) low ∙ ((λ i. first i * 2 ^ 32 + second i) ∙ again);
      few = omega arith;
    }

hex_written : (width value : ℕ) → width ≤ 64 → value < 2 ^ width → WritesHex value (hex_digits width value)
hex_written width value narrow small = by (nat_le width 32) refl
  where
    by : (b : Bool) → nat_le width 32 ≡ b
        → WritesHex value (cond b (eight_hex_digits (value % 2 ^ 32)) (eight_hex_digits (value / 2 ^ 32) ++ eight_hex_digits (value % 2 ^ 32)))
    by true e =
        let below : width ≤ 32 = grind (arith, nat_tests) in
        eight_written value (omega (arith, small, pow-le-pow_right {n = 2} (lit< tt) below))
    by false e = sixteen_written value (omega (arith, small, pow-le-pow_right {n = 2} (lit< tt) narrow))

pub constant_spelt : (width value : ℕ) → width ≤ 64 → value < 2 ^ width
    → Spells (constant_spelling (decimal width) (hex_digits width value)) (constant width value)
constant_spelt width value narrow small =
    let hex = hex_written width value narrow small in
    subst (λ v. Spells (constant_spelling (decimal width) (hex_digits width value)) (constant width v)) hex.value_is
    (of_constant (hex_digits width value) (number_is width (omega arith)) hex.numeral hex.few)

pub constant_word : (width value : ℕ) → width ≤ 64 → value < 2 ^ width
    → is_word (constant_spelling (decimal width) (hex_digits width value)) ≡ true
constant_word width value narrow small =
    let hex = hex_written width value narrow small in
    let all = constant_joins (decimal width) (hex_digits width value) (decimal_joins width) hex.numeral in
    word_of_joins _ (constant_some width (hex_digits width value)) all
  where
    constant_some : (width : ℕ) (written : List ℕ) → 0 < length (constant_spelling (decimal width) written)
    constant_some width written =
        omega (arith, length-append (decimal width ++ codes "'h") written, length-append (decimal width) (codes "'h"))
