-- The code's tokens stand for the symbols of their text.
use Rattle.std.proofs.Common.{◌≡◌, ℕ, ◌+◌, ◌-◌, ◌%◌, ◌^◌, ◌<◌, ◌≤◌, ◌⊎◌, inl, inr, true, false, List, [], ◌∷◌, ◌++◌, length, take, drop, refl, ap, ◌∙◌}
use Rattle.std.proofs.Common.{arith, lit<, lit≤, codes, append_assoc, length-append}
use Rattle.std.specs.Char.{digit_value}
use Rattle.std.specs.Str.Parse.{AllDigits, IsNumeral, digits_value}
use Rattle.std.proofs.Math.Seq.{take-append_seam, drop-append-add}
use Rattle.std.proofs.lemmas.Bool.Decides.{nat_tests}
use Rattle.std.proofs.Math.Nat.{mod-eq_of_lt}
use Rattle.ci_reading.specs.Tokens.{token}
use Rattle.ci_verilog.specs.declared.expressions.Operator.{Operator}
use Rattle.ci_verilog.specs.declared.expressions.Operator.TheVariants.{Less}
use Rattle.ci_reading.proofs.DigitLaws.{digits_below}
use Rattle.ci_vread.specs.declared.bytes.ByteClass.TheVariants.{BeforeQuote}
use Rattle.ci_vread.specs.declared.tokens.Kind.TheVariants as kind
use Rattle.ci_vread.specs.declared.tokens.Sign.{Sign}
use Rattle.ci_vread.specs.declared.tokens.Sign.TheVariants.{Opening}
use Rattle.ci_vread.specs.Lexicon.{Token, number, constant, cycles, never, spelling, operator_spelling, IsNumber, constant_spelling, Spells, of_sign}
use Rattle.ci_vread.specs.Lexicon.{of_operator, of_name, of_number, of_constant, of_cycles}
use Rattle.ci_vread.specs.Lexicon.{long_name, bad_number, bad_constant}
use Rattle.ci_vread.specs.private.Scanned.{word_in, width_in, value_in, symbol_by}
use Rattle.ci_vread.specs.private.Scanning.{belongs, run, kind_of, ends}
use Rattle.ci_vread.proofs.Runs.{AllOf, run_exact, front_exact}
use Rattle.ci_vread.proofs.Numbers.{number_good}
use Rattle.ci_vread.proofs.FoundTokens.{cycles_spelling}

word_is : (digits : List ℕ) (n : ℕ) → IsNumber digits n → word_in digits ≡ n
word_is digits n is =
    let good = number_good digits n is in
    let small : n < 2 ^ 32 = omega (arith, good.below) in
    ap (λ v. v % 2 ^ 32) good.value ∙ mod-eq_of_lt small

-- ---- constants

digit_before_quote : (c : ℕ) → digit_value c < 10 → belongs BeforeQuote c ≡ true
digit_before_quote c h = grind (arith, nat_tests)

before_quote_all : (bytes : List ℕ) → AllDigits 10 bytes → AllOf BeforeQuote bytes
before_quote_all [] all = tt
before_quote_all (c ∷ bytes) all = (digit_before_quote c all.0, before_quote_all bytes all.1)

constant_parts : (width digits : List ℕ) → constant_spelling width digits ≡ width ++ 39 ∷ 104 ∷ digits
constant_parts width digits = simp append_assoc

behind_quote : (width digits : List ℕ) → drop (length width + 2) (width ++ 39 ∷ 104 ∷ digits) ≡ digits
behind_quote width digits = drop-append-add width (39 ∷ 104 ∷ digits) 2

constant_means : (width digits : List ℕ) (w : ℕ) → IsNumber width w → IsNumeral 16 digits → length digits ≤ 16
    → symbol_by kind.Constant (constant_spelling width digits) ≡ token (constant w (digits_value 16 digits))
constant_means width digits w is hex few =
    let bytes = width ++ 39 ∷ 104 ∷ digits in
    let all = before_quote_all width (number_good width w is).numeral.1 in
    let front : take (run BeforeQuote bytes) bytes ≡ width = front_exact BeforeQuote width (39 ∷ 104 ∷ digits) all refl in
    let size : run BeforeQuote bytes ≡ length width = run_exact BeforeQuote width (39 ∷ 104 ∷ digits) all refl in
    let behind : drop (run BeforeQuote bytes + 2) bytes ≡ digits = ap (λ n. drop (n + 2) bytes) size ∙ behind_quote width digits in
    let small : digits_value 16 digits < 2 ^ 64 = digits_below 16 16 digits (lit< tt) few hex.1 in
    let width_is : width_in bytes ≡ w = ap word_in front ∙ word_is width w is in
    let value_is : value_in bytes ≡ digits_value 16 digits = ap (λ ds. digits_value 16 ds % 2 ^ 64) behind ∙ mod-eq_of_lt small in
    ap (symbol_by kind.Constant) (constant_parts width digits) ∙ (λ i. token (constant (width_is i) (value_is i)))

-- ---- cycles

cycles_means : (digits : List ℕ) (n : ℕ) → IsNumber digits n → symbol_by kind.Cycles (cycles_spelling digits) ≡ token (cycles n)
cycles_means digits n is =
    let size : length (cycles_spelling digits) - 11 ≡ length digits =
    omega (arith, length-append (codes "// cycles " ++ digits) (codes "\n"), length-append (codes "// cycles ") digits) in
    let front : take (length (cycles_spelling digits) - 11) (digits ++ 10 ∷ []) ≡ digits =
    ap (λ k. take k (digits ++ 10 ∷ [])) size ∙ take-append_seam digits (10 ∷ []) in
    ap (λ ds. token (cycles (word_in ds))) front ∙ ap (λ v. token (cycles v)) (word_is digits n is)

-- ---- all tokens

-- what the bytes of a token stand for, by the code's kind
pub kind_means : {bytes : List ℕ} {t : Token} → Spells bytes t → symbol_by (kind_of t) bytes ≡ token t
kind_means (of_sign s) = refl
kind_means (of_operator o) = refl
kind_means (of_name letters no_sign short) = refl
kind_means (of_number {digits} {n} is) = ap (λ v. token (number v)) (word_is digits n is)
kind_means (of_constant {width} digits {w} is hex few) = constant_means width digits w is hex few
kind_means (of_cycles {digits} {n} is) = cycles_means digits n is
kind_means (long_name letters long) = refl
kind_means (bad_number numeral none) = refl
kind_means (bad_constant digits numeral hex bad) = refl

sign_small : (s : Sign) → length (spelling s) ≤ 255
sign_small Opening = lit≤ tt
sign_small other = lit≤ tt

operator_small : (o : Operator) → length (operator_spelling o) ≤ 255
operator_small Less = lit≤ tt
operator_small other = lit≤ tt

-- the size of a token that may stand somewhere fits a byte
pub small_or_never : {bytes : List ℕ} {t : Token} → Spells bytes t → (length bytes ≤ 255) ⊎ (t ≡ never)
small_or_never (of_sign s) = inl (sign_small s)
small_or_never (of_operator o) = inl (operator_small o)
small_or_never (of_name letters no_sign short) = inl (omega arith)
small_or_never (of_number {digits} {n} is) = inl (omega (arith, (number_good digits n is).few))
small_or_never (of_constant {width} digits {w} is hex few) =
    inl (omega (arith, (number_good width w is).few, length-append (width ++ codes "'h") digits, length-append width (codes "'h")))
small_or_never (of_cycles {digits} {n} is) =
    inl (omega (arith, (number_good digits n is).few, length-append (codes "// cycles " ++ digits) (codes "\n"), length-append (codes "// cycles ") digits))
small_or_never (long_name letters long) = inr refl
small_or_never (bad_number numeral none) = inr refl
small_or_never (bad_constant digits numeral hex bad) = inr refl

pub token_goes_on : (t : Token) → ends (kind_of t) ≡ false
token_goes_on never = refl
token_goes_on other = refl
