-- The names of modules, and of wires by a letter and a number, are names of the grammar.
use Rattle.std.proofs.Common.{◌≡◌, ℕ, ◌^◌, ◌<◌, Bool, true, false, ◌||◌, ◌==◌, nat_lt, List, [], ◌∷◌, refl, sym, ap, ◌∙◌}
use Rattle.std.proofs.Common.{arith, lit<}
use Rattle.std.specs.Prelude.{IsTrue}
use Rattle.std.specs.List.{AllByRecursion}
use Rattle.std.specs.Char.{is_ascii_alphabetic, is_ascii_alphanumeric, digit_value}
use Rattle.std.specs.Fmt.{decimal}
use Rattle.std.specs.Str.Parse.{AllDigits, IsNumeral}
use Rattle.std.proofs.lemmas.Bool.Decides.{nat_tests}
use Rattle.std.proofs.lemmas.Fmt.{decimal_is_IsNumeral, length-decimal-le}
use Rattle.ci_vread.specs.declared.tokens.Sign.{Sign}
use Rattle.ci_vread.specs.declared.tokens.Sign.TheVariants as signs
use Rattle.ci_vread.specs.Lexicon.{spelling}
use Rattle.ci_vread.specs.Spelling.{module_name}
use Rattle.ci_vemit.specs.Texts.{IsName}

abbrev IsLetter : ℕ → Type 0
IsLetter c = IsTrue (is_ascii_alphanumeric c || c == 95)

digit_letter : (c : ℕ) → digit_value c < 10 → IsLetter c
digit_letter c small = grind (arith, nat_tests)

digits_letters : (written : List ℕ) → AllDigits 10 written → AllByRecursion IsLetter written
digits_letters [] all = tt
digits_letters (c ∷ written) all = (digit_letter c all.0, digits_letters written all.1)

decimal_letters : (n : ℕ) → n < 2 ^ 64 → AllByRecursion IsLetter (decimal n)
decimal_letters n small = digits_letters (decimal n) (decimal_is_IsNumeral n small).0.1

true_is_not_false : {b : Bool} → b ≡ true → b ≡ false → ⊥
true_is_not_false is not = cc

-- ---- modules

-- the third byte is `_`
abbrev third_is_bar : List ℕ → Bool
third_is_bar (b ∷ c ∷ d ∷ bytes) = d == 95
third_is_bar bytes = false

no_bar_in_words : (s : Sign) → third_is_bar (spelling s) ≡ false
no_bar_in_words signs.ModuleWord = refl
no_bar_in_words s = refl

pub module_name_is : (k : ℕ) → k < 32 → IsName (module_name k)
module_name_is k below =
    let digits = length-decimal-le 2 k (lit< tt) (omega arith) (omega arith) in
    record {
      letters = (refl, (refl, (refl, decimal_letters k (omega arith))));
      no_word = λ s e. true_is_not_false (sym (ap third_is_bar e)) (no_bar_in_words s);
      short = omega (arith, digits);
    }

-- ---- wires

-- a digit is the second byte
abbrev second_is_digit : List ℕ → Bool
second_is_digit [] = false
second_is_digit (c ∷ []) = false
second_is_digit (c ∷ d ∷ bytes) = nat_lt d 58

no_digit_in_words : (s : Sign) → second_is_digit (spelling s) ≡ false
no_digit_in_words signs.ModuleWord = refl
no_digit_in_words s = refl

digit_second : (letter : ℕ) (written : List ℕ) → IsNumeral 10 written → second_is_digit (letter ∷ written) ≡ true
digit_second letter [] is = absurd (omega (arith, is.0))
digit_second letter (c ∷ written) is = by c is.1.0
  where
    by : (c : ℕ) → digit_value c < 10 → nat_lt c 58 ≡ true
    by c small = grind (arith, nat_tests)

no_word_with_digits : (letter : ℕ) (written : List ℕ) (s : Sign) → IsNumeral 10 written → ¬ (letter ∷ written ≡ spelling s)
no_word_with_digits letter written s is = λ e.
    true_is_not_false (ap second_is_digit (sym e) ∙ digit_second letter written is) (no_digit_in_words s)

pub numbered_name_is : (letter n : ℕ) → is_ascii_alphabetic letter ≡ true → n < 2 ^ 32 → IsName (letter ∷ decimal n)
numbered_name_is letter n is small =
    let digits = length-decimal-le 10 n (lit< tt) (omega arith) (omega arith) in
    record {
      letters = (is, decimal_letters n (omega arith));
      no_word = λ s. no_word_with_digits letter (decimal n) s (decimal_is_IsNumeral n (omega arith)).0;
      short = omega (arith, digits);
    }

-- ---- the further inputs and the further result of a wide module

-- a letter alone that is none of those of the grammar
abbrev is_further : List ℕ → Bool
is_further (c ∷ []) = c == 100 || (c == 101 || c == 120)
is_further bytes = false

no_further_words : (s : Sign) → is_further (spelling s) ≡ false
no_further_words signs.ModuleWord = refl
no_further_words s = refl

pub further_name_is : (letter : ℕ) → is_ascii_alphabetic letter ≡ true → is_further (letter ∷ []) ≡ true → IsName (letter ∷ [])
further_name_is letter is further = record {
  letters = (is, tt);
  no_word = λ s e. true_is_not_false (ap is_further (sym e) ∙ further) (no_further_words s);
  short = omega arith;
}
