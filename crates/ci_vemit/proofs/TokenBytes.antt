-- Which bytes a token may have behind its first one: so what stands next to it, if it is none of these, doesn't join.
use Rattle.std.proofs.Common.{◌≡◌, ℕ, zero, suc, ◌/◌, ◌%◌, ◌<◌, ◌≤◌, Bool, true, false, not, cond, ◌&&◌, ◌||◌, ◌==◌, List, [], ◌∷◌, ◌++◌, length, refl, ap, ◌∙◌}
use Rattle.std.proofs.Common.{arith}
use Rattle.std.specs.Prelude.{codes, if◌then◌else◌, IsTrue}
use Rattle.std.specs.List.{list_all, AllByRecursion}
use Rattle.std.specs.Char.{is_ascii_alphabetic, is_ascii_alphanumeric, digit_value}
use Rattle.std.specs.Fmt.{decimal, digits, digits_onto, digit_glyph}
use Rattle.std.specs.Str.Parse.{AllDigits, IsNumeral}
use Rattle.std.proofs.lemmas.Bool.Decides.{nat_tests}
use Rattle.std.proofs.lemmas.List.Folds.{list_all-append}
use Rattle.ci_reading.specs.WrittenTokens.{IsApart}
use Rattle.ci_verilog.specs.declared.expressions.Operator.{Operator}
use Rattle.ci_verilog.specs.declared.expressions.Operator.TheVariants as operators
use Rattle.ci_vread.specs.declared.tokens.Sign.{Sign}
use Rattle.ci_vread.specs.declared.tokens.Sign.TheVariants as signs
use Rattle.ci_vread.specs.Lexicon.{Token, AreLetters, IsNumber, spelling, operator_spelling, constant_spelling, Spells, of_sign, of_operator, of_name}
use Rattle.ci_vread.specs.Lexicon.{of_number, of_constant, of_cycles, long_name, bad_number, bad_constant, unit_format}

-- ---- tests of bytes

-- letters, digits, `_`, `'`, `<` and `>`, which may stand behind a token's first byte
abbrev pub joins : ℕ → Bool
joins c = (is_ascii_alphanumeric c || c == 95) || (c == 39 || (c == 60 || c == 62))

-- the bytes that are tokens by themselves, and nothing longer
abbrev pub is_mark : ℕ → Bool
is_mark c =
    ((c == 40 || c == 41) || (c == 91 || c == 93)) || ((c == 123 || c == 125) || ((c == 44 || c == 59) || ((c == 58 || c == 61) || c == 63)))

-- the second byte may stand in a token behind this first one; in the line of the cycles any may
abbrev may_follow : ℕ → ℕ → Bool
may_follow first c = if first == 47 then true else (if is_mark first then false else joins c)

abbrev proper : List ℕ → Bool
proper [] = true
proper (c ∷ bytes) = list_all (may_follow c) bytes

-- the token is no mark, and not the line of the cycles
abbrev pub is_word : List ℕ → Bool
is_word [] = false
is_word (c ∷ bytes) = not (c == 47) && not (is_mark c)

-- no newline stands before the last byte
abbrev ends_there : List ℕ → Bool
ends_there [] = true
ends_there (c ∷ []) = true
ends_there (c ∷ d ∷ bytes) = not (c == 10) && ends_there (d ∷ bytes)

both_true : (a b : Bool) → a ≡ true → b ≡ true → (a && b) ≡ true
both_true true true first second = refl
both_true true false first second = second
both_true false b first second = first

pub and_both : (a b : Bool) → (a && b) ≡ true → (a ≡ true) × (b ≡ true)
and_both true true e = (refl, refl)
and_both true false e = absurd (cc)
and_both false true e = absurd (cc)
and_both false false e = absurd (cc)

weaker : (first second : ℕ → Bool) → ((c : ℕ) → first c ≡ true → second c ≡ true) → (bytes : List ℕ) → list_all first bytes ≡ true
    → list_all second bytes ≡ true
weaker first second is [] all = refl
weaker first second is (c ∷ bytes) all =
    let both = and_both (first c) (list_all first bytes) all in
    both_true (second c) (list_all second bytes) (is c both.0) (weaker first second is bytes both.1)

joined : (xs ys : List ℕ) → list_all joins xs ≡ true → list_all joins ys ≡ true → list_all joins (xs ++ ys) ≡ true
joined xs ys first second = list_all-append joins xs ys ∙ both_true (list_all joins xs) (list_all joins ys) first second

within : (test : ℕ → Bool) (front : List ℕ) (c : ℕ) (rest : List ℕ) → list_all test (front ++ c ∷ rest) ≡ true → test c ≡ true
within test [] c rest all = (and_both (test c) (list_all test rest) all).0
within test (d ∷ front) c rest all = within test front c rest (and_both (test d) (list_all test (front ++ c ∷ rest)) all).1

follows : (first c : ℕ) → joins first ≡ true → joins c ≡ true → may_follow first c ≡ true
follows first c is also = grind (arith, nat_tests)

word_byte : (c : ℕ) → joins c ≡ true → (not (c == 47) && not (is_mark c)) ≡ true
word_byte c is = grind (arith, nat_tests)

proper_word : (bytes : List ℕ) → list_all joins bytes ≡ true → proper bytes ≡ true
proper_word [] all = refl
proper_word (c ∷ bytes) all =
    let both = and_both (joins c) (list_all joins bytes) all in
    weaker joins (may_follow c) (λ d. follows c d both.0) bytes both.1

solid : (c : ℕ) → joins c ≡ true → not (c == 10) ≡ true
solid c is = grind (arith, nat_tests)

ends_word : (bytes : List ℕ) → list_all joins bytes ≡ true → ends_there bytes ≡ true
ends_word [] all = refl
ends_word (c ∷ []) all = refl
ends_word (c ∷ d ∷ bytes) all =
    let both = and_both (joins c) (list_all joins (d ∷ bytes)) all in
    both_true (not (c == 10)) (ends_there (d ∷ bytes)) (solid c both.0) (ends_word (d ∷ bytes) both.1)

-- what such bytes alone spell is no mark
pub word_of_joins : (bytes : List ℕ) → 0 < length bytes → list_all joins bytes ≡ true → is_word bytes ≡ true
word_of_joins [] some all = absurd (omega arith)
word_of_joins (c ∷ bytes) some all = word_byte c (and_both (joins c) (list_all joins bytes) all).0

-- ---- the bytes of names and numbers

letter_joins : (c : ℕ) → (is_ascii_alphanumeric c || c == 95) ≡ true → joins c ≡ true
letter_joins c is = ap (λ b. b || (c == 39 || (c == 60 || c == 62))) is

first_letter : (c : ℕ) → is_ascii_alphabetic c ≡ true → joins c ≡ true
first_letter c is = grind (arith, nat_tests)

letters_join : (bytes : List ℕ) → AllByRecursion (λ c. IsTrue (is_ascii_alphanumeric c || c == 95)) bytes → list_all joins bytes ≡ true
letters_join [] all = refl
letters_join (c ∷ bytes) all = both_true (joins c) (list_all joins bytes) (letter_joins c all.0) (letters_join bytes all.1)

pub name_joins : (bytes : List ℕ) → AreLetters bytes → list_all joins bytes ≡ true
name_joins [] are = absurd are
name_joins (c ∷ bytes) are = both_true (joins c) (list_all joins bytes) (first_letter c are.0) (letters_join bytes are.1)

digit_joins : (c : ℕ) → digit_value c < 16 → joins c ≡ true
digit_joins c small = grind (arith, nat_tests)

pub digits_join : (base : ℕ) (bytes : List ℕ) → base ≤ 16 → AllDigits base bytes → list_all joins bytes ≡ true
digits_join base [] small all = refl
digits_join base (c ∷ bytes) small all =
    both_true (joins c) (list_all joins bytes) (digit_joins c (omega (arith, all.0))) (digits_join base bytes small all.1)

glyph_joins : (n : ℕ) → joins (digit_glyph false (n % 10)) ≡ true
glyph_joins n = by (n % 10) (omega arith)
  where
    by : (d : ℕ) → d < 10 → joins (digit_glyph false d) ≡ true
    by d small = grind (arith, nat_tests)

either : (test b : Bool) (xs ys : List ℕ) → list_all joins xs ≡ true → list_all joins ys ≡ true → list_all joins (cond test xs ys) ≡ true
either true b xs ys first second = first
either false b xs ys first second = second

onto_joins : (k n : ℕ) (behind : List ℕ) → list_all joins behind ≡ true → list_all joins (digits_onto k 10 false n behind) ≡ true
onto_joins zero n behind all = all
onto_joins (suc k) n behind all =
    let more = both_true (joins (digit_glyph false (n % 10))) (list_all joins behind) (glyph_joins n) all in
    either (n / 10 == 0) true (digit_glyph false (n % 10) ∷ behind) (digits_onto k 10 false (n / 10) (digit_glyph false (n % 10) ∷ behind)) more
    (onto_joins k (n / 10) (digit_glyph false (n % 10) ∷ behind) more)

pub decimal_joins : (n : ℕ) → list_all joins (decimal n) ≡ true
unfolding digits
decimal_joins n = onto_joins 64 n [] refl

number_joins : (written : List ℕ) (n : ℕ) → IsNumber written n → list_all joins written ≡ true
number_joins written n is = ap (list_all joins) is.0 ∙ decimal_joins n

pub constant_joins : (width written : List ℕ) → list_all joins width ≡ true → IsNumeral 16 written → list_all joins (constant_spelling width written) ≡ true
constant_joins width written all is =
    joined (width ++ codes "'h") written (joined width (codes "'h") all refl) (digits_join 16 written (omega arith) is.1)

-- ---- the bytes of tokens

sign_proper : (s : Sign) → proper (spelling s) ≡ true
sign_proper signs.ModuleWord = refl
sign_proper s = refl

operator_proper : (o : Operator) → proper (operator_spelling o) ≡ true
operator_proper operators.Plus = refl
operator_proper o = refl

all_follow : (bytes : List ℕ) → list_all (may_follow 47) bytes ≡ true
all_follow [] = refl
all_follow (c ∷ bytes) = all_follow bytes

spelt_proper : {bytes : List ℕ} {t : Token} → Spells bytes t → proper bytes ≡ true
spelt_proper (of_sign s) = sign_proper s
spelt_proper (of_operator o) = operator_proper o
spelt_proper (of_name {bytes} letters no_word short) = proper_word bytes (name_joins bytes letters)
spelt_proper (of_number {digits = written} {n} is) = proper_word written (number_joins written n is)
spelt_proper (of_constant {width} written {w} is are few) =
    proper_word (constant_spelling width written) (constant_joins width written (number_joins width w is) are)
spelt_proper (of_cycles {digits = written} is) = all_follow (codes "/ cycles " ++ written ++ codes "\n")
spelt_proper (long_name {bytes} letters long) = proper_word bytes (name_joins bytes letters)
spelt_proper (bad_number {digits = written} are none) = proper_word written (digits_join 10 written (omega arith) are.1)
spelt_proper (bad_constant {width} written of_width are none) =
    proper_word (constant_spelling width written) (constant_joins width written (digits_join 10 width (omega arith) of_width.1) are)

sign_ends : (s : Sign) → ends_there (spelling s) ≡ true
sign_ends signs.ModuleWord = refl
sign_ends s = refl

operator_ends : (o : Operator) → ends_there (operator_spelling o) ≡ true
operator_ends operators.Plus = refl
operator_ends o = refl

newline_last : (bytes : List ℕ) → list_all joins bytes ≡ true → ends_there (bytes ++ 10 ∷ []) ≡ true
newline_last [] all = refl
newline_last (c ∷ []) all = both_true (not (c == 10)) true (solid c (and_both (joins c) true all).0) refl
newline_last (c ∷ d ∷ bytes) all =
    let both = and_both (joins c) (list_all joins (d ∷ bytes)) all in
    both_true (not (c == 10)) (ends_there (d ∷ bytes ++ 10 ∷ [])) (solid c both.0) (newline_last (d ∷ bytes) both.1)

-- a newline behind one byte or more of the front
cycles_end : (written : List ℕ) → list_all joins written ≡ true → ends_there (codes "// cycles " ++ written ++ codes "\n") ≡ true
cycles_end [] all = refl
cycles_end (c ∷ written) all = newline_last (c ∷ written) all

spelt_ends : {bytes : List ℕ} {t : Token} → Spells bytes t → ends_there bytes ≡ true
spelt_ends (of_sign s) = sign_ends s
spelt_ends (of_operator o) = operator_ends o
spelt_ends (of_name {bytes} letters no_word short) = ends_word bytes (name_joins bytes letters)
spelt_ends (of_number {digits = written} {n} is) = ends_word written (number_joins written n is)
spelt_ends (of_constant {width} written {w} is are few) =
    ends_word (constant_spelling width written) (constant_joins width written (number_joins width w is) are)
spelt_ends (of_cycles {digits = written} {n} is) = cycles_end written (number_joins written n is)
spelt_ends (long_name {bytes} letters long) = ends_word bytes (name_joins bytes letters)
spelt_ends (bad_number {digits = written} are none) = ends_word written (digits_join 10 written (omega arith) are.1)
spelt_ends (bad_constant {width} written of_width are none) =
    ends_word (constant_spelling width written) (constant_joins width written (digits_join 10 width (omega arith) of_width.1) are)

-- ---- tokens that are apart

no_word_follows : (first c : ℕ) → (not (first == 47) && not (is_mark first)) ≡ true → joins c ≡ false → ¬ (may_follow first c ≡ true)
no_word_follows first c word apart = λ may. absurd (grind (arith, nat_tests))

-- a name, a number, a constant, a word or an operator, and a byte that doesn't join
pub word_apart : (bytes : List ℕ) (c : ℕ) (rest : List ℕ) → is_word bytes ≡ true → joins c ≡ false → IsApart unit_format bytes (c ∷ rest)
word_apart [] c rest word apart = absurd (cc)
word_apart (d ∷ bytes) c rest word apart = λ more t spells.
    no_word_follows d c word apart (within (may_follow d) bytes c more (spelt_proper spells))

-- a mark, whatever follows it
pub mark_apart : (c : ℕ) (rest : List ℕ) → is_mark c ≡ true → IsApart unit_format (c ∷ []) rest
mark_apart c [] mark = tt
mark_apart c (d ∷ rest) mark = λ more t spells.
    let follow : may_follow c d ≡ true = within (may_follow c) [] d more (spelt_proper spells) in
    absurd (grind (arith, nat_tests))

newline_inside : (front : List ℕ) (d : ℕ) (more : List ℕ) → ¬ (ends_there (front ++ 10 ∷ [] ++ d ∷ more) ≡ true)
newline_inside [] d more = λ e. absurd (cc)
newline_inside (c ∷ []) d more = λ e. newline_inside [] d more (and_both (not (c == 10)) (ends_there (10 ∷ d ∷ more)) e).1
newline_inside (c ∷ b ∷ front) d more = λ e.
    newline_inside (b ∷ front) d more (and_both (not (c == 10)) (ends_there (b ∷ front ++ 10 ∷ [] ++ d ∷ more)) e).1

-- a line, whatever follows it
pub line_apart : (front rest : List ℕ) → IsApart unit_format (front ++ 10 ∷ []) rest
line_apart front [] = tt
line_apart front (d ∷ rest) = λ more t spells. newline_inside front d more (spelt_ends spells)
