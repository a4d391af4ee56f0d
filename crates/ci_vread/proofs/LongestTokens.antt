-- The scan finds the longest token with which a text begins, so that a text has one list of symbols.
use Rattle.std.proofs.Common.{◌≡◌, ℕ, suc, ◌+◌, ◌-◌, ◌<◌, ◌≤◌, ◌⊎◌, inl, inr, true, false, ◌&&◌, eqb, ltb, List, [], ◌∷◌, ◌++◌, length, take, drop, refl}
use Rattle.std.proofs.Common.{sym, ap, ◌∙◌, subst, arith, lit≤, codes, take-append-drop, length-append, Option, Some, None}
use Rattle.std.specs.Str.Parse.{IsNumeral, digits_value}
use Rattle.std.specs.Char.{is_ascii_alphabetic, is_ascii_digit, is_ascii_hexdigit}
use Rattle.std.proofs.Math.Seq.{take-append_seam, get_or-append_seam}
use Rattle.std.proofs.lemmas.Bool.{and_right, cond-true, cond-false, cond_both, lt-ltb, le-ltb}
use Rattle.std.proofs.lemmas.List.{length-take-le}
use Rattle.ci_verilog.specs.declared.expressions.Operator.{Operator}
use Rattle.ci_verilog.specs.declared.expressions.Operator.TheVariants.{Less}
use Rattle.ci_reading.specs.Tokens.{Placed, BeginsWith, BeginsWithLongest, AreSymbols}
use Rattle.ci_reading.specs.Lexers.{IsClear, IsLexer, symbols_of}
use Rattle.ci_reading.proofs.TokenLaws as tokens
use Rattle.ci_vread.specs.declared.bytes.ByteClass.TheVariants.{InName, Digit, HexDigit}
use Rattle.ci_vread.specs.declared.tokens.Sign.{Sign}
use Rattle.ci_vread.specs.declared.tokens.Sign.TheVariants.{ModuleWord, InputWord, OutputWord, WireWord, AssignWord, EndModuleWord, NameA, NameB, NameC, NameY}
use Rattle.ci_vread.specs.declared.tokens.Sign.TheVariants.{NameZ}
use Rattle.ci_vread.specs.Lexicon.{Token, sign, operator, name, number, constant, cycles, spelling, operator_spelling, AreLetters, IsNumber, constant_spelling}
use Rattle.ci_vread.specs.Lexicon.{Spells, of_sign, of_operator, of_name, of_number, of_constant, of_cycles, long_name, bad_number, bad_constant, IsBlank}
use Rattle.ci_vread.specs.Lexicon.{unit_format}
use Rattle.ci_vread.specs.private.Scanning.{run, front, byte_at, words, shifts, among, word_by, word_token, is_good, constant_token}
use Rattle.ci_vread.specs.private.Scanning.{is_value, number_behind, number_at, cycles_at, word_at, mark_by, mark_at, scan, behind_first, unit_lexer}
use Rattle.ci_vread.proofs.Runs.{letter_in_name, digit_no_letter, below_digit, below_hex, blank_yes, blank_no, AllOf, all_by_test, run_most, Stops}
use Rattle.ci_vread.proofs.Runs.{run_exact, front_exact, rest_exact, digits_all, hex_all}
use Rattle.ci_vread.proofs.Numbers.{number_good, not_good}
use Rattle.ci_vread.proofs.FoundTokens.{among_is, IsFound, IsFoundBy, constant_text, cycles_spelling, cycles_text, scan_found}

-- so many bytes or more are found
abbrev pub IsAtLeast : ℕ → Option (Token × ℕ) → Type 0
IsAtLeast n None = ⊥
IsAtLeast n (Some (t, size)) = n ≤ size

-- ---- letters

letters_scan : (text : List ℕ) → is_ascii_alphabetic (byte_at text 0) ≡ true → scan text ≡ Some (word_at text)
unfolding scan
letters_scan text e = cond-true (is_ascii_alphabetic (byte_at text 0)) _ _ e

letters_first : (bytes rest : List ℕ) → AreLetters bytes → is_ascii_alphabetic (byte_at (bytes ++ rest) 0) ≡ true
letters_first [] rest letters = absurd letters
letters_first (c ∷ bytes) rest letters = letters.0

letters_all : (bytes : List ℕ) → AreLetters bytes → AllOf InName bytes
letters_all [] letters = absurd letters
letters_all (c ∷ bytes) letters = (letter_in_name c letters.0, letters.1)

letters_most : (bytes rest : List ℕ) → AreLetters bytes → IsAtLeast (length bytes) (scan (bytes ++ rest))
letters_most bytes rest letters =
    subst (IsAtLeast (length bytes)) (sym (letters_scan (bytes ++ rest) (letters_first bytes rest letters)))
    (run_most InName bytes rest (letters_all bytes letters))

letters_exact : (bytes : List ℕ) → AreLetters bytes → scan (bytes ++ []) ≡ Some (word_token bytes, length bytes)
letters_exact bytes letters =
    let all = letters_all bytes letters in
    let same = front_exact InName bytes [] all refl in
    let size = run_exact InName bytes [] all refl in
    letters_scan (bytes ++ []) (letters_first bytes [] letters) ∙ (λ i. Some (word_token (same i), size i))

name_token : (bytes : List ℕ) → ((s : Sign) → ¬ (bytes ≡ spelling s)) → length bytes ≤ 32 → word_token bytes ≡ name bytes
name_token bytes none short =
    cond-false (ltb 32 (length bytes)) _ _ (le-ltb 32 (length bytes) short) ∙ by (among spelling words bytes) refl
  where
    by : (o : Option Sign) → among spelling words bytes ≡ o → word_by bytes o ≡ name bytes
    by None e = refl
    by (Some s) e = absurd (none s (among_is spelling words bytes s e))

-- ---- digits

digits_scan : (text : List ℕ) → is_ascii_digit (byte_at text 0) ≡ true → scan text ≡ Some (number_at text)
unfolding scan
digits_scan text e =
    cond-false (is_ascii_alphabetic (byte_at text 0)) _ _ (digit_no_letter (byte_at text 0) e)
    ∙ cond-true (is_ascii_digit (byte_at text 0)) _ _ e

digits_first : (digits rest : List ℕ) → IsNumeral 10 digits → is_ascii_digit (byte_at (digits ++ rest) 0) ≡ true
digits_first [] rest numeral = absurd (omega (arith, numeral.0))
digits_first (c ∷ digits) rest numeral = below_digit c numeral.1.0

hex_first : (digits rest : List ℕ) → IsNumeral 16 digits → is_ascii_hexdigit (byte_at (digits ++ rest) 0) ≡ true
hex_first [] rest numeral = absurd (omega (arith, numeral.0))
hex_first (c ∷ digits) rest numeral = below_hex c numeral.1.0

number_behind_most : (n : ℕ) (width : List ℕ) (size : ℕ) (text : List ℕ) → n ≤ size → IsAtLeast n (Some (number_behind width size text))
number_behind_most n width size text below =
    cond_both (is_value text) _ _ (λ found. IsAtLeast n (Some found)) (λ e. omega arith) (λ e. below)

digits_most : (digits rest : List ℕ) → IsNumeral 10 digits → IsAtLeast (length digits) (scan (digits ++ rest))
unfolding number_at
digits_most digits rest numeral =
    let text = digits ++ rest in
    subst (IsAtLeast (length digits)) (sym (digits_scan text (digits_first digits rest numeral)))
    (number_behind_most (length digits) (front Digit text) (run Digit text) (drop (run Digit text) text)
    (run_most Digit digits rest (digits_all digits numeral.1)))

-- where no further digit stands
number_scan : (digits rest : List ℕ) → IsNumeral 10 digits → Stops Digit rest → scan (digits ++ rest) ≡ Some (number_behind digits (length digits) rest)
unfolding number_at
number_scan digits rest numeral stops =
    let all = digits_all digits numeral.1 in
    let same = front_exact Digit digits rest all stops in
    let size = run_exact Digit digits rest all stops in
    let others = rest_exact Digit digits rest all stops in
    digits_scan (digits ++ rest) (digits_first digits rest numeral) ∙ (λ i. Some (number_behind (same i) (size i) (others i)))

-- ---- constants

constant_scan : (width digits rest : List ℕ) → IsNumeral 10 width → IsNumeral 16 digits
    → scan (constant_spelling width digits ++ rest)
    ≡ Some (constant_token width (front HexDigit (digits ++ rest)), length width + 2 + run HexDigit (digits ++ rest))
constant_scan width digits rest numeral hex =
    ap scan (sym (constant_text width digits rest))
    ∙ (number_scan width (39 ∷ 104 ∷ (digits ++ rest)) numeral refl
    ∙ ap Some (cond-true (is_ascii_hexdigit (byte_at (digits ++ rest) 0)) _ _ (hex_first digits rest hex)))

constant_length : (width digits : List ℕ) → length (constant_spelling width digits) ≡ length width + 2 + length digits
constant_length width digits = omega (arith, length-append (width ++ codes "'h") digits, length-append width (codes "'h"))

constant_most : (width digits rest : List ℕ) → IsNumeral 10 width → IsNumeral 16 digits
    → IsAtLeast (length (constant_spelling width digits)) (scan (constant_spelling width digits ++ rest))
constant_most width digits rest numeral hex =
    let most = run_most HexDigit digits rest (hex_all digits hex.1) in
    subst (IsAtLeast (length (constant_spelling width digits))) (sym (constant_scan width digits rest numeral hex))
    (omega (arith, constant_length width digits))

constant_exact : (width digits : List ℕ) → IsNumeral 10 width → IsNumeral 16 digits
    → scan (constant_spelling width digits ++ []) ≡ Some (constant_token width digits, length (constant_spelling width digits))
constant_exact width digits numeral hex =
    let all = hex_all digits hex.1 in
    let same = front_exact HexDigit digits [] all refl in
    let size : length width + 2 + run HexDigit (digits ++ []) ≡ length (constant_spelling width digits) =
    omega (arith, constant_length width digits, run_exact HexDigit digits [] all refl) in
    constant_scan width digits [] numeral hex ∙ (λ i. Some (constant_token width (same i), size i))

-- ---- cycles

cycles_scan : (digits : List ℕ) (n : ℕ) (rest : List ℕ) → IsNumber digits n
    → scan (cycles_spelling digits ++ rest) ≡ Some (cycles n, length (cycles_spelling digits))
unfolding scan cycles_at
cycles_scan digits n rest is =
    let good = number_good digits n is in
    let all = digits_all digits good.numeral.1 in
    let text = digits ++ 10 ∷ rest in
    let same = front_exact Digit digits (10 ∷ rest) all refl in
    let size = run_exact Digit digits (10 ∷ rest) all refl in
    let byte : byte_at text (run Digit text) ≡ 10 = ap (byte_at text) size ∙ get_or-append_seam digits 10 rest 0 in
    let proper : is_good (front Digit text) ≡ true = ap is_good same ∙ good.good in
    let value : digits_value 10 (front Digit text) ≡ n = ap (digits_value 10) same ∙ good.value in
    let all_size : run Digit text + 11 ≡ length (cycles_spelling digits) =
    omega (arith, length-append (codes "// cycles " ++ digits) (codes "\n"), length-append (codes "// cycles ") digits) in
    let both : (is_good (front Digit text) && eqb (byte_at text (run Digit text)) 10) ≡ true =
    (λ i. proper i && eqb (byte i) 10) in
    ap scan (sym (cycles_text digits rest))
    ∙ (cond-true (is_good (front Digit text) && eqb (byte_at text (run Digit text)) 10) _ _ both ∙ (λ i. Some (cycles (value i), all_size i)))

-- ---- words and marks

sign_most : (s : Sign) (rest : List ℕ) → IsAtLeast (length (spelling s)) (scan (spelling s ++ rest))
unfolding scan mark_at
sign_most ModuleWord rest = letters_most (codes "module") rest (refl, all_by_test InName (codes "odule") refl)
sign_most InputWord rest = letters_most (codes "input") rest (refl, all_by_test InName (codes "nput") refl)
sign_most OutputWord rest = letters_most (codes "output") rest (refl, all_by_test InName (codes "utput") refl)
sign_most WireWord rest = letters_most (codes "wire") rest (refl, all_by_test InName (codes "ire") refl)
sign_most AssignWord rest = letters_most (codes "assign") rest (refl, all_by_test InName (codes "ssign") refl)
sign_most EndModuleWord rest = letters_most (codes "endmodule") rest (refl, all_by_test InName (codes "ndmodule") refl)
sign_most NameA rest = letters_most (codes "a") rest (refl, tt)
sign_most NameB rest = letters_most (codes "b") rest (refl, tt)
sign_most NameC rest = letters_most (codes "c") rest (refl, tt)
sign_most NameY rest = letters_most (codes "y") rest (refl, tt)
sign_most NameZ rest = letters_most (codes "z") rest (refl, tt)
sign_most other rest = lit≤ tt

sign_exact : (s : Sign) → scan (spelling s ++ []) ≡ Some (sign s, length (spelling s))
unfolding scan mark_at
sign_exact ModuleWord = refl
sign_exact other = refl

less_most : (o : Option Operator) → IsAtLeast 1 (mark_by o 60)
less_most None = lit≤ tt
less_most (Some o) = lit≤ tt

operator_most : (o : Operator) (rest : List ℕ) → IsAtLeast (length (operator_spelling o)) (scan (operator_spelling o ++ rest))
unfolding scan mark_at
operator_most Less rest = less_most (among operator_spelling shifts (60 ∷ byte_at rest 0 ∷ []))
operator_most other rest = lit≤ tt

operator_exact : (o : Operator) → scan (operator_spelling o ++ []) ≡ Some (operator o, length (operator_spelling o))
unfolding scan mark_at
operator_exact Less = refl
operator_exact other = refl

-- ---- all tokens

-- no token that the text begins with is longer
spelled_most : {bytes : List ℕ} {t : Token} → Spells bytes t → (rest : List ℕ) → IsAtLeast (length bytes) (scan (bytes ++ rest))
spelled_most (of_sign s) rest = sign_most s rest
spelled_most (of_operator o) rest = operator_most o rest
spelled_most (of_name {bytes} letters no_sign short) rest = letters_most bytes rest letters
spelled_most (of_number {digits} {n} is) rest = digits_most digits rest (number_good digits n is).numeral
spelled_most (of_constant {width} digits {w} is hex few) rest = constant_most width digits rest (number_good width w is).numeral hex
spelled_most (of_cycles {digits} {n} is) rest =
    let least : length (cycles_spelling digits) ≤ length (cycles_spelling digits) = omega arith in
    subst (IsAtLeast (length (cycles_spelling digits))) (sym (cycles_scan digits n rest is)) least
spelled_most (long_name {bytes} letters long) rest = letters_most bytes rest letters
spelled_most (bad_number {digits} numeral none) rest = digits_most digits rest numeral
spelled_most (bad_constant {width} digits numeral hex bad) rest = constant_most width digits rest numeral hex

-- where the token's bytes are all that is left, it is found
spelled_exact : {bytes : List ℕ} {t : Token} → Spells bytes t → scan (bytes ++ []) ≡ Some (t, length bytes)
spelled_exact (of_sign s) = sign_exact s
spelled_exact (of_operator o) = operator_exact o
spelled_exact (of_name {bytes} letters no_sign short) =
    letters_exact bytes letters ∙ ap (λ t. Some (t, length bytes)) (name_token bytes no_sign short)
spelled_exact (of_number {digits} {n} is) =
    let good = number_good digits n is in
    number_scan digits [] good.numeral refl
    ∙ ap (λ t. Some (t, length digits)) (cond-true (is_good digits) _ _ good.good ∙ ap number good.value)
spelled_exact (of_constant {width} digits {w} is hex few) =
    let good = number_good width w is in
    let both : (is_good width && ltb (length digits) 17) ≡ true = rw (good.good, lt-ltb (length digits) 17 (omega arith)) refl in
    constant_exact width digits good.numeral hex
    ∙ ap (λ t. Some (t, length (constant_spelling width digits)))
    (cond-true (is_good width && ltb (length digits) 17) _ _ both ∙ ap (λ n. constant n (digits_value 16 digits)) good.value)
spelled_exact (of_cycles {digits} {n} is) = cycles_scan digits n [] is
spelled_exact (long_name {bytes} letters long) =
    letters_exact bytes letters ∙ ap (λ t. Some (t, length bytes)) (cond-true (ltb 32 (length bytes)) _ _ (lt-ltb 32 (length bytes) long))
spelled_exact (bad_number {digits} numeral none) =
    number_scan digits [] numeral refl
    ∙ ap (λ t. Some (t, length digits)) (cond-false (is_good digits) _ _ (not_good digits numeral.1 none))
spelled_exact (bad_constant {width} digits numeral hex bad) =
    constant_exact width digits numeral hex
    ∙ ap (λ t. Some (t, length (constant_spelling width digits))) (cond-false (is_good width && ltb (length digits) 17) _ _ (by bad))
  where
    by : ((n : ℕ) → ¬ IsNumber width n) ⊎ (16 < length digits) → (is_good width && ltb (length digits) 17) ≡ false
    by (inl none) = rw (not_good width numeral.1 none) refl
    by (inr long) = and_right (is_good width) (ltb (length digits) 17) (le-ltb (length digits) 17 long)

-- ---- the lexer

begun : (text : List ℕ) (t : Token) (bytes rest : List ℕ) → BeginsWith unit_format text t bytes rest → IsAtLeast (length bytes) (scan text)
begun text t bytes rest b = subst (λ k. IsAtLeast (length bytes) (scan k)) (sym b.is_text) (spelled_most b.spells rest)

blank_none : (c : ℕ) (text : List ℕ) → IsBlank c → scan (c ∷ text) ≡ None
unfolding scan mark_at
blank_none c text (inl e) = subst (λ k. scan (k ∷ text) ≡ None) (sym e) refl
blank_none c text (inr (inl e)) = subst (λ k. scan (k ∷ text) ≡ None) (sym e) refl
blank_none c text (inr (inr e)) = subst (λ k. scan (k ∷ text) ≡ None) (sym e) refl

same_pair : (p q : Token × ℕ) → Some p ≡ Some q → p ≡ q
same_pair p q e = cc

format_clear : IsClear unit_format
unfolding scan mark_at
format_clear = record {
  one_token = λ bytes t u s r.
      let both = sym (spelled_exact s) ∙ spelled_exact r in
      ap (λ p. p.0) (same_pair (t, length bytes) (u, length bytes) both);
  not_empty = λ t s. let both = spelled_exact s in cc;
  no_blank = λ c bytes t s blank. let both = sym (blank_none c (bytes ++ []) blank) ∙ spelled_exact s in cc;
  no_comment = λ c bytes t s e. e;
  not_both = λ c blank e. e;
}

-- what is found, by the bytes behind the first
pub record IsFoundBehind (c : ℕ) (text : List ℕ) (t : Token) (size : ℕ) : Type 0 where
  pub some : 0 < size
  pub within : size ≤ suc (length text)
  pub spells : Spells (c ∷ take (size - 1) text) t

pub found_behind : (c : ℕ) (text : List ℕ) (t : Token) (size : ℕ) → IsFound (c ∷ text) t size → IsFoundBehind c text t size
found_behind c text t size f = by f.bytes f.rest f.is_text f.spells f.is_size
  where
    by : (bytes rest : List ℕ) → c ∷ text ≡ bytes ++ rest → Spells bytes t → size ≡ length bytes → IsFoundBehind c text t size
    by [] rest is s e = absurd (format_clear.not_empty t s)
    by (b ∷ bytes) rest is s e =
        let head : c ≡ b = cc in
        let tail : text ≡ bytes ++ rest = cc in
        let less : size - 1 ≡ length bytes = omega arith in
        let same : take (size - 1) text ≡ bytes = (λ i. take (less i) (tail i)) ∙ take-append_seam bytes rest in
        record {
          some = omega arith;
          within = omega (arith, ap length tail, length-append bytes rest);
          spells = subst (λ k. Spells k t) (sym (λ i. head i ∷ same i)) s;
        }

found_longest : (c : ℕ) (text : List ℕ) (t : Token) (size : ℕ) → behind_first (scan (c ∷ text)) ≡ Some (t, size)
    → (size ≤ length text) × BeginsWithLongest unit_format (c ∷ text) t (c ∷ take size text) (drop size text)
found_longest c text t size e = by (scan (c ∷ text)) refl (scan_found (c ∷ text)) e
  where
    by : (o : Option (Token × ℕ)) → scan (c ∷ text) ≡ o → IsFoundBy (c ∷ text) o → behind_first o ≡ Some (t, size)
        → (size ≤ length text) × BeginsWithLongest unit_format (c ∷ text) t (c ∷ take size text) (drop size text)
    by None is f e = absurd (cc)
    by (Some (u, n)) is f e =
        let pair = same_pair (u, n - 1) (t, size) e in
        let same = ap (λ p. p.0) pair in
        let size_is = ap (λ p. p.1) pair in
        let found = found_behind c text u n f in
        let near : size ≤ length text = omega (arith, found.within, found.some) in
        let spells : Spells (c ∷ take size text) t =
        subst (λ k. Spells (c ∷ take k text) t) size_is (subst (Spells (c ∷ take (n - 1) text)) same found.spells) in (
          near,
          record {
            begins = record { spells = spells; is_text = ap (λ k. c ∷ k) (sym (take-append-drop size text)) };
            is_longest = λ other others more b.
                let most = subst (IsAtLeast (length others)) is (begun (c ∷ text) other others more b) in
                omega (arith, length-take-le size text near, found.some);
          },
        )

found_none : (c : ℕ) (text : List ℕ) → behind_first (scan (c ∷ text)) ≡ None
    → (t : Token) (bytes rest : List ℕ) → ¬ BeginsWith unit_format (c ∷ text) t bytes rest
found_none c text e t bytes rest b = by (scan (c ∷ text)) e (begun (c ∷ text) t bytes rest b)
  where
    by : (o : Option (Token × ℕ)) → behind_first o ≡ None → ¬ IsAtLeast (length bytes) o
    by None e least = least
    by (Some (u, n)) e least = absurd (cc)

pub is_lexer : IsLexer unit_format unit_lexer
is_lexer = record {
  clear = format_clear;
  blank_is = blank_yes;
  is_blank = blank_no;
  comment_is = λ c e. absurd (cc);
  is_comment = λ c e. absurd e;
  found = found_longest;
  none = found_none;
}

-- ---- the symbols of a text

-- the lexer's list is that of the text
pub are_symbols : (text : List ℕ) → AreSymbols unit_format 0 text (symbols_of unit_lexer text)
are_symbols text = tokens.are_symbols unit_format unit_lexer is_lexer text

-- no other list is
pub only_symbols : (text : List ℕ) (symbols : List (Placed Token)) → AreSymbols unit_format 0 text symbols → symbols ≡ symbols_of unit_lexer text
only_symbols text symbols are = tokens.only_symbols unit_format unit_lexer is_lexer are

pub one_list : (text : List ℕ) (first second : List (Placed Token)) → AreSymbols unit_format 0 text first
    → AreSymbols unit_format 0 text second → first ≡ second
one_list text first second one other = tokens.one_list unit_format unit_lexer is_lexer one other
