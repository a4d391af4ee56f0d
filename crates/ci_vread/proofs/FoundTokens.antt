-- What the scan of a text finds begins the text.
use Rattle.std.proofs.Common.{◌≡◌, ℕ, zero, suc, ◌+◌, ◌<◌, ◌≤◌, ◌⊎◌, inl, inr, Bool, true, false, ◌&&◌, eqb, ltb, List, [], ◌∷◌, ◌++◌, length, take, drop}
use Rattle.std.proofs.Common.{refl, sym, ap, ◌∙◌, subst, arith, codes, append_assoc, take-append-drop, length-append, Option, Some, None}
use Rattle.std.specs.Str.{bytes_eq}
use Rattle.std.specs.Str.Parse.{IsNumeral}
use Rattle.std.specs.Char.{is_ascii_alphabetic, is_ascii_digit, is_ascii_hexdigit}
use Rattle.std.proofs.lemmas.Bool.{and_parts, and_cases, cond_both, eqb-true, ltb-true, ltb-false}
use Rattle.std.proofs.lemmas.Bool.Decides.{nat_tests}
use Rattle.std.proofs.lemmas.Slice.Eq.{bytes_eq-Decides}
use Rattle.ci_verilog.specs.declared.expressions.Operator.{Operator}
use Rattle.ci_vread.specs.declared.bytes.ByteClass.TheVariants.{InName, Digit, HexDigit}
use Rattle.ci_vread.specs.declared.tokens.Sign.{Sign}
use Rattle.ci_vread.specs.declared.tokens.Sign.TheVariants.{ModuleWord, InputWord, OutputWord, WireWord, AssignWord, EndModuleWord, NameA, NameB, NameC, NameY}
use Rattle.ci_vread.specs.declared.tokens.Sign.TheVariants.{NameZ}
use Rattle.ci_vread.specs.Lexicon.{Token, sign, spelling, operator_spelling, AreLetters, constant_spelling, Spells, of_sign, of_operator, of_name, of_number}
use Rattle.ci_vread.specs.Lexicon.{IsNumber, of_constant, of_cycles, long_name, bad_number, bad_constant}
use Rattle.ci_vread.specs.private.Scanning.{run, front, byte_at, words, marks, singles, shifts, among, word_by, word_token, is_good, number_token}
use Rattle.ci_vread.specs.private.Scanning.{constant_token, is_value, number_behind, number_at, cycles_behind, cycles_at, word_at, single_by, single, mark_by, mark_at}
use Rattle.ci_vread.specs.private.Scanning.{scan}
use Rattle.ci_vread.proofs.Runs.{true_is_not_false, letter_in_name, run_all, front_more, run_length, run_splits, all_digits, all_hex}
use Rattle.ci_vread.proofs.Numbers.{good_number, bad_digits}

-- ---- words and marks

-- what is found among others is written so
pub among_is : {A : Type 0} (written : A → List ℕ) (xs : List A) (bytes : List ℕ) (x : A) → among written xs bytes ≡ Some x → bytes ≡ written x
among_is written [] bytes x e = absurd (cc)
among_is written (first ∷ xs) bytes x e =
    cond_both (bytes_eq bytes (written first)) (Some first) (among written xs bytes) (λ o. o ≡ Some x → bytes ≡ written x)
    (λ same is. let head : first ≡ x = cc in (bytes_eq-Decides bytes (written first)).0 same ∙ ap written head)
    (λ other is. among_is written xs bytes x is) e

-- a sign of letters is a word
pub word_found : (s : Sign) → AreLetters (spelling s) → among spelling words (spelling s) ≡ Some s
word_found ModuleWord letters = refl
word_found InputWord letters = refl
word_found OutputWord letters = refl
word_found WireWord letters = refl
word_found AssignWord letters = refl
word_found EndModuleWord letters = refl
word_found NameA letters = refl
word_found NameB letters = refl
word_found NameC letters = refl
word_found NameY letters = refl
word_found NameZ letters = refl
word_found other letters = absurd (true_is_not_false letters.0 refl)

-- ---- what is found

-- the text begins with the token, in so many bytes
pub record IsFound (text : List ℕ) (t : Token) (size : ℕ) : Type 0 where
  pub bytes : List ℕ
  pub rest : List ℕ
  pub is_text : text ≡ bytes ++ rest
  pub spells : Spells bytes t
  pub is_size : size ≡ length bytes

abbrev pub IsFoundBy : List ℕ → Option (Token × ℕ) → Type 0
IsFoundBy text None = Unit {0}
IsFoundBy text (Some (t, size)) = IsFound text t size

-- letters are a word, a name, or too many
letters_found : (bytes : List ℕ) → AreLetters bytes → Spells bytes (word_token bytes)
letters_found bytes letters =
    cond_both (ltb 32 (length bytes)) _ _ (Spells bytes) (λ e. long_name letters (ltb-true 32 (length bytes) e))
    (λ e. by (ltb-false 32 (length bytes) e) (among spelling words bytes) refl)
  where
    by : length bytes ≤ 32 → (o : Option Sign) → among spelling words bytes ≡ o → Spells bytes (word_by bytes o)
    by short None e = of_name letters
        (λ s same.
        let none = sym (word_found s (subst AreLetters same letters)) ∙ (ap (among spelling words) (sym same) ∙ e) in
        absurd (cc)) short
    by short (Some s) e = subst (λ b. Spells b (sign s)) (sym (among_is spelling words bytes s e)) (of_sign s)

are_letters : (c : ℕ) (text : List ℕ) → is_ascii_alphabetic c ≡ true → AreLetters (front InName (c ∷ text))
are_letters c text e = subst AreLetters (sym (front_more InName c text (letter_in_name c e))) (e, run_all InName text)

word_is_found : (text : List ℕ) → is_ascii_alphabetic (byte_at text 0) ≡ true → IsFoundBy text (Some (word_at text))
word_is_found [] e = absurd (cc)
word_is_found (c ∷ text) e = record {
  bytes = front InName (c ∷ text);
  rest = drop (run InName (c ∷ text)) (c ∷ text);
  is_text = sym (run_splits InName (c ∷ text));
  spells = letters_found (front InName (c ∷ text)) (are_letters c text e);
  is_size = sym (run_length InName (c ∷ text));
}

-- ---- numbers

number_spelt : (digits : List ℕ) → IsNumeral 10 digits → Spells digits (number_token digits)
number_spelt digits numeral =
    cond_both (is_good digits) _ _ (Spells digits) (λ e. of_number (good_number digits numeral.1 e)) (λ e. bad_number numeral (bad_digits digits e))

constant_spelt : (width digits : List ℕ) → IsNumeral 10 width → IsNumeral 16 digits → Spells (constant_spelling width digits) (constant_token width digits)
constant_spelt width digits numeral hex =
    cond_both (is_good width && ltb (length digits) 17) _ _ (Spells (constant_spelling width digits))
    (λ e. let both = and_parts (is_good width) (ltb (length digits) 17) e in
    let few : length digits ≤ 16 = grind (arith, nat_tests) in
    of_constant digits (good_number width numeral.1 both.0) hex few)
    (λ e. bad_constant digits numeral hex (by (and_cases (is_good width) (ltb (length digits) 17) e)))
  where
    by : (is_good width ≡ false) ⊎ (ltb (length digits) 17 ≡ false) → ((n : ℕ) → ¬ IsNumber width n) ⊎ (16 < length digits)
    by (inl e) = inl (bad_digits width e)
    by (inr e) = inr (ltb-false (length digits) 17 e)

-- a run of digits with one at its head
digits_numeral : (c : ℕ) (text : List ℕ) → is_ascii_digit c ≡ true → IsNumeral 10 (front Digit (c ∷ text))
digits_numeral c text e =
    subst (IsNumeral 10) (sym (front_more Digit c text e)) (omega arith, all_digits (c ∷ front Digit text) (e, run_all Digit text))

hex_numeral : (c : ℕ) (text : List ℕ) → is_ascii_hexdigit c ≡ true → IsNumeral 16 (front HexDigit (c ∷ text))
hex_numeral c text e =
    subst (IsNumeral 16) (sym (front_more HexDigit c text e)) (omega arith, all_hex (c ∷ front HexDigit text) (e, run_all HexDigit text))

pub constant_text : (width digits rest : List ℕ) → width ++ 39 ∷ 104 ∷ (digits ++ rest) ≡ constant_spelling width digits ++ rest
constant_text width digits rest = simp append_assoc

number_is_found : (text digits rest : List ℕ) → text ≡ digits ++ rest → IsNumeral 10 digits → IsFoundBy text (Some (number_behind digits (length digits) rest))
number_is_found text digits rest is_text numeral =
    cond_both (is_value rest) _ _ (λ found. IsFoundBy text (Some found)) (by rest is_text)
    (λ e. record { bytes = digits; rest = rest; is_text = is_text; spells = number_spelt digits numeral; is_size = refl })
  where
    by : (rest : List ℕ) → text ≡ digits ++ rest → is_value rest ≡ true
        → IsFoundBy text (Some (constant_token digits (front HexDigit (drop 2 rest)), length digits + 2 + run HexDigit (drop 2 rest)))
    by [] is e = absurd (cc)
    by (q ∷ []) is e = absurd (true_is_not_false (and_parts (eqb q 39 && false) false e).1 refl)
    by (q ∷ h ∷ []) is e = absurd (true_is_not_false (and_parts (eqb q 39 && eqb h 104) false e).1 refl)
    by (q ∷ h ∷ d ∷ more) is e =
        let both = and_parts (eqb q 39 && eqb h 104) (is_ascii_hexdigit d) e in
        let marks = and_parts (eqb q 39) (eqb h 104) both.0 in
        let first = eqb-true q 39 marks.0 in
        let second = eqb-true h 104 marks.1 in
        let hex = front HexDigit (d ∷ more) in
        let behind = drop (run HexDigit (d ∷ more)) (d ∷ more) in
        let split = sym (run_splits HexDigit (d ∷ more)) in
        record {
          bytes = constant_spelling digits hex;
          rest = behind;
          is_text = is ∙ ((λ i. digits ++ first i ∷ second i ∷ split i) ∙ constant_text digits hex behind);
          spells = constant_spelt digits hex numeral (hex_numeral d more both.1);
          is_size = omega (arith, length-append (digits ++ codes "'h") hex, length-append digits (codes "'h"), run_length HexDigit (d ∷ more));
        }

numbers_found : (text : List ℕ) → is_ascii_digit (byte_at text 0) ≡ true → IsFoundBy text (Some (number_at text))
unfolding number_at
numbers_found [] e = absurd (cc)
numbers_found (c ∷ text) e =
    let digits = front Digit (c ∷ text) in
    let rest = drop (run Digit (c ∷ text)) (c ∷ text) in
    subst (λ n. IsFoundBy (c ∷ text) (Some (number_behind digits n rest))) (run_length Digit (c ∷ text))
    (number_is_found (c ∷ text) digits rest (sym (run_splits Digit (c ∷ text))) (digits_numeral c text e))

-- ---- cycles

-- a byte that isn't 0 stands there
next_byte : (n c : ℕ) (text : List ℕ) → 0 < c → byte_at text n ≡ c → drop n text ≡ c ∷ drop (suc n) text
next_byte n c [] some e = absurd (omega arith)
next_byte zero c (x ∷ text) some e = ap (λ k. k ∷ text) e
next_byte (suc n) c (x ∷ text) some e = next_byte n c text some e

abbrev pub cycles_spelling : List ℕ → List ℕ
cycles_spelling digits = codes "// cycles " ++ digits ++ codes "\n"

pub cycles_text : (digits rest : List ℕ) → codes "// cycles " ++ (digits ++ 10 ∷ rest) ≡ cycles_spelling digits ++ rest
cycles_text digits rest = simp append_assoc

cycles_behind_found : (text rest : List ℕ) → text ≡ codes "// cycles " ++ rest → IsFoundBy text (cycles_behind rest)
cycles_behind_found text rest is =
    let digits = front Digit rest in
    let size = run Digit rest in
    cond_both (is_good digits && eqb (byte_at rest size) 10) _ _ (IsFoundBy text)
    (λ e. let both = and_parts (is_good digits) (eqb (byte_at rest size) 10) e in
    let newline = next_byte size 10 rest (omega arith) (eqb-true (byte_at rest size) 10 both.1) in
    let split = sym (run_splits Digit rest) ∙ ap (λ r. digits ++ r) newline in
    record {
      bytes = cycles_spelling digits;
      rest = drop (suc size) rest;
      is_text = is ∙ (ap (λ r. codes "// cycles " ++ r) split ∙ cycles_text digits (drop (suc size) rest));
      spells = of_cycles (good_number digits (all_digits digits (run_all Digit rest)) both.0);
      is_size = omega (arith, length-append (codes "// cycles " ++ digits) (codes "\n"), length-append (codes "// cycles ") digits, run_length Digit rest);
    })
    (λ e. tt)

cycles_found : (text : List ℕ) → IsFoundBy text (cycles_at text)
unfolding cycles_at
cycles_found text =
    cond_both (bytes_eq (codes "// cycles ") (take 10 text)) _ _ (IsFoundBy text)
    (λ e. let head = sym ((bytes_eq-Decides (codes "// cycles ") (take 10 text)).0 e) in
    cycles_behind_found text (drop 10 text) (sym (take-append-drop 10 text) ∙ ap (λ k. k ++ drop 10 text) head))
    (λ e. tt)

-- ---- marks

single_found : (c : ℕ) (more : List ℕ) → IsFoundBy (c ∷ more) (single c)
single_found c more = by (among operator_spelling singles (c ∷ [])) refl (among spelling marks (c ∷ [])) refl
  where
    by : (o : Option Operator) → among operator_spelling singles (c ∷ []) ≡ o → (s : Option Sign) → among spelling marks (c ∷ []) ≡ s
        → IsFoundBy (c ∷ more) (single_by o s)
    by (Some o) is s other =
        let same = among_is operator_spelling singles (c ∷ []) o is in
        record { bytes = operator_spelling o; rest = more; is_text = ap (λ b. b ++ more) same; spells = of_operator o; is_size = ap length same }
    by None is (Some s) other =
        let same = among_is spelling marks (c ∷ []) s other in
        record { bytes = spelling s; rest = more; is_text = ap (λ b. b ++ more) same; spells = of_sign s; is_size = ap length same }
    by None is None other = tt

and_false : (b : Bool) → (b && false) ≡ false
and_false true = refl
and_false false = refl

mark_found : (text : List ℕ) → IsFoundBy text (mark_at (byte_at text 0) (byte_at text 1))
unfolding mark_at
mark_found [] = tt
mark_found (c ∷ []) = rw (and_false (eqb c 60), and_false (eqb c 62)) (single_found c [])
mark_found (c ∷ d ∷ more) = by (among operator_spelling shifts (c ∷ d ∷ [])) refl
  where
    by : (o : Option Operator) → among operator_spelling shifts (c ∷ d ∷ []) ≡ o → IsFoundBy (c ∷ d ∷ more) (mark_by o c)
    by (Some o) is =
        let same = among_is operator_spelling shifts (c ∷ d ∷ []) o is in
        record { bytes = operator_spelling o; rest = more; is_text = ap (λ b. b ++ more) same; spells = of_operator o; is_size = ap length same }
    by None is = single_found c (d ∷ more)

-- ---- the scan

pub scan_found : (text : List ℕ) → IsFoundBy text (scan text)
unfolding scan
scan_found text =
    let first = byte_at text 0 in
    let P = IsFoundBy text in
    cond_both (is_ascii_alphabetic first) _ _ P (word_is_found text)
    (λ a. cond_both (is_ascii_digit first) _ _ P (numbers_found text)
    (λ b. cond_both (eqb first 47) _ _ P (λ e. cycles_found text) (λ d. mark_found text)))
