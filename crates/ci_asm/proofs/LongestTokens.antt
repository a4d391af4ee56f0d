-- The scan of a line finds the longest token that begins at its place.
use Rattle.std.proofs.Common.{◌≡◌, ℕ, suc, ◌+◌, ◌≤◌, ◌⊎◌, inl, inr, Bool, true, false, cond, ◌&&◌, eqb, List, [], ◌∷◌, ◌++◌, length, take, drop, refl, sym, ap}
use Rattle.std.proofs.Common.{◌∙◌, subst, arith, lit≤, Option, Some, None}
use Rattle.std.specs.Prelude.{if◌then◌else◌, ◌==◌}
use Rattle.std.specs.List.{prefix_len, AllByRecursion}
use Rattle.std.proofs.lemmas.Bool.{cond_both, eqb-true}
use Rattle.std.proofs.lemmas.Bool.Decides.{nat_tests}
use Rattle.std.proofs.lemmas.List.Sums.{prefix_len-le-length}
use Rattle.std.proofs.lemmas.List.{take-append-drop, length-take-le}
use Rattle.ci_reading.specs.Tokens.{BeginsWith}
use Rattle.ci_reading.specs.Lexers.{Lexer, IsClear, IsLexer}
use Rattle.ci_asm.specs.declared.scanner.ByteClass.TheVariants.{Blank, NameByte, Digit, HexDigit}
use Rattle.ci_asm.specs.private.Tokens.{belongs, byte_at, run, is_letter, is_digit, is_hex_start, is_negative_start, is_directive, hex_behind, scan}
use Rattle.ci_asm.specs.Lexicon.{IsLetter, IsDigit, IsHexDigit, IsBlank, Token, name, decimal_number, hex_number, word, comma, open_bracket, close_bracket}
use Rattle.ci_asm.specs.Lexicon.{colon, spelling, StartsWith, IsToken, Spells, line_format}
use Rattle.ci_asm.proofs.TestLaws.{and_both, true_is_not_false, pick_true}

-- ---- bytes

abbrev pub IsNameByte : ℕ → Type 0
IsNameByte c = IsLetter c ⊎ IsDigit c

pub letter_yes : (c : ℕ) → is_letter c ≡ true → IsLetter c
letter_yes c e = grind (arith, nat_tests)

letter_no : (c : ℕ) → IsLetter c → is_letter c ≡ true
letter_no c h = grind (arith, nat_tests)

digit_yes : (c : ℕ) → is_digit c ≡ true → IsDigit c
digit_yes c e = grind (arith, nat_tests)

digit_no : (c : ℕ) → IsDigit c → is_digit c ≡ true
digit_no c h = grind (arith, nat_tests)

hex_yes : (c : ℕ) → belongs HexDigit c ≡ true → IsHexDigit c
hex_yes c e = grind (arith, nat_tests)

hex_no : (c : ℕ) → IsHexDigit c → belongs HexDigit c ≡ true
hex_no c h = grind (arith, nat_tests)

pub name_yes : (c : ℕ) → belongs NameByte c ≡ true → IsNameByte c
name_yes c e = grind (arith, nat_tests)

name_no : (c : ℕ) → IsNameByte c → belongs NameByte c ≡ true
name_no c h = grind (arith, nat_tests)

blank_yes : (c : ℕ) → belongs Blank c ≡ true → IsBlank c
blank_yes c e = grind (arith, nat_tests)

blank_no : (c : ℕ) → IsBlank c → belongs Blank c ≡ true
blank_no c h = grind (arith, nat_tests)

digit_no_letter : (c : ℕ) → IsDigit c → is_letter c ≡ false
digit_no_letter c h = grind (arith, nat_tests)

-- ---- runs of bytes

module _ (p : ℕ → Bool) (P : ℕ → Type 0) (yes : (c : ℕ) → p c ≡ true → P c) (no : (c : ℕ) → P c → p c ≡ true) where
  run_by : (b : Bool) (c : ℕ) (text : List ℕ) → p c ≡ b → AllByRecursion P (take (prefix_len p text) text)
      → AllByRecursion P (take (cond b (1 + prefix_len p text) 0) (c ∷ text))
  run_by true c text e others = let one : 1 + prefix_len p text ≡ suc (prefix_len p text) = omega arith in rw one (yes c e, others)
  run_by false c text e others = tt

  -- the bytes of a run
  run_all : (text : List ℕ) → AllByRecursion P (take (prefix_len p text) text)
  run_all [] = tt
  run_all (c ∷ text) = run_by (p c) c text refl (run_all text)

  -- a run that has a byte
  run_starts : (text : List ℕ) → p 0 ≡ false → p (byte_at text 0) ≡ true → StartsWith P P (take (prefix_len p text) text)
  run_starts [] zero e = absurd (true_is_not_false e zero)
  run_starts (c ∷ text) zero e =
      let one : 1 + prefix_len p text ≡ suc (prefix_len p text) = omega arith in
      rw (e, one) (yes c e, run_all text)

  -- no such bytes are more than a run
  run_most : (front after : List ℕ) → AllByRecursion P front → length front ≤ prefix_len p (front ++ after)
  run_most [] after all = omega arith
  run_most (c ∷ front) after all = let others = run_most front after all.1 in rw (no c all.0) (omega arith)

-- ---- what is found begins there

abbrev IsFound : ℕ → List ℕ → Option (Token × ℕ) → Type 0
IsFound c text None = Unit {0}
IsFound c text (Some (t, size)) = (size ≤ length text) × Spells (c ∷ take size text) t

hex_found : (c : ℕ) (text : List ℕ) → is_hex_start c text ≡ true → IsFound c text (hex_behind (drop 1 text))
hex_found c [] e = absurd (true_is_not_false (and_both _ false e).1 refl)
hex_found c (x ∷ text) e =
    let outer = and_both (eqb c 48 && eqb x 120) (belongs HexDigit (byte_at text 0)) e in
    let inner = and_both (eqb c 48) (eqb x 120) outer.0 in
    let first : c ≡ 48 = eqb-true c 48 inner.0 in
    let second : x ≡ 120 = eqb-true x 120 inner.1 in
    let one : 1 + run HexDigit text ≡ suc (run HexDigit text) = omega arith in (
      omega (arith, prefix_len-le-length (belongs HexDigit) text),
      rw one (record {
        is_token = run_starts (belongs HexDigit) IsHexDigit hex_yes hex_no text refl outer.1;
        is_spelling = λ i. first i ∷ second i ∷ take (run HexDigit text) text;
      }),
    )

negative_found : (c : ℕ) (text : List ℕ) → is_negative_start c text ≡ true
    → IsFound c text (Some (decimal_number true (take (run Digit text) text), run Digit text))
negative_found c text e =
    let both = and_both (eqb c 45) (is_digit (byte_at text 0)) e in
    let minus : c ≡ 45 = eqb-true c 45 both.0 in (
      prefix_len-le-length (belongs Digit) text,
      record {
        is_token = run_starts (belongs Digit) IsDigit digit_yes digit_no text refl both.1;
        is_spelling = λ i. minus i ∷ take (run Digit text) text;
      },
    )

directive_found : (c : ℕ) (text : List ℕ) → is_directive c text ≡ true → IsFound c text (Some (word, 4))
directive_found c (w ∷ []) e = absurd (true_is_not_false (and_both _ false e).1 refl)
directive_found c (w ∷ o ∷ r ∷ d ∷ text) e =
    let p4 = and_both (eqb c 46 && eqb w 119 && eqb o 111 && eqb r 114) (eqb d 100) e in
    let p3 = and_both (eqb c 46 && eqb w 119 && eqb o 111) (eqb r 114) p4.0 in
    let p2 = and_both (eqb c 46 && eqb w 119) (eqb o 111) p3.0 in
    let p1 = and_both (eqb c 46) (eqb w 119) p2.0 in
    let is_dot = eqb-true c 46 p1.0 in
    let is_w = eqb-true w 119 p1.1 in
    let is_o = eqb-true o 111 p2.1 in
    let is_r = eqb-true r 114 p3.1 in
    let is_d = eqb-true d 100 p4.1 in
    (omega arith, record { is_token = tt; is_spelling = λ i. is_dot i ∷ is_w i ∷ is_o i ∷ is_r i ∷ is_d i ∷ [] })
directive_found c other e = absurd (true_is_not_false (and_both _ false e).1 refl)

mark_found : (c b : ℕ) (text : List ℕ) (t : Token) → IsToken t → spelling t ≡ b ∷ [] → eqb c b ≡ true → IsFound c text (Some (t, 0))
mark_found c b text t proper spelled e =
    let same = eqb-true c b e in
    (omega arith, record { is_token = proper; is_spelling = ap (λ k. k ∷ []) same ∙ sym spelled })

scan_found : (c : ℕ) (text : List ℕ) → IsFound c text (scan c text)
unfolding scan
scan_found c text =
    let P = IsFound c text in
    cond_both (is_letter c) _ _ P
    (λ e. (
      prefix_len-le-length (belongs NameByte) text,
      record {
        is_token = (letter_yes c e, run_all (belongs NameByte) IsNameByte name_yes name_no text);
        is_spelling = refl;
      },
    ))
    (λ a. cond_both (is_hex_start c text) _ _ P (hex_found c text)
    (λ b. cond_both (is_digit c) _ _ P
    (λ e. (
      prefix_len-le-length (belongs Digit) text,
      record {
        is_token = (digit_yes c e, run_all (belongs Digit) IsDigit digit_yes digit_no text);
        is_spelling = refl;
      },
    ))
    (λ d. cond_both (is_negative_start c text) _ _ P (negative_found c text)
    (λ f. cond_both (is_directive c text) _ _ P (directive_found c text)
    (λ g. cond_both (eqb c 44) _ _ P (mark_found c 44 text comma tt refl)
    (λ h. cond_both (eqb c 40) _ _ P (mark_found c 40 text open_bracket tt refl)
    (λ j. cond_both (eqb c 41) _ _ P (mark_found c 41 text close_bracket tt refl)
    (λ k. cond_both (eqb c 58) _ _ P (mark_found c 58 text colon tt refl) (λ l. tt)))))))))

-- ---- no longer token does

abbrev IsAtLeast : ℕ → Option (Token × ℕ) → Type 0
IsAtLeast n None = ⊥
IsAtLeast n (Some (t, size)) = n ≤ 1 + size

-- the scan finds a token of so many bytes or more
abbrev pub Finds : List ℕ → ℕ → Type 0
Finds [] n = ⊥
Finds (c ∷ text) n = IsAtLeast n (scan c text)

-- no `x` stands behind a digit and further ones
pub no_x : (digits rest : List ℕ) → AllByRecursion IsDigit digits → eqb (byte_at (digits ++ rest) 0) 120 ≡ true → digits ≡ []
no_x [] rest all e = refl
no_x (d ∷ digits) rest all e = let digit = all.0 in absurd (grind (arith, nat_tests))

decimal_most : (c : ℕ) (digits rest : List ℕ) → IsDigit c → AllByRecursion IsDigit digits → Finds (c ∷ (digits ++ rest)) (length (c ∷ digits))
unfolding scan
decimal_most c digits rest digit all =
    let text = digits ++ rest in
    let most = run_most (belongs Digit) IsDigit digit_yes digit_no digits rest all in
    rw (digit_no_letter c digit) (cond_both (is_hex_start c text) _ _ (IsAtLeast (length (c ∷ digits)))
    (λ e.
    let second = and_both (eqb c 48) (eqb (byte_at text 0) 120) (and_both (eqb c 48 && eqb (byte_at text 0) 120) (belongs HexDigit (byte_at text 1)) e).0 in
    let none = no_x digits rest all second.1 in
    omega (arith, ap length none))
    (λ e. rw (digit_no c digit) (omega arith)))

spelling_found : (t : Token) (rest : List ℕ) → IsToken t → Finds (spelling t ++ rest) (length (spelling t))
unfolding scan
spelling_found (name []) rest proper = absurd proper
spelling_found (name (c ∷ bytes)) rest proper =
    let most = run_most (belongs NameByte) IsNameByte name_yes name_no bytes rest proper.1 in
    rw (letter_no c proper.0) (omega arith)
spelling_found (decimal_number true []) rest proper = absurd proper
spelling_found (decimal_number true (d ∷ digits)) rest proper =
    let most = run_most (belongs Digit) IsDigit digit_yes digit_no digits rest proper.1 in
    rw (digit_no d proper.0) (omega arith)
spelling_found (decimal_number false []) rest proper = absurd proper
spelling_found (decimal_number false (d ∷ digits)) rest proper = decimal_most d digits rest proper.0 proper.1
spelling_found (hex_number []) rest proper = absurd proper
spelling_found (hex_number (d ∷ digits)) rest proper =
    let most = run_most (belongs HexDigit) IsHexDigit hex_yes hex_no digits rest proper.1 in
    rw (hex_no d proper.0) (omega arith)
spelling_found other rest proper = lit≤ tt

pub begun : (text : List ℕ) (t : Token) (bytes rest : List ℕ) → BeginsWith line_format text t bytes rest → Finds text (length bytes)
begun text t bytes rest b =
    let there = subst (λ k. Finds (k ++ rest) (length k)) (sym b.spells.is_spelling) (spelling_found t rest b.spells.is_token) in
    subst (λ k. Finds k (length bytes)) (sym b.is_text) there

-- ---- a token is known by its text

abbrev token_of : List ℕ → Token
token_of [] = comma
token_of (c ∷ cs) =
    if is_letter c then name (c ∷ cs)
    else (if c == 45 then decimal_number true cs
    else (if c == 46 then word
    else (if c == 44 then comma
    else (if c == 40 then open_bracket
    else (if c == 41 then close_bracket
    else (if c == 58 then colon
    else (if byte_at cs 0 == 120 then hex_number (drop 1 cs) else decimal_number false (c ∷ cs))))))))

digit_token : (d : ℕ) (ds : List ℕ) → IsDigit d → eqb (byte_at ds 0) 120 ≡ false → token_of (d ∷ ds) ≡ decimal_number false (d ∷ ds)
digit_token d ds digit plain =
    let a : eqb d 45 ≡ false = grind (arith, nat_tests) in
    let b : eqb d 46 ≡ false = grind (arith, nat_tests) in
    let c : eqb d 44 ≡ false = grind (arith, nat_tests) in
    let e : eqb d 40 ≡ false = grind (arith, nat_tests) in
    let f : eqb d 41 ≡ false = grind (arith, nat_tests) in
    let g : eqb d 58 ≡ false = grind (arith, nat_tests) in
    rw (digit_no_letter d digit, a, b, c, e, f, g, plain) refl

pub no_x_behind : (ds : List ℕ) → AllByRecursion IsDigit ds → eqb (byte_at ds 0) 120 ≡ false
no_x_behind [] all = refl
no_x_behind (d ∷ ds) all = let digit = all.0 in grind (arith, nat_tests)

token_of-spelling : (t : Token) → IsToken t → token_of (spelling t) ≡ t
token_of-spelling (name []) proper = absurd proper
token_of-spelling (name (c ∷ cs)) proper = pick_true (is_letter c) _ _ (letter_no c proper.0)
token_of-spelling (decimal_number true digits) proper = refl
token_of-spelling (decimal_number false []) proper = absurd proper
token_of-spelling (decimal_number false (d ∷ ds)) proper = digit_token d ds proper.0 (no_x_behind ds proper.1)
token_of-spelling other proper = refl

pub same_spelling : (a b : Token) → IsToken a → IsToken b → spelling a ≡ spelling b → a ≡ b
same_spelling a b first second e = sym (token_of-spelling a first) ∙ (ap token_of e ∙ token_of-spelling b second)

-- ---- the lexer

abbrev pub line_lexer : Lexer Token
line_lexer = record { is_blank = belongs Blank; begins_comment = λ c. c == 35; scan = scan }

no_head : (c : ℕ) (bytes : List ℕ) (t : Token) → Spells (c ∷ bytes) t → Finds (c ∷ bytes ++ []) (length (c ∷ bytes))
no_head c bytes t s = begun (c ∷ bytes ++ []) t (c ∷ bytes) [] (record { spells = s; is_text = refl })

pub format_clear : IsClear line_format
unfolding scan
format_clear = record {
  one_token = λ bytes t u s r. same_spelling t u s.is_token r.is_token (sym s.is_spelling ∙ r.is_spelling);
  not_empty = λ t s. begun [] t [] [] (record { spells = s; is_text = refl });
  no_blank = λ c bytes t s blank. by c bytes blank (no_head c bytes t s);
  no_comment = λ c bytes t s e. subst (λ k. Finds (k ∷ bytes ++ []) (length (k ∷ bytes))) e (no_head c bytes t s);
  not_both = λ c blank e. absurd (grind arith);
}
  where
    by : (c : ℕ) (bytes : List ℕ) → IsBlank c → ¬ Finds (c ∷ bytes ++ []) (length (c ∷ bytes))
    by c bytes (inl e) = subst (λ k. Finds (k ∷ bytes ++ []) (length (k ∷ bytes))) e
    by c bytes (inr e) = subst (λ k. Finds (k ∷ bytes ++ []) (length (k ∷ bytes))) e

pub is_lexer : IsLexer line_format line_lexer
is_lexer = record {
  clear = format_clear;
  blank_is = blank_yes;
  is_blank = blank_no;
  comment_is = λ c e. eqb-true c 35 e;
  is_comment = λ c e. ap (λ k. eqb k 35) e;
  found = λ c text t size e.
      let f = subst (IsFound c text) e (scan_found c text) in
      let split : c ∷ text ≡ c ∷ take size text ++ drop size text = ap (λ k. c ∷ k) (sym (take-append-drop size text)) in (
        f.0,
        record {
          begins = record { spells = f.1; is_text = split };
          is_longest = λ other others more b.
              let most = subst (IsAtLeast (length others)) e (begun (c ∷ text) other others more b) in
              omega (arith, length-take-le size text f.0);
        },
      );
  none = λ c text e t bytes rest b. subst (IsAtLeast (length bytes)) e (begun (c ∷ text) t bytes rest b);
}
