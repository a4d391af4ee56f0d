-- A text has one list of symbols, which its lexer gives, and a text that is written token by token has these tokens.
use Rattle.std.proofs.Common.{◌≡◌, ℕ, zero, suc, ◌+◌, ◌≤◌, ◌⊎◌, inl, inr, Bool, true, false, List, [], ◌∷◌, ◌++◌, length, take, drop, refl, sym, ap, ◌∙◌, subst}
use Rattle.std.proofs.Common.{arith, Option, Some, None}
use Rattle.std.specs.List.{AllByRecursion}
use Rattle.std.proofs.Math.Seq.{take-append_seam, drop-append_seam}
use Rattle.std.proofs.lemmas.List.{length-take-le, length-drop, length-append}
use Rattle.ci_reading.specs.Tokens.{TokenFormat, token, stray_byte, text_end, Placed, at, BeginsWith, BeginsWithLongest, AreSymbols, behind_blank, behind_token}
use Rattle.ci_reading.specs.Tokens.{at_end, at_comment, at_stray_byte, Stands}
use Rattle.ci_reading.specs.WrittenTokens.{IsApart, IsWritten, nothing, blank_before, token_before}
use Rattle.ci_reading.specs.Lexers.{Lexer, symbols_by, symbols_behind, symbols_of, IsLexer}
use Rattle.ci_reading.proofs.BrokenLaws.{kept_append}

by_test : {P : Type 0} (b : Bool) → (b ≡ true → P) → (b ≡ false → P) → P
by_test true first second = first refl
by_test false first second = second refl

true_is_not_false : {b : Bool} → b ≡ true → b ≡ false → ⊥
true_is_not_false is not = cc

is_false : (b : Bool) → ¬ (b ≡ true) → b ≡ false
is_false true = λ no. absurd (no refl)
is_false false = λ no. refl

-- ---- the symbols of a text

module _ {T : Type 0} (format : TokenFormat T) (lexer : Lexer T) (is : IsLexer format lexer) where
  -- the rest of a token is passed over
  passed : (size n : ℕ) (text : List ℕ) → size ≤ length text
      → symbols_behind lexer size n text ≡ symbols_behind lexer 0 (n + size) (drop size text)
  unfolding symbols_behind
  passed zero n text h = let same : n ≡ n + 0 = omega arith in ap (λ k. symbols_behind lexer 0 k text) same
  passed (suc size) n [] h = absurd (omega arith)
  passed (suc size) n (c ∷ text) h =
      let same : n + 1 + size ≡ n + suc size = omega arith in
      passed size (n + 1) text (omega arith) ∙ ap (λ k. symbols_behind lexer 0 k (drop size text)) same

  -- where the longest token is found, the symbols are this token and those of the rest
  pub found_first : (n c : ℕ) (text : List ℕ) (t : T) (size : ℕ) → lexer.is_blank c ≡ false → lexer.begins_comment c ≡ false
      → lexer.scan c text ≡ Some (t, size) → symbols_behind lexer 0 n (c ∷ text)
      ≡ at n (token t) ∷ symbols_behind lexer 0 (n + length (c ∷ take size text)) (drop size text)
  unfolding symbols_behind
  found_first n c text t size blank comment e =
      let most = (is.found c text t size e).0 in
      let place : n + 1 + size ≡ n + length (c ∷ take size text) = omega (arith, length-take-le size text most) in
      rw (blank, comment, e)
      (ap (λ later. at n (token t) ∷ later) (passed size (n + 1) text most
      ∙ ap (λ k. symbols_behind lexer 0 k (drop size text)) place))

  -- one token alone is the longest, spelt by the same bytes
  same_longest : (text : List ℕ) (t u : T) (bytes rest others more : List ℕ) → BeginsWithLongest format text t bytes rest
      → BeginsWithLongest format text u others more → (t ≡ u) × (bytes ≡ others) × (rest ≡ more)
  same_longest text t u bytes rest others more first second =
      let below = first.is_longest u others more second.begins in
      let above = second.is_longest t bytes rest first.begins in
      let size : length bytes ≡ length others = omega arith in
      let texts : bytes ++ rest ≡ others ++ more = sym first.begins.is_text ∙ second.begins.is_text in
      let same : bytes ≡ others =
      sym (take-append_seam bytes rest) ∙ ((λ i. take (size i) (texts i)) ∙ take-append_seam others more) in
      let back : rest ≡ more =
      sym (drop-append_seam bytes rest) ∙ ((λ i. drop (size i) (texts i)) ∙ drop-append_seam others more) in
      (is.clear.one_token others t u (subst (λ b. format.Spells b t) same first.begins.spells) second.begins.spells, same, back)

  token_first : (n : ℕ) (text : List ℕ) (t : T) (bytes rest : List ℕ) → BeginsWithLongest format text t bytes rest
      → symbols_behind lexer 0 n text ≡ at n (token t) ∷ symbols_behind lexer 0 (n + length bytes) rest
  token_first n text t [] rest longest = absurd (is.clear.not_empty t longest.begins.spells)
  token_first n [] t (c ∷ bytes) rest longest = let e = longest.begins.is_text in absurd (cc)
  token_first n (d ∷ text) t (c ∷ bytes) rest longest =
      let split = longest.begins.is_text in
      let head : c ≡ d = cc in
      let spells = longest.begins.spells in
      let blank = is_false (lexer.is_blank d) (λ e. is.clear.no_blank c bytes t spells (subst format.IsBlank (sym head) (is.blank_is d e))) in
      let comment = is_false (lexer.begins_comment d)
      (λ e. is.clear.no_comment c bytes t spells (subst format.BeginsComment (sym head) (is.comment_is d e))) in
      by blank comment (lexer.scan d text) refl
    where
      by : lexer.is_blank d ≡ false → lexer.begins_comment d ≡ false → (o : Option (T × ℕ)) → lexer.scan d text ≡ o
          → symbols_behind lexer 0 n (d ∷ text) ≡ at n (token t) ∷ symbols_behind lexer 0 (n + length (c ∷ bytes)) rest
      by blank comment None e = absurd (is.none d text e t (c ∷ bytes) rest longest.begins)
      by blank comment (Some (u, size)) e =
          let other = (is.found d text u size e).1 in
          let same = same_longest (d ∷ text) u t (d ∷ take size text) (drop size text) (c ∷ bytes) rest other longest in
          found_first n d text u size blank comment e
          ∙ (λ i. at n (token (same.0 i)) ∷ symbols_behind lexer 0 (n + length (same.1 i)) (same.2 i))

  -- no other list is that of the text
  pub only_symbols : {n : ℕ} {text : List ℕ} {symbols : List (Placed T)} → AreSymbols format n text symbols
      → symbols ≡ symbols_behind lexer 0 n text
  unfolding symbols_behind
  only_symbols (behind_blank {n} {c} {text} blank more) = rw (is.is_blank c blank) (only_symbols more)
  only_symbols (behind_token {n} {text} {bytes} {rest} {t} longest more) =
      ap (λ later. at n (token t) ∷ later) (only_symbols more) ∙ sym (token_first n text t bytes rest longest)
  only_symbols at_end = refl
  only_symbols (at_comment {n} {c} {comment} begins) =
      let blank = is_false (lexer.is_blank c) (λ e. is.clear.not_both c (is.blank_is c e) begins) in
      rw (blank, is.is_comment c begins) refl
  only_symbols (at_stray_byte {n} {c} {text} solid inside none) =
      let blank = is_false (lexer.is_blank c) (λ e. solid (is.blank_is c e)) in
      let comment = is_false (lexer.begins_comment c) (λ e. inside (is.comment_is c e)) in
      rw (blank, comment) (by (lexer.scan c text) refl)
    where
      by : (o : Option (T × ℕ)) → lexer.scan c text ≡ o
          → at n stray_byte ∷ [] ≡ symbols_by n o (λ size. symbols_behind lexer size (n + 1) text)
      by None e = refl
      by (Some (t, size)) e = absurd (none t (c ∷ take size text) (drop size text) (is.found c text t size e).1.begins)

  pub one_list : {n : ℕ} {text : List ℕ} {first second : List (Placed T)} → AreSymbols format n text first
      → AreSymbols format n text second → first ≡ second
  one_list first second = only_symbols first ∙ sym (only_symbols second)

  -- the lexer's list is that of the text
  lists : (most n : ℕ) (text : List ℕ) → length text ≤ most → AreSymbols format n text (symbols_behind lexer 0 n text)
  unfolding symbols_behind
  lists most n [] h = at_end
  lists zero n (c ∷ text) h = absurd (omega arith)
  lists (suc most) n (c ∷ text) h =
      by_test (lexer.is_blank c) (λ e. rw e (behind_blank (is.blank_is c e) (lists most (n + 1) text (omega arith))))
      (λ blank. by_test (lexer.begins_comment c) (λ e. rw (blank, e) (at_comment (is.comment_is c e)))
      (λ comment. by blank comment (lists most) (lexer.scan c text) refl))
    where
      by : lexer.is_blank c ≡ false → lexer.begins_comment c ≡ false
          → ((n : ℕ) (text : List ℕ) → length text ≤ most → AreSymbols format n text (symbols_behind lexer 0 n text))
          → (o : Option (T × ℕ)) → lexer.scan c text ≡ o
          → AreSymbols format n (c ∷ text) (symbols_behind lexer 0 n (c ∷ text))
      by blank comment later None e =
          rw (blank, comment, e)
          (at_stray_byte (λ b. true_is_not_false (is.is_blank c b) blank) (λ b. true_is_not_false (is.is_comment c b) comment)
          (is.none c text e))
      by blank comment later (Some (t, size)) e =
          let f = is.found c text t size e in
          let short : length (drop size text) ≤ most = omega (arith, length-drop size text) in
          subst (AreSymbols format n (c ∷ text)) (sym (found_first n c text t size blank comment e))
          (behind_token f.1 (later (n + length (c ∷ take size text)) (drop size text) short))

  pub are_symbols : (text : List ℕ) → AreSymbols format 0 text (symbols_of lexer text)
  are_symbols text = lists (length text) 0 text (omega arith)

-- ---- written texts

-- of two fronts of one text the second is no longer, or it goes on from the first
front_cases : (xs ys us vs : List ℕ) → xs ++ ys ≡ us ++ vs
    → (length us ≤ length xs) ⊎ ((c : ℕ) × (more : List ℕ) × (us ≡ xs ++ c ∷ more) × (ys ≡ c ∷ more ++ vs))
front_cases [] ys [] vs e = inl (omega arith)
front_cases [] ys (c ∷ us) vs e = inr (c, us, refl, e)
front_cases (x ∷ xs) ys [] vs e = inl (omega arith)
front_cases (x ∷ xs) ys (u ∷ us) vs e =
    let head : x ≡ u = cc in
    let tail : xs ++ ys ≡ us ++ vs = cc in
    elim (front_cases xs ys us vs tail) [
      | inl below ↦ inl (omega arith)
      | inr longer ↦ inr (longer.0, longer.1, (λ i. sym head i ∷ longer.2 i), longer.3)
    ]

-- each byte behind the first has the property
abbrev pub AllTail : (ℕ → Type 0) → List ℕ → Type 0
AllTail P [] = Unit {0}
AllTail P (c ∷ bytes) = AllByRecursion P bytes

all_behind : (P : ℕ → Type 0) (front : List ℕ) (c : ℕ) (rest : List ℕ) → AllByRecursion P (front ++ c ∷ rest) → P c
all_behind P [] c rest all = all.0
all_behind P (d ∷ front) c rest all = all_behind P front c rest all.1

module _ {T : Type 0} (format : TokenFormat T) where
  -- where a byte stands behind the first byte of no token, it joins with none
  pub apart_from : (P : ℕ → Type 0) → ((bytes : List ℕ) (t : T) → format.Spells bytes t → AllTail P bytes)
      → ((t : T) → ¬ format.Spells [] t) → (bytes : List ℕ) (t : T) (c : ℕ) (rest : List ℕ) → format.Spells bytes t → ¬ P c
      → IsApart format bytes (c ∷ rest)
  apart_from P tails some [] t c rest s without = absurd (some t s)
  apart_from P tails some (d ∷ bytes) t c rest s without = λ more u joined.
      without (all_behind P bytes c more (tails (d ∷ bytes ++ c ∷ more) u joined))

  -- tokens that are apart are the longest
  pub apart_longest : (t : T) (bytes rest : List ℕ) → format.Spells bytes t → IsApart format bytes rest
      → BeginsWithLongest format (bytes ++ rest) t bytes rest
  apart_longest t bytes rest spells apart = record {
    begins = record { spells = spells; is_text = refl };
    is_longest = λ other others more b. by other others more b (front_cases bytes rest others more b.is_text);
  }
    where
      by : (other : T) (others more : List ℕ) → BeginsWith format (bytes ++ rest) other others more
          → (length others ≤ length bytes) ⊎ ((c : ℕ) × (next : List ℕ) × (others ≡ bytes ++ c ∷ next) × (rest ≡ c ∷ next ++ more))
          → length others ≤ length bytes
      by other others more b (inl below) = below
      by other others more b (inr longer) =
          let here : IsApart format bytes (longer.0 ∷ longer.1 ++ more) = subst (IsApart format bytes) longer.3 apart in
          absurd (here longer.1 other (subst (λ k. format.Spells k other) longer.2 b.spells))

  -- a written text has these tokens, and ends behind them
  pub record HasTokens (n : ℕ) (text : List ℕ) (tokens : List T) : Type 0 where
    pub symbols : List (Placed T)
    pub are : AreSymbols format n text symbols
    pub stand : Stands symbols tokens text_end (n + length text)

  pub written_tokens : {text : List ℕ} {tokens : List T} → IsWritten format text tokens → (n : ℕ) → HasTokens n text tokens
  written_tokens nothing n = record { symbols = at n text_end ∷ []; are = at_end; stand = (refl, omega arith) }
  written_tokens (blank_before {c} {text} {tokens} blank more) n =
      let later = written_tokens more (n + 1) in
      let place : n + 1 + length text ≡ n + length (c ∷ text) = omega arith in
      record {
        symbols = later.symbols;
        are = behind_blank blank later.are;
        stand = subst (Stands later.symbols tokens text_end) place later.stand;
      }
  written_tokens (token_before {bytes} {rest} {t} {tokens} spells apart more) n =
      let later = written_tokens more (n + length bytes) in
      let place : n + length bytes + length rest ≡ n + length (bytes ++ rest) = omega (arith, length-append bytes rest) in
      record {
        symbols = at n (token t) ∷ later.symbols;
        are = behind_token (apart_longest t bytes rest spells apart) later.are;
        stand = (refl, subst (Stands later.symbols tokens text_end) place later.stand);
      }

  -- what each blank and each byte of a token is, each byte of the text is
  pub written_all : (P : ℕ → Type 0) → ((c : ℕ) → format.IsBlank c → P c)
      → ((bytes : List ℕ) (t : T) → format.Spells bytes t → AllByRecursion P bytes)
      → {text : List ℕ} {tokens : List T} → IsWritten format text tokens → AllByRecursion P text
  written_all P blanks spelt nothing = tt
  written_all P blanks spelt (blank_before {c} blank more) = (blanks c blank, written_all P blanks spelt more)
  written_all P blanks spelt (token_before {bytes} {rest} {t} spells apart more) =
      kept_append P bytes rest (spelt bytes t spells) (written_all P blanks spelt more)
