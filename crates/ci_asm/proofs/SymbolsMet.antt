-- What the scanner meets in a line are the line's symbols.
use Rattle.std.proofs.Common.{◌≡◌, ◌≢◌, ℕ, zero, suc, ◌+◌, ◌-◌, ◌≤◌, true, false, List, [], ◌∷◌, length, take, drop, refl, sym, ap, ◌∙◌, subst, arith, nat_le}
use Rattle.std.proofs.Common.{eqb, Option, Some, None}
use Rattle.std.specs.List.{prefix_len}
use Rattle.std.proofs.lemmas.Bool.Decides.{nat_tests}
use Rattle.std.proofs.lemmas.List.{drop_all, drop-drop, length-drop, length-take-le}
use Rattle.ci_reading.specs.Tokens as reading
use Rattle.ci_reading.specs.Tokens.{stray_byte, text_end, Placed}
use Rattle.ci_reading.specs.Lexers.{symbols_behind, symbols_of}
use Rattle.ci_reading.proofs.TokenLaws.{found_first, only_symbols, are_symbols}
use Rattle.ci_asm.specs.declared.scanner.ByteClass.TheVariants.{Blank}
use Rattle.ci_asm.specs.declared.scanner.Kind.TheVariants.{End, Bad}
use Rattle.ci_asm.specs.declared.scanner.Token.{Token}
use Rattle.ci_asm.specs.private.Tokens.{belongs, run_end, scan, kind_of, token, token_at, next_token, text_of}
use Rattle.ci_asm.specs.Lexicon as lex
use Rattle.ci_asm.specs.Lexicon.{name, spelling, IsToken, Stands, line_format}
use Rattle.ci_asm.proofs.TestLaws.{by_test}
use Rattle.ci_asm.proofs.LongestTokens.{same_spelling, line_lexer, is_lexer}

-- ---- what a token of the scanner shows

pub record IsShown (line : List ℕ) (t : Token) (shown : lex.Token) : Type 0 where
  pub kind : t.kind ≡ kind_of shown
  pub text : text_of line t ≡ spelling shown
  pub proper : IsToken shown

-- the scanner's token is the symbol
abbrev pub Shows : List ℕ → Token → lex.Symbol → Type 0
Shows line t (reading.token shown) = IsShown line t shown
Shows line t text_end = t.kind ≡ End
Shows line t stray_byte = t.kind ≡ Bad

-- behind these tokens, of which the scanner's token is the first, stands the symbol
abbrev pub Meets : List ℕ → Token → List lex.Token → lex.Symbol → ℕ → Type 0
Meets line t [] symbol column = Shows line t symbol × (t.start ≡ column)
Meets line t (first ∷ tokens) symbol column = IsShown line t first × Meets line (next_token line t.end) tokens symbol column

pub kind_no_end : (t : lex.Token) → kind_of t ≢ End
kind_no_end (name bytes) = λ e. absurd (cc)
kind_no_end other = λ e. absurd (cc)

pub kind_no_bad : (t : lex.Token) → kind_of t ≢ Bad
kind_no_bad (name bytes) = λ e. absurd (cc)
kind_no_bad other = λ e. absurd (cc)

end_no_bad : End ≢ Bad
end_no_bad = λ e. absurd (cc)

-- one symbol alone is shown by a token
pub same_symbol : (line : List ℕ) (t : Token) (a b : lex.Symbol) → Shows line t a → Shows line t b → a ≡ b
same_symbol line t (reading.token a) (reading.token b) first second =
    ap reading.token (same_spelling a b first.proper second.proper (sym first.text ∙ second.text))
same_symbol line t (reading.token a) text_end first second = absurd (kind_no_end a (sym first.kind ∙ second))
same_symbol line t (reading.token a) stray_byte first second = absurd (kind_no_bad a (sym first.kind ∙ second))
same_symbol line t text_end (reading.token b) first second = absurd (kind_no_end b (sym second.kind ∙ first))
same_symbol line t text_end text_end first second = refl
same_symbol line t text_end stray_byte first second = absurd (end_no_bad (sym first ∙ second))
same_symbol line t stray_byte (reading.token b) first second = absurd (kind_no_bad b (sym second.kind ∙ first))
same_symbol line t stray_byte text_end first second = absurd (end_no_bad (sym second ∙ first))
same_symbol line t stray_byte stray_byte first second = refl

-- ---- the symbols of a line, one after the other

-- this holds of what follows the symbol, unless it is the last
abbrev Goes : lex.Symbol → Type 0 → Type 0
Goes (reading.token t) P = P
Goes text_end P = Unit {0}
Goes stray_byte P = Unit {0}

-- the scanner, whose token is the first, meets these symbols
abbrev MeetsAll : List ℕ → Token → List (Placed lex.Token) → Type 0
MeetsAll line t [] = ⊥
MeetsAll line t (first ∷ symbols) =
    Shows line t first.symbol × (t.start ≡ first.place) × Goes first.symbol (MeetsAll line (next_token line t.end) symbols)

module _ (line : List ℕ) where
  behind : (n size : ℕ) (text : List ℕ) → drop n line ≡ text → drop (n + size) line ≡ drop size text
  behind n size text at = sym (drop-drop size n line) ∙ ap (drop size) at

  -- the next token, where no blank stands
  next_here : (n : ℕ) (text : List ℕ) → drop n line ≡ text → prefix_len (belongs Blank) text ≡ 0 → next_token line n ≡ token_at (length line) n text
  next_here n text at none =
      let here : run_end Blank line n ≡ n = ap (λ d. n + prefix_len (belongs Blank) d) at ∙ (ap (λ k. n + k) none ∙ omega arith) in
      ap (λ k. token_at (length line) k (drop k line)) here ∙ ap (token_at (length line) n) at

  -- a blank makes no difference to it
  next_blank : (n c : ℕ) (text : List ℕ) → drop n line ≡ c ∷ text → belongs Blank c ≡ true → next_token line n ≡ next_token line (n + 1)
  next_blank n c text at blank =
      let size : prefix_len (belongs Blank) (c ∷ text) ≡ 1 + prefix_len (belongs Blank) text = rw blank refl in
      let more = behind n 1 (c ∷ text) at in
      let same : run_end Blank line n ≡ run_end Blank line (n + 1) =
      ap (λ d. n + prefix_len (belongs Blank) d) at ∙ (ap (λ k. n + k) size
      ∙ (let place : n + (1 + prefix_len (belongs Blank) text) ≡ n + 1 + prefix_len (belongs Blank) text = omega arith in place
      ∙ ap (λ d. n + 1 + prefix_len (belongs Blank) d) (sym more))) in
      ap (λ k. token_at (length line) k (drop k line)) same

  meets_all : (most n : ℕ) (text : List ℕ) → drop n line ≡ text → n + length text ≡ length line → length text ≤ most
      → MeetsAll line (next_token line n) (symbols_behind line_lexer 0 n text)
  unfolding symbols_behind token_at
  meets_all most n [] at size h = rw (next_here n [] at refl) (refl, (let place : length line ≡ n = omega arith in place), tt)
  meets_all zero n (c ∷ text) at size h = absurd (omega arith)
  meets_all (suc most) n (c ∷ text) at size h =
      by_test (belongs Blank c)
      (λ e. rw (next_blank n c text at e, e) (meets_all most (n + 1) text (behind n 1 (c ∷ text) at) (omega arith) (omega arith)))
      (λ blank. rw (next_here n (c ∷ text) at (rw blank refl)) (by_test (eqb c 35)
      (λ e. rw (blank, e) (refl, sym size, tt))
      (λ inside. by blank inside (meets_all most) (scan c text) refl)))
    where
      by : belongs Blank c ≡ false → eqb c 35 ≡ false
          → ((n : ℕ) (text : List ℕ) → drop n line ≡ text → n + length text ≡ length line → length text ≤ most
          → MeetsAll line (next_token line n) (symbols_behind line_lexer 0 n text))
          → (o : Option (lex.Token × ℕ)) → scan c text ≡ o
          → MeetsAll line (token_at (length line) n (c ∷ text)) (symbols_behind line_lexer 0 n (c ∷ text))
      by blank inside later None e = rw (blank, inside, e) (refl, refl, tt)
      by blank inside later (Some (t, more)) e =
          let f = is_lexer.found c text t more e in
          let shown = token (kind_of t) n (n + 1 + more) in
          let long : n + 1 + more - n ≡ suc more = omega arith in
          let front : take (suc more) (drop n line) ≡ c ∷ take more text = ap (take (suc more)) at in
          let text_is : text_of line shown ≡ spelling t = rw (long, front) f.1.begins.spells.is_spelling in
          let end : n + 1 + more ≡ n + length (c ∷ take more text) = omega (arith, length-take-le more text f.0) in
          let there : drop (n + 1 + more) line ≡ drop more text =
          behind (n + 1) more text (behind n 1 (c ∷ text) at) in
          let all : n + 1 + more + length (drop more text) ≡ length line = omega (arith, length-drop more text, f.0) in
          let rest = later (n + 1 + more) (drop more text) there all (omega (arith, length-drop more text)) in
          let same : token_at (length line) n (c ∷ text) ≡ shown = rw (inside, e) refl in
          subst (MeetsAll line (token_at (length line) n (c ∷ text)))
          (sym (found_first line_format line_lexer is_lexer n c text t more blank inside e))
          (subst (λ u. MeetsAll line u (reading.at n (reading.token t) ∷ symbols_behind line_lexer 0 (n + length (c ∷ take more text)) (drop more text)))
          (sym same) (
            record { kind = refl; text = text_is; proper = f.1.begins.spells.is_token },
            refl,
            subst (λ k. MeetsAll line (next_token line (n + 1 + more)) (symbols_behind line_lexer 0 k (drop more text))) end rest,
          ))

  line_meets_all : MeetsAll line (next_token line 0) (symbols_of line_lexer line)
  line_meets_all = meets_all (length line) 0 line refl (omega arith) (omega arith)

  all_meets : (symbols : List (Placed lex.Token)) (t : Token) (tokens : List lex.Token) (symbol : lex.Symbol) (column : ℕ)
      → MeetsAll line t symbols → reading.Stands symbols tokens symbol column → Meets line t tokens symbol column
  all_meets [] t tokens symbol column m s = absurd m
  all_meets (p ∷ symbols) t [] symbol column m s = (subst (Shows line t) s.0 m.0, m.1 ∙ s.1)
  all_meets (p ∷ symbols) t (first ∷ tokens) symbol column m s =
      let rest = subst (λ k. Goes k (MeetsAll line (next_token line t.end) symbols)) s.0 m.2 in
      (subst (Shows line t) s.0 m.0, all_meets symbols (next_token line t.end) tokens symbol column rest s.1)

  meets_stand : (symbols : List (Placed lex.Token)) (t : Token) (tokens : List lex.Token) (symbol : lex.Symbol) (column : ℕ)
      → MeetsAll line t symbols → Meets line t tokens symbol column → reading.Stands symbols tokens symbol column
  meets_stand [] t tokens symbol column m n = absurd m
  meets_stand (p ∷ symbols) t [] symbol column m n = (same_symbol line t p.symbol symbol m.0 n.0, sym m.1 ∙ n.1)
  meets_stand (p ∷ symbols) t (first ∷ tokens) symbol column m n =
      let same = same_symbol line t p.symbol (reading.token first) m.0 n.0 in
      let rest = subst (λ k. Goes k (MeetsAll line (next_token line t.end) symbols)) same m.2 in
      (same, meets_stand symbols (next_token line t.end) tokens symbol column rest n.1)

  -- what stands in a line, the scanner meets
  pub line_meets : (tokens : List lex.Token) (symbol : lex.Symbol) (column : ℕ) → Stands line tokens symbol column
      → Meets line (next_token line 0) tokens symbol column
  line_meets tokens symbol column s =
      let listed = subst (λ l. reading.Stands l tokens symbol column) (only_symbols line_format line_lexer is_lexer s.1) s.2 in
      all_meets (symbols_of line_lexer line) (next_token line 0) tokens symbol column line_meets_all listed

  -- and what it meets stands there
  pub line_stands : (tokens : List lex.Token) (symbol : lex.Symbol) (column : ℕ) → Meets line (next_token line 0) tokens symbol column
      → Stands line tokens symbol column
  line_stands tokens symbol column m = (
    symbols_of line_lexer line,
    are_symbols line_format line_lexer is_lexer line,
    meets_stand (symbols_of line_lexer line)
        (next_token line 0) tokens symbol column line_meets_all m,
  )

  first_shown : (t : Token) (symbols : List (Placed lex.Token)) → MeetsAll line t symbols → (symbol : lex.Symbol) × Shows line t symbol
  first_shown t [] m = absurd m
  first_shown t (p ∷ symbols) m = (p.symbol, m.0)

  -- each of the scanner's tokens shows a symbol
  pub next_symbol : (n : ℕ) → (symbol : lex.Symbol) × Shows line (next_token line n) symbol
  unfolding token_at
  next_symbol n = by_test (nat_le n (length line))
      (λ e.
      let near : n ≤ length line = grind (arith, nat_tests) in
      first_shown (next_token line n) _ (meets_all (length line) n (drop n line) refl (omega (arith, length-drop n line)) (omega (arith, length-drop n line))))
      (λ e.
      let far : length line ≤ n = grind (arith, nat_tests) in
      (text_end, ap (λ t. t.kind) (next_here n [] (drop_all n line far) refl)))
