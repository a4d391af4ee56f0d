-- For the formats of texts that consist of tokens: the function that gives the symbols of a text.
use Rattle.std.specs.Prelude.{◌≡◌, ℕ, zero, suc, ◌+◌, ◌≤◌, Bool, true, if◌then◌else◌, List, [], ◌∷◌, length, take, drop}
use Rattle.std.specs.Prelude.{Option, Some, None}
use Rattle.ci_reading.specs.Tokens.{TokenFormat, token, stray_byte, text_end, Placed, at, BeginsWith, BeginsWithLongest}

-- the tests of a format, and its scan: the longest token that begins with a byte and stands before a text, and how many
-- bytes of the text spell it with that byte
pub record Lexer (T : Type 0) : Type 0 where
  pub is_blank : ℕ → Bool
  pub begins_comment : ℕ → Bool
  pub scan : ℕ → List ℕ → Option (T × ℕ)

-- a byte that begins no token ends the symbols, and a token goes before those of the text behind it
abbrev pub symbols_by : {T : Type 0} → ℕ → Option (T × ℕ) → (ℕ → List (Placed T)) → List (Placed T)
symbols_by n None later = at n stray_byte ∷ []
symbols_by n (Some (t, size)) later = at n (token t) ∷ later size

-- the symbols of a text that begins at place n and whose first `inside` bytes belong to a token
unfoldable pub symbols_behind : {T : Type 0} → Lexer T → ℕ → ℕ → List ℕ → List (Placed T)
symbols_behind lexer inside n [] = at n text_end ∷ []
symbols_behind lexer (suc inside) n (c ∷ text) = symbols_behind lexer inside (n + 1) text
symbols_behind lexer zero n (c ∷ text) =
    if lexer.is_blank c then symbols_behind lexer zero (n + 1) text
    else (if lexer.begins_comment c then at (n + length (c ∷ text)) text_end ∷ []
    else symbols_by n (lexer.scan c text) (λ size. symbols_behind lexer size (n + 1) text))

-- the symbols of a text
abbrev pub symbols_of : {T : Type 0} → Lexer T → List ℕ → List (Placed T)
symbols_of lexer text = symbols_behind lexer 0 0 text

-- ---- lexers of a format

-- Bytes spell one token. No token is empty, or begins with a blank or a byte that begins a comment; no byte is both.
pub record IsClear {T : Type 0} (format : TokenFormat T) : Type 0 where
  pub one_token : (bytes : List ℕ) (t u : T) → format.Spells bytes t → format.Spells bytes u → t ≡ u
  pub not_empty : (t : T) → ¬ format.Spells [] t
  pub no_blank : (c : ℕ) (bytes : List ℕ) (t : T) → format.Spells (c ∷ bytes) t → ¬ format.IsBlank c
  pub no_comment : (c : ℕ) (bytes : List ℕ) (t : T) → format.Spells (c ∷ bytes) t → ¬ format.BeginsComment c
  pub not_both : (c : ℕ) → format.IsBlank c → ¬ format.BeginsComment c

-- the lexer's tests are those of the format, and its scan finds the longest token
pub record IsLexer {T : Type 0} (format : TokenFormat T) (lexer : Lexer T) : Type 0 where
  pub clear : IsClear format
  pub blank_is : (c : ℕ) → lexer.is_blank c ≡ true → format.IsBlank c
  pub is_blank : (c : ℕ) → format.IsBlank c → lexer.is_blank c ≡ true
  pub comment_is : (c : ℕ) → lexer.begins_comment c ≡ true → format.BeginsComment c
  pub is_comment : (c : ℕ) → format.BeginsComment c → lexer.begins_comment c ≡ true
  pub found : (c : ℕ) (text : List ℕ) (t : T) (size : ℕ) → lexer.scan c text ≡ Some (t, size)
      → (size ≤ length text) × BeginsWithLongest format (c ∷ text) t (c ∷ take size text) (drop size text)
  pub none : (c : ℕ) (text : List ℕ) → lexer.scan c text ≡ None
      → (t : T) (bytes rest : List ℕ) → ¬ BeginsWith format (c ∷ text) t bytes rest
