-- The tokens of a line of assembler text.
use Rattle.std.specs.Prelude.{◌≡◌, ℕ, ◌≤◌, ◌⊎◌, Bool, if◌then◌else◌, List, [], ◌∷◌, ◌++◌, codes}
use Rattle.std.specs.List.{AllByRecursion}
use Rattle.ci_reading.specs.Tokens as reading
use Rattle.ci_reading.specs.Tokens.{TokenFormat, StandsIn}

-- ---- bytes

abbrev pub IsInRange : ℕ → ℕ → ℕ → Type 0
IsInRange low high c = (low ≤ c) × (c ≤ high)

-- `a` to `z`, `A` to `Z` and `_`
abbrev pub IsLetter : ℕ → Type 0
IsLetter c = IsInRange 97 122 c ⊎ (IsInRange 65 90 c ⊎ (c ≡ 95))

-- `0` to `9`
abbrev pub IsDigit : ℕ → Type 0
IsDigit c = IsInRange 48 57 c

-- `0` to `9`, `a` to `f` and `A` to `F`
abbrev pub IsHexDigit : ℕ → Type 0
IsHexDigit c = IsDigit c ⊎ (IsInRange 97 102 c ⊎ IsInRange 65 70 c)

-- a space or a tab
abbrev pub IsBlank : ℕ → Type 0
IsBlank c = (c ≡ 32) ⊎ (c ≡ 9)

-- ---- tokens

pub data Token : Type 0 where
  -- a name, by its bytes
  name : List ℕ → Token
  -- a decimal number, by its sign (whether a `-` stands before it) and its digits
  decimal_number : Bool → List ℕ → Token
  -- a hex number, by its digits
  hex_number : List ℕ → Token
  -- `.word`
  word : Token
  comma : Token
  open_bracket : Token
  close_bracket : Token
  colon : Token

-- how a token is written
abbrev pub spelling : Token → List ℕ
spelling (name bytes) = bytes
spelling (decimal_number negative digits) = if negative then codes "-" ++ digits else digits
spelling (hex_number digits) = codes "0x" ++ digits
spelling word = codes ".word"
spelling comma = codes ","
spelling open_bracket = codes "("
spelling close_bracket = codes ")"
spelling colon = codes ":"

-- the first byte is one of these, and each other byte is one of those
abbrev pub StartsWith : (ℕ → Type 0) → (ℕ → Type 0) → List ℕ → Type 0
StartsWith First Other [] = ⊥
StartsWith First Other (c ∷ cs) = First c × AllByRecursion Other cs

-- A name is a letter and then letters and digits, and a number has a digit or more. The last clause is of `.word`, the
-- comma, the brackets and the colon, each of which is always written the same.
abbrev pub IsToken : Token → Type 0
IsToken (name bytes) = StartsWith IsLetter (λ c. IsLetter c ⊎ IsDigit c) bytes
IsToken (decimal_number negative digits) = StartsWith IsDigit IsDigit digits
IsToken (hex_number digits) = StartsWith IsHexDigit IsHexDigit digits
IsToken t = Unit {0}

-- the bytes spell the token
pub record Spells (bytes : List ℕ) (t : Token) : Type 0 where
  pub is_token : IsToken t
  pub is_spelling : bytes ≡ spelling t

-- ---- lines

-- Blanks may stand between the tokens of a line, and a comment runs from `#` to the line's end.
abbrev pub line_format : TokenFormat Token
line_format = record { Spells = Spells; IsBlank = IsBlank; BeginsComment = λ c. c ≡ 35 }

-- what may stand at a place of a line
abbrev pub Symbol : Type 0
Symbol = reading.Symbol Token

-- in the line, the symbol stands behind these tokens, and `column` bytes of the line stand before it
abbrev pub Stands : List ℕ → List Token → Symbol → ℕ → Type 0
Stands line tokens symbol column = StandsIn line_format line tokens symbol column
