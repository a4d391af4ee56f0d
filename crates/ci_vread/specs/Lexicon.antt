-- The tokens of a text of modules, for everybody (IEEE 1364-2005, sections 3.1 to 3.7, tokens, white space, operators,
-- numbers and names; the profile is this project's own).
use Rattle.std.specs.Prelude.{◌≡◌, ℕ, ◌<◌, ◌≤◌, ◌⊎◌, ◌||◌, ◌==◌, IsTrue, List, [], ◌∷◌, ◌++◌, length, codes}
use Rattle.std.specs.List.{AllByRecursion}
use Rattle.std.specs.Char.{is_ascii_alphabetic, is_ascii_alphanumeric}
use Rattle.std.specs.Fmt.{decimal}
use Rattle.std.specs.Str.Parse.{IsNumeral, digits_value}
use Rattle.ci_reading.specs.Tokens.{TokenFormat}
use Rattle.ci_vread.specs.declared.tokens.Sign.{Sign}
use Rattle.ci_vread.specs.declared.tokens.Sign.TheVariants.{ModuleWord, InputWord, OutputWord, WireWord, AssignWord}
use Rattle.ci_vread.specs.declared.tokens.Sign.TheVariants.{EndModuleWord, NameA, NameB, NameC, NameY, NameZ, Opening}
use Rattle.ci_vread.specs.declared.tokens.Sign.TheVariants.{Closing, LeftBracket, RightBracket, LeftBrace, RightBrace}
use Rattle.ci_vread.specs.declared.tokens.Sign.TheVariants.{Comma, Semicolon, Colon, Equals, Question}
use Rattle.ci_verilog.specs.declared.expressions.Operator.{Operator}
use Rattle.ci_verilog.specs.declared.expressions.Operator.TheVariants.{Plus, Minus, Times, And, Or, Xor, Left, Right}
use Rattle.ci_verilog.specs.declared.expressions.Operator.TheVariants.{Less}

-- how a word or a mark of the grammar is written
abbrev pub spelling : Sign → List ℕ
spelling ModuleWord = codes "module"
spelling InputWord = codes "input"
spelling OutputWord = codes "output"
spelling WireWord = codes "wire"
spelling AssignWord = codes "assign"
spelling EndModuleWord = codes "endmodule"
spelling NameA = codes "a"
spelling NameB = codes "b"
spelling NameC = codes "c"
spelling NameY = codes "y"
spelling NameZ = codes "z"
spelling Opening = codes "("
spelling Closing = codes ")"
spelling LeftBracket = codes "["
spelling RightBracket = codes "]"
spelling LeftBrace = codes "{"
spelling RightBrace = codes "}"
spelling Comma = codes ","
spelling Semicolon = codes ";"
spelling Colon = codes ":"
spelling Equals = codes "="
spelling Question = codes "?"

abbrev pub operator_spelling : Operator → List ℕ
operator_spelling Plus = codes "+"
operator_spelling Minus = codes "-"
operator_spelling Times = codes "*"
operator_spelling And = codes "&"
operator_spelling Or = codes "|"
operator_spelling Xor = codes "^"
operator_spelling Left = codes "<<"
operator_spelling Right = codes ">>"
operator_spelling Less = codes "<"

-- a token, by what it means; `never` is one that is allowed nowhere
pub data Token : Type 0 where
  sign : Sign → Token
  operator : Operator → Token
  name : List ℕ → Token
  number : ℕ → Token
  constant : (width value : ℕ) → Token
  cycles : ℕ → Token
  never : Token

-- a letter, and then letters, digits and `_`
abbrev pub AreLetters : List ℕ → Type 0
AreLetters [] = ⊥
AreLetters (byte ∷ bytes) =
    IsTrue (is_ascii_alphabetic byte) × AllByRecursion (λ c. IsTrue (is_ascii_alphanumeric c || c == 95)) bytes

-- the digits write the number, at most seven and without zeros before it
abbrev pub IsNumber : List ℕ → ℕ → Type 0
IsNumber digits n = (digits ≡ decimal n) × (length digits ≤ 7)

abbrev pub constant_spelling : List ℕ → List ℕ → List ℕ
constant_spelling width digits = width ++ codes "'h" ++ digits

-- the bytes spell the token
pub data Spells : List ℕ → Token → Type 0 where
  of_sign : (s : Sign) → Spells (spelling s) (sign s)
  of_operator : (o : Operator) → Spells (operator_spelling o) (operator o)
  of_name : {bytes : List ℕ} → AreLetters bytes → ((s : Sign) → ¬ (bytes ≡ spelling s)) → length bytes ≤ 32
      → Spells bytes (name bytes)
  of_number : {digits : List ℕ} {n : ℕ} → IsNumber digits n → Spells digits (number n)
  of_constant : {width : List ℕ} (digits : List ℕ) {w : ℕ} → IsNumber width w → IsNumeral 16 digits
      → length digits ≤ 16 → Spells (constant_spelling width digits) (constant w (digits_value 16 digits))
  of_cycles : {digits : List ℕ} {n : ℕ} → IsNumber digits n
      → Spells (codes "// cycles " ++ digits ++ codes "\n") (cycles n)
  long_name : {bytes : List ℕ} → AreLetters bytes → 32 < length bytes → Spells bytes never
  bad_number : {digits : List ℕ} → IsNumeral 10 digits → ((n : ℕ) → ¬ IsNumber digits n) → Spells digits never
  bad_constant : {width : List ℕ} (digits : List ℕ) → IsNumeral 10 width → IsNumeral 16 digits
      → ((n : ℕ) → ¬ IsNumber width n) ⊎ (16 < length digits) → Spells (constant_spelling width digits) never

-- a space, a tab or a newline
abbrev pub IsBlank : ℕ → Type 0
IsBlank byte = (byte ≡ 32) ⊎ ((byte ≡ 9) ⊎ (byte ≡ 10))

-- Blanks may stand between tokens. The line of a module's cycles is a token, and there are no comments.
abbrev pub unit_format : TokenFormat Token
unit_format = record { Spells = Spells; IsBlank = IsBlank; BeginsComment = λ c. ⊥ }
