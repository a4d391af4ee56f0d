-- For private contracts: the scan of a text, which finds the longest token at a place. The public definitions of tokens
-- are in Lexicon.
use Rattle.std.specs.Prelude.{◌≡◌, ℕ, ◌+◌, ◌-◌, ◌==◌, Bool, true, false, ◌&&◌, ◌||◌, not, nat_lt, if◌then◌else◌}
use Rattle.std.specs.Prelude.{List, [], ◌∷◌, length, take, drop, slice_index, Option, Some, None, codes}
use Rattle.std.specs.List.{prefix_len}
use Rattle.std.specs.Str.{bytes_eq}
use Rattle.std.specs.Char.{is_ascii_alphabetic, is_ascii_alphanumeric, is_ascii_digit, is_ascii_hexdigit}
use Rattle.std.specs.Str.Parse.{digits_value}
use Rattle.ci_reading.specs.Lexers.{Lexer, symbols_behind}
use Rattle.ci_verilog.specs.declared.expressions.Operator.{Operator}
use Rattle.ci_verilog.specs.declared.expressions.Operator.TheVariants.{Plus, Minus, Times, And, Or, Xor}
use Rattle.ci_verilog.specs.declared.expressions.Operator.TheVariants.{Left, Right, Less}
use Rattle.ci_vread.specs.declared.bytes.ByteClass.{ByteClass}
use Rattle.ci_vread.specs.declared.bytes.ByteClass.TheVariants.{Blank, InName, Digit, HexDigit, BeforeQuote}
use Rattle.ci_vread.specs.declared.tokens.Kind.{Kind}
use Rattle.ci_vread.specs.declared.tokens.Kind.TheVariants as kind
use Rattle.ci_vread.specs.declared.tokens.Sign.{Sign}
use Rattle.ci_vread.specs.declared.tokens.Sign.TheVariants.{ModuleWord, InputWord, OutputWord, WireWord, AssignWord}
use Rattle.ci_vread.specs.declared.tokens.Sign.TheVariants.{EndModuleWord, NameA, NameB, NameC, NameY, NameZ, Opening}
use Rattle.ci_vread.specs.declared.tokens.Sign.TheVariants.{Closing, LeftBracket, RightBracket, LeftBrace, RightBrace}
use Rattle.ci_vread.specs.declared.tokens.Sign.TheVariants.{Comma, Semicolon, Colon, Equals, Question}
use Rattle.ci_vread.specs.Lexicon.{Token, sign, operator, name, number, constant, cycles, never}
use Rattle.ci_vread.specs.Lexicon.{spelling, operator_spelling}
use Rattle.ci_vread.specs.Grammar.{Placed}

-- ---- bytes

abbrev pub belongs : ByteClass → ℕ → Bool
belongs Blank c = c == 32 || c == 9 || c == 10
belongs InName c = is_ascii_alphanumeric c || c == 95
belongs Digit c = is_ascii_digit c
belongs HexDigit c = is_ascii_hexdigit c
belongs BeforeQuote c = not (c == 39)

-- how many bytes of a class the text begins with
abbrev pub run : ByteClass → List ℕ → ℕ
run class text = prefix_len (belongs class) text

-- these bytes
abbrev pub front : ByteClass → List ℕ → List ℕ
front class text = take (run class text) text

-- the byte at a place, 0 past the text's end
abbrev pub byte_at : List ℕ → ℕ → ℕ
byte_at text i = slice_index text i

-- ---- words and marks

abbrev pub words : List Sign
words =
    ModuleWord ∷ InputWord ∷ OutputWord ∷ WireWord ∷ AssignWord ∷ EndModuleWord ∷ NameA ∷ NameB ∷ NameC ∷ NameY ∷ NameZ
    ∷ []

abbrev pub marks : List Sign
marks =
    Opening ∷ Closing ∷ LeftBracket ∷ RightBracket ∷ LeftBrace ∷ RightBrace ∷ Comma ∷ Semicolon ∷ Colon ∷ Equals
    ∷ Question ∷ []

-- the one of these that is written so
abbrev pub among : {A : Type 0} → (A → List ℕ) → List A → List ℕ → Option A
among written [] bytes = None
among written (x ∷ xs) bytes = if bytes_eq bytes (written x) then Some x else among written xs bytes

abbrev pub shifts : List Operator
shifts = Left ∷ Right ∷ []

-- operators of one byte
abbrev pub singles : List Operator
singles = Plus ∷ Minus ∷ Times ∷ And ∷ Or ∷ Xor ∷ Less ∷ []

-- ---- tokens by their bytes

abbrev pub word_by : List ℕ → Option Sign → Token
word_by bytes None = name bytes
word_by bytes (Some s) = sign s

-- a word, a name, or letters that are too many for a name
abbrev pub word_token : List ℕ → Token
word_token bytes = if nat_lt 32 (length bytes) then never else word_by bytes (among spelling words bytes)

-- the digits write a number: they are one to seven, without zeros before it
abbrev pub is_good : List ℕ → Bool
is_good digits =
    nat_lt 0 (length digits) && nat_lt (length digits) 8 && (length digits == 1 || not (byte_at digits 0 == 48))

abbrev pub number_token : List ℕ → Token
number_token digits = if is_good digits then number (digits_value 10 digits) else never

abbrev pub constant_token : List ℕ → List ℕ → Token
constant_token width digits =
    if is_good width && nat_lt (length digits) 17 then constant (digits_value 10 width) (digits_value 16 digits)
    else never

-- ---- the scan: the longest token with which a text begins, and how many bytes it has

-- `'h` and a digit
abbrev pub is_value : List ℕ → Bool
is_value text = byte_at text 0 == 39 && byte_at text 1 == 104 && is_ascii_hexdigit (byte_at text 2)

-- behind a width of so many digits, where a value stands or not
abbrev pub number_behind : List ℕ → ℕ → List ℕ → Token × ℕ
number_behind width size text =
    if is_value text then (constant_token width (front HexDigit (drop 2 text)), size + 2 + run HexDigit (drop 2 text))
    else (number_token width, size)

-- a number or a constant
unfoldable pub number_at : List ℕ → Token × ℕ
number_at text = number_behind (front Digit text) (run Digit text) (drop (run Digit text) text)

-- behind `// cycles `
abbrev pub cycles_behind : List ℕ → Option (Token × ℕ)
cycles_behind text =
    if is_good (front Digit text) && byte_at text (run Digit text) == 10
    then Some (cycles (digits_value 10 (front Digit text)), run Digit text + 11) else None

-- the line of a module's cycles
unfoldable pub cycles_at : List ℕ → Option (Token × ℕ)
cycles_at text = if bytes_eq (codes "// cycles ") (take 10 text) then cycles_behind (drop 10 text) else None

abbrev pub word_at : List ℕ → Token × ℕ
word_at text = (word_token (front InName text), run InName text)

abbrev pub single_by : Option Operator → Option Sign → Option (Token × ℕ)
single_by (Some o) found = Some (operator o, 1)
single_by None (Some s) = Some (sign s, 1)
single_by None None = None

-- an operator or mark of one byte
abbrev pub single : ℕ → Option (Token × ℕ)
single c = single_by (among operator_spelling singles (c ∷ [])) (among spelling marks (c ∷ []))

abbrev pub mark_by : Option Operator → ℕ → Option (Token × ℕ)
mark_by (Some o) c = Some (operator o, 2)
mark_by None c = single c

-- an operator or mark, by its first byte and the next
unfoldable pub mark_at : ℕ → ℕ → Option (Token × ℕ)
mark_at c next = mark_by (among operator_spelling shifts (c ∷ next ∷ [])) c

unfoldable pub scan : List ℕ → Option (Token × ℕ)
scan text =
    if is_ascii_alphabetic (byte_at text 0) then Some (word_at text)
    else (if is_ascii_digit (byte_at text 0) then Some (number_at text)
    else (if byte_at text 0 == 47 then cycles_at text else mark_at (byte_at text 0) (byte_at text 1)))

-- the same, and how many bytes stand behind the token's first
abbrev pub behind_first : Option (Token × ℕ) → Option (Token × ℕ)
behind_first None = None
behind_first (Some (t, size)) = Some (t, size - 1)

abbrev pub unit_lexer : Lexer Token
unit_lexer = record {
  is_blank = belongs Blank;
  begins_comment = λ c. false;
  scan = λ c text. behind_first (scan (c ∷ text));
}

-- the symbols of a text from a place on
abbrev pub symbols_from : List ℕ → ℕ → List Placed
symbols_from text place = symbols_behind unit_lexer 0 place (drop place text)

-- no blank stands at the place
abbrev pub IsSolid : List ℕ → ℕ → Type 0
IsSolid text place = belongs Blank (byte_at text place) ≡ false

-- ---- what the code has of a token

abbrev pub kind_of : Token → Kind
kind_of (sign s) = kind.Sign s
kind_of (operator o) = kind.Operator o
kind_of (name bytes) = kind.Name
kind_of (number n) = kind.Number
kind_of (constant width value) = kind.Constant
kind_of (cycles n) = kind.Cycles
kind_of never = kind.Never

abbrev pub kind_and_size : Token × ℕ → Kind × ℕ
kind_and_size (t, size) = (kind_of t, size)

-- nothing stands behind these
abbrev pub ends : Kind → Bool
ends kind.Stray = true
ends kind.End = true
ends other = false
