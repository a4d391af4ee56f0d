-- For private contracts: what the scanner computes. The public definitions of tokens are in Lexicon. The tokens of a
-- line. A place in a line is the number of bytes before it, and a token is the longest one that begins at its place.
use Rattle.std.specs.Prelude.{ℕ, ◌+◌, ◌-◌, ◌*◌, ◌==◌, Bool, true, false, ◌&&◌, not, ◌||◌, List, [], ◌∷◌, length, take}
use Rattle.std.specs.Prelude.{drop, Option, Some, None, nat_le, nat_lt, if◌then◌else◌, slice_index, slice_range}
use Rattle.std.specs.List.{prefix_len}
use Rattle.std.specs.Str.Parse.{digits_value}
use Rattle.ci_asm.specs.declared.scanner.ByteClass.{ByteClass}
use Rattle.ci_asm.specs.declared.scanner.ByteClass.TheVariants.{Blank, NameByte, Digit, HexDigit, InLine}
use Rattle.ci_asm.specs.declared.scanner.Kind.{Kind}
use Rattle.ci_asm.specs.declared.scanner.Kind.TheVariants.{Name, Numeral, Directive, Mark, End, Bad}
use Rattle.ci_asm.specs.declared.scanner.Token.{Token}
use Rattle.ci_asm.specs.declared.numbers.Number.{Number}
use Rattle.ci_asm.specs.Lexicon as lex
use Rattle.ci_asm.specs.Lexicon.{name, decimal_number, hex_number, word, comma, open_bracket, close_bracket, colon}

-- ---- bytes

abbrev pub is_between : ℕ → ℕ → ℕ → Bool
is_between low high b = nat_le low b && nat_le b high

-- `a` to `z`, `A` to `Z` and `_`
abbrev pub is_letter : ℕ → Bool
is_letter b = is_between 97 122 b || is_between 65 90 b || b == 95

-- `0` to `9`
abbrev pub is_digit : ℕ → Bool
is_digit b = is_between 48 57 b

abbrev pub belongs : ByteClass → ℕ → Bool
belongs Blank b = b == 32 || b == 9
belongs NameByte b = is_letter b || is_digit b
belongs Digit b = is_digit b
belongs HexDigit b = is_digit b || is_between 97 102 b || is_between 65 70 b
belongs InLine b = not (b == 10)

-- the byte at a place, 0 past the line's end
abbrev pub byte_at : List ℕ → ℕ → ℕ
byte_at line i = slice_index line i

-- where the bytes of a class end that begin at a place
abbrev pub run_end : ByteClass → List ℕ → ℕ → ℕ
run_end class line from = from + prefix_len (belongs class) (drop from line)

-- how many bytes of a class the text begins with
abbrev pub run : ByteClass → List ℕ → ℕ
run class text = prefix_len (belongs class) text

-- ---- tokens

-- `0`, and behind it `x` and a hex digit
abbrev pub is_hex_start : ℕ → List ℕ → Bool
is_hex_start c text = c == 48 && byte_at text 0 == 120 && belongs HexDigit (byte_at text 1)

-- `-`, and behind it a digit
abbrev pub is_negative_start : ℕ → List ℕ → Bool
is_negative_start c text = c == 45 && is_digit (byte_at text 0)

-- `.`, and behind it `word`
abbrev pub is_directive : ℕ → List ℕ → Bool
is_directive c text =
    c == 46 && byte_at text 0 == 119 && byte_at text 1 == 111 && byte_at text 2 == 114 && byte_at text 3 == 100

-- a token that begins with c and then has all bytes of a class
abbrev pub with_run : (List ℕ → lex.Token) → ByteClass → List ℕ → Option (lex.Token × ℕ)
with_run t class text = Some (t (take (run class text) text), run class text)

-- a hex number, whose digits stand behind its `x`
abbrev pub hex_behind : List ℕ → Option (lex.Token × ℕ)
hex_behind text = Some (hex_number (take (run HexDigit text) text), 1 + run HexDigit text)

abbrev pub mark_of : ℕ → Option (lex.Token × ℕ)
mark_of c =
    if c == 44 then Some (comma, 0) else (if c == 40 then Some (open_bracket, 0)
    else (if c == 41 then Some (close_bracket, 0) else (if c == 58 then Some (colon, 0) else None)))

-- the longest token that begins with c and stands before a text, and how many bytes of the text it has
unfoldable pub scan : ℕ → List ℕ → Option (lex.Token × ℕ)
scan c text =
    if is_letter c then with_run (λ bytes. name (c ∷ bytes)) NameByte text
    else (if is_hex_start c text then hex_behind (drop 1 text)
    else (if is_digit c then with_run (λ bytes. decimal_number false (c ∷ bytes)) Digit text
    else (if is_negative_start c text then with_run (decimal_number true) Digit text
    else (if is_directive c text then Some (word, 4) else mark_of c))))

-- what the code has of a token
abbrev pub kind_of : lex.Token → Kind
kind_of (name bytes) = Name
kind_of (decimal_number negative digits) = Numeral
kind_of (hex_number digits) = Numeral
kind_of word = Directive
kind_of comma = Mark 44
kind_of open_bracket = Mark 40
kind_of close_bracket = Mark 41
kind_of colon = Mark 58

abbrev pub kind_and_size : Option (lex.Token × ℕ) → Option (Kind × ℕ)
kind_and_size None = None
kind_and_size (Some (t, size)) = Some (kind_of t, size)

abbrev pub token : Kind → ℕ → ℕ → Token
token kind start end = record { kind = kind; start = start; end = end }

abbrev pub token_by : ℕ → Option (lex.Token × ℕ) → Token
token_by i None = token Bad i (i + 1)
token_by i (Some (t, size)) = token (kind_of t) i (i + 1 + size)

-- The token that begins a text which stands at place i of a line with this end. The end of the line stands behind its
-- last byte,
-- blanks and comment included.
unfoldable pub token_at : ℕ → ℕ → List ℕ → Token
token_at end i [] = token End end end
token_at end i (c ∷ text) = if c == 35 then token End end end else token_by i (scan c text)

-- the next token behind the blanks from a place on
abbrev pub next_token : List ℕ → ℕ → Token
next_token line from = token_at (length line) (run_end Blank line from) (drop (run_end Blank line from) line)

abbrev pub text_of : List ℕ → Token → List ℕ
text_of line t = slice_range line t.start t.end

-- ---- numbers

-- at most ten digits write a number
abbrev pub number : Bool → ℕ → List ℕ → Option Number
number negative base digits =
    if nat_lt 10 (length digits) then None else Some
    (record { negative = negative; magnitude = digits_value base digits })

-- the number that a numeral writes, if it has at most ten digits
unfoldable pub number_of : List ℕ → Option Number
number_of text =
    if byte_at text 0 == 45 then number true 10 (drop 1 text)
    else (if byte_at text 1 == 120 then number false 16 (drop 2 text) else number false 10 text)

-- the number that two digits write
abbrev pub two_digits : ℕ → ℕ → ℕ
two_digits tens ones = 10 * (tens - 48) + (ones - 48)

abbrev pub register_at : ℕ → Option ℕ
register_at n = if nat_lt n 32 then Some n else None

-- `x` and a digit
abbrev pub has_one_digit : List ℕ → Bool
has_one_digit text = byte_at text 0 == 120 && length text == 2 && is_digit (byte_at text 1)

-- `x` and two digits, of which the first isn't 0
abbrev pub has_two_digits : List ℕ → Bool
has_two_digits text = byte_at text 0 == 120 && length text == 3 && is_between 49 57 (byte_at text 1) && is_digit
    (byte_at text 2)

-- the register that a name names: `x` and a number below 32 without a leading zero
unfoldable pub register_of : List ℕ → Option ℕ
register_of text =
    if has_one_digit text then register_at (two_digits 48 (byte_at text 1))
    else (if has_two_digits text then register_at (two_digits (byte_at text 1) (byte_at text 2)) else None)
