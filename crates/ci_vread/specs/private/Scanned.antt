-- For private contracts: what the tokens of the code stand for in their text.
use Rattle.std.specs.Prelude.{ℕ, ◌+◌, ◌-◌, ◌%◌, ◌^◌, List, length, drop, take, slice_range}
use Rattle.std.specs.Str.Parse.{digits_value}
use Rattle.ci_reading.specs.Tokens.{token, stray_byte, text_end, at}
use Rattle.ci_vread.specs.declared.bytes.ByteClass.TheVariants.{BeforeQuote}
use Rattle.ci_vread.specs.declared.tokens.Kind.{Kind}
use Rattle.ci_vread.specs.declared.tokens.Kind.TheVariants as kind
use Rattle.ci_vread.specs.declared.tokens.Token.{Token}
use Rattle.ci_vread.specs.Lexicon.{sign, operator, name, number, constant, cycles, never}
use Rattle.ci_vread.specs.Grammar.{Symbol, Placed}
use Rattle.ci_vread.specs.private.Scanning.{run}

-- the bytes of a token
abbrev pub text_of : List ℕ → Token → List ℕ
text_of text t = slice_range text t.start (t.start + t.size)

-- Numbers fit in 32 bits, and the values of constants in 64, wherever a token has them.
abbrev pub word_in : List ℕ → ℕ
word_in digits = digits_value 10 digits % 2 ^ 32

-- of a constant, before its quote and behind it
abbrev pub width_in : List ℕ → ℕ
width_in bytes = word_in (take (run BeforeQuote bytes) bytes)

abbrev pub value_in : List ℕ → ℕ
value_in bytes = digits_value 16 (drop (run BeforeQuote bytes + 2) bytes) % 2 ^ 64

-- behind `// cycles `; the newline isn't among the token's bytes that count
abbrev pub cycles_in : List ℕ → ℕ
cycles_in bytes = word_in (take (length bytes - 11) (drop 10 bytes))

abbrev pub symbol_by : Kind → List ℕ → Symbol
symbol_by (kind.Sign s) bytes = token (sign s)
symbol_by (kind.Operator o) bytes = token (operator o)
symbol_by kind.Name bytes = token (name bytes)
symbol_by kind.Number bytes = token (number (word_in bytes))
symbol_by kind.Constant bytes = token (constant (width_in bytes) (value_in bytes))
symbol_by kind.Cycles bytes = token (cycles (cycles_in bytes))
symbol_by kind.Never bytes = token never
symbol_by kind.Stray bytes = stray_byte
symbol_by kind.End bytes = text_end

-- the symbol of the text that the token stands for
abbrev pub symbol_of : List ℕ → Token → Symbol
symbol_of text t = symbol_by t.kind (text_of text t)

abbrev pub placed_of : List ℕ → Token → Placed
placed_of text t = at t.start (symbol_of text t)
