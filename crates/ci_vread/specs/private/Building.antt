-- For private contracts: the modules that tokens spell, read off them from front to back. Each function gives what it
-- read and the tokens behind it; it looks at no more than what tells the ways to go on apart, and gives something for
-- any tokens.
use Rattle.std.specs.Prelude.{ℕ, suc, ◌+◌, ◌%◌, Bool, true, false, if◌then◌else◌, Option, Some, None, List, []}
use Rattle.std.specs.Prelude.{◌∷◌, map, drop, codes}
use denote.Enum.Bare.{sameb}
use Rattle.ci_reading.specs.Tokens.{token}
use Rattle.ci_verilog.specs.declared.expressions.Simple.{Simple}
use Rattle.ci_verilog.specs.declared.expressions.Simple.TheVariants.{Whole, Bits, Number}
use Rattle.ci_verilog.specs.declared.expressions.Item.{Item}
use Rattle.ci_verilog.specs.declared.expressions.Item.TheVariants as as_item
use Rattle.ci_verilog.specs.declared.expressions.Term.{Term}
use Rattle.ci_verilog.specs.declared.expressions.Term.TheVariants as as_term
use Rattle.ci_verilog.specs.declared.expressions.Operator.{Operator}
use Rattle.ci_verilog.specs.declared.expressions.Expr.{Expr}
use Rattle.ci_verilog.specs.declared.expressions.Expr.TheVariants.{One, Two, Choose}
use Rattle.ci_verilog.specs.declared.expressions.Wire.{Wire}
use Rattle.ci_verilog.specs.Modules.{Module, nothing}
use Rattle.ci_vread.specs.declared.tokens.Sign.{Sign}
use Rattle.ci_vread.specs.declared.tokens.Sign.TheVariants.{WireWord, InputWord, NameA, NameB, NameC, LeftBracket}
use Rattle.ci_vread.specs.declared.tokens.Sign.TheVariants.{LeftBrace, Comma, Colon, Question}
use Rattle.ci_vread.specs.declared.tokens.Token as of_code
use Rattle.ci_vread.specs.contracts.tokens.Sign.{the_type}
use Rattle.ci_vread.specs.declared.building.Builder.{Builder}
use Rattle.ci_vread.specs.Lexicon.{Token, sign, operator, name, number, constant, cycles, never}
use Rattle.ci_vread.specs.Grammar.{Symbol}
use Rattle.ci_vread.specs.private.Scanned.{symbol_of, placed_of}
use Rattle.ci_vread.specs.Spelling.{AreTokens, SpellsModules}

-- ---- the tokens that are left

-- a stray byte and the text's end are no token of a module
abbrev pub token_in : Symbol → Token
token_in (token t) = t
token_in s = never

abbrev pub token_of : List ℕ → of_code.Token → Token
token_of text t = token_in (symbol_of text t)

abbrev pub left : Builder → List Token
left b = map (token_of b.text.now) b.tokens.now

abbrev pub front : List Token → Token
front [] = never
front (t ∷ tokens) = t

-- ---- single tokens

unfoldable pub is_sign : Sign → Token → Bool
is_sign s (sign other) = sameb the_type other s
is_sign s t = false

unfoldable pub is_number : Token → Bool
is_number (number n) = true
is_number t = false

unfoldable pub is_cycles : Token → Bool
is_cycles (cycles n) = true
is_cycles t = false

-- No number of a module is above 64.
unfoldable pub number_in : Token → ℕ
number_in (number n) = n % 128
number_in t = 0

unfoldable pub cycles_in : Token → ℕ
cycles_in (cycles n) = n
cycles_in t = 0

unfoldable pub operator_in : Token → Option Operator
operator_in (operator o) = Some o
operator_in t = None

unfoldable pub constant_in : Token → Option Simple
constant_in (constant width value) = Some (Number (width % 128) value)
constant_in t = None

abbrev pub input_in : Sign → List ℕ
input_in NameA = codes "a"
input_in NameB = codes "b"
input_in NameC = codes "c"
input_in s = []

unfoldable pub name_in : Token → List ℕ
name_in (name bytes) = bytes
name_in (sign s) = input_in s
name_in t = []

abbrev pub begins_item : List Token → Bool
begins_item tokens = is_sign Comma (front tokens)

abbrev pub begins_wire : List Token → Bool
begins_wire tokens = is_sign WireWord (front tokens)

abbrev pub begins_module : List Token → Bool
begins_module tokens = is_cycles (front tokens)

-- ---- lists

-- at most so many things, each where one begins, the first of this number
module _ {A : Type 0} (begins : List Token → Bool) (read : ℕ → List Token → A × List Token) where
  abbrev pub many_by : ℕ → ℕ → Bool → List Token → List A × List Token
  many_by (suc most) k true tokens =
      let x = read k tokens in
      let others = many_by most (k + 1) (begins x.1) x.1 in
      (x.0 ∷ others.0, others.1)
  many_by most k b tokens = ([], tokens)

  unfoldable pub many : ℕ → ℕ → List Token → List A × List Token
  many most k tokens = many_by most k (begins tokens) tokens

-- ---- terms

-- behind the high end of a range
unfoldable pub low_of : ℕ → List Token → ℕ × List Token
low_of high tokens =
    if is_sign Colon (front tokens) then (number_in (front (drop 1 tokens)), drop 1 (drop 1 tokens)) else (high, tokens)

-- behind `[`
unfoldable pub bits_of : List ℕ → List Token → Simple × List Token
bits_of bytes tokens =
    let high = number_in (front tokens) in
    let low = low_of high (drop 1 tokens) in
    (Bits bytes high low.0, drop 1 low.1)

abbrev pub named_by : Bool → List ℕ → List Token → Simple × List Token
named_by true bytes tokens = bits_of bytes (drop 1 tokens)
named_by false bytes tokens = (Whole bytes, tokens)

abbrev pub simple_by : Option Simple → List Token → Simple × List Token
simple_by (Some simple) tokens = (simple, drop 1 tokens)
simple_by None tokens = named_by (is_sign LeftBracket (front (drop 1 tokens))) (name_in (front tokens)) (drop 1 tokens)

unfoldable pub simple_of : List Token → Simple × List Token
simple_of tokens = simple_by (constant_in (front tokens)) tokens

-- the simple of a repetition, behind the `{` before its count, and what follows
unfoldable pub repeated_of : List Token → Simple × List Token
repeated_of tokens = let simple = simple_of (drop 2 tokens) in (simple.0, drop 2 simple.1)

-- what was read, as a part of something
abbrev pub read_as : {A B : Type 0} → (A → B) → A × List Token → B × List Token
read_as make read = (make read.0, read.1)

unfoldable pub item_of : List Token → Item × List Token
item_of tokens =
    if is_sign LeftBrace (front tokens)
    then read_as (λ s. as_item.Repeat (number_in (front (drop 1 tokens))) s) (repeated_of (drop 1 tokens))
    else read_as (λ s. as_item.Plain s) (simple_of tokens)

-- no concatenation has more than 64 items, since each has a bit
unfoldable pub items_of : List Token → List Item × List Token
items_of tokens =
    let i = item_of tokens in
    let others = many begins_item (λ k rest. item_of (drop 1 rest)) 63 1 i.1 in
    (i.0 ∷ others.0, others.1)

-- behind `{`
unfoldable pub inside_of : List Token → Term × List Token
inside_of tokens =
    if is_number (front tokens) then read_as (λ s. as_term.Repeat (number_in (front tokens)) s) (repeated_of tokens)
    else (let items = items_of tokens in (as_term.Join items.0, drop 1 items.1))

unfoldable pub term_of : List Token → Term × List Token
term_of tokens =
    if is_sign LeftBrace (front tokens) then inside_of (drop 1 tokens)
    else read_as (λ s. as_term.Plain s) (simple_of tokens)

-- ---- modules

-- behind the first term
abbrev pub choice_of : Term → List Token → Expr × List Token
choice_of t tokens =
    let first = term_of (drop 1 tokens) in
    let second = term_of (drop 1 first.1) in
    if is_sign Question (front tokens) then (Choose t first.0 second.0, second.1) else (One t, tokens)

abbrev pub others_by : Option Operator → Term → List Token → Expr × List Token
others_by (Some o) l tokens = let r = term_of (drop 1 tokens) in (Two o l r.0, r.1)
others_by None t tokens = choice_of t tokens

unfoldable pub others_of : Term → List Token → Expr × List Token
others_of t tokens = others_by (operator_in (front tokens)) t tokens

unfoldable pub expr_of : List Token → Expr × List Token
expr_of tokens = let t = term_of tokens in others_of t.0 t.1

unfoldable pub wire_of : List Token → Wire × List Token
wire_of tokens =
    let high = drop 2 tokens in
    let name = drop 4 high in
    let value = expr_of (drop 5 name) in
    (record { name = name_in (front name); width = number_in (front high) + 1; value = value.0 }, drop 1 value.1)

unfoldable pub wires_of : List Token → List Wire × List Token
wires_of tokens = many begins_wire (λ k rest. wire_of rest) 2048 0 tokens

-- `assign`, the name of a result, `=`, an expression and `;`
unfoldable pub result_of : List Token → Expr × List Token
result_of tokens = let value = expr_of (drop 3 tokens) in (value.0, drop 1 value.1)

-- the result x, where a module has it
unfoldable pub third_of : Bool → List Token → Expr × List Token
third_of wide tokens = if wide then result_of tokens else (nothing, tokens)

-- Behind its first three inputs, a fourth or the results follow.
unfoldable pub is_wide : List Token → Bool
is_wide tokens = is_sign InputWord (front tokens)

-- how many tokens the other ports have
unfoldable pub ports_behind : Bool → ℕ
ports_behind wide = if wide then 41 else 17

-- behind all ports
abbrev pub module_by : ℕ → ℕ → Bool → List Token → Module × List Token
module_by k count wide tokens =
    let wires = wires_of tokens in
    let y = result_of wires.1 in
    let z = result_of y.1 in
    let x = third_of wide z.1 in (
      record {
        number = k;
        cycles = count;
        wires = record { wide = wide; list = wires.0 };
        y = y.0;
        z = z.0;
        x = x.0;
      },
      drop 1 x.1,
    )

unfoldable pub module_of : ℕ → List Token → Module × List Token
module_of k tokens =
    let wide = is_wide (drop 28 tokens) in
    module_by k (cycles_in (front tokens)) wide (drop (ports_behind wide) (drop 28 tokens))

unfoldable pub modules_of : List Token → List Module
modules_of tokens = (many begins_module module_of 32 0 tokens).0

-- ---- whole texts

-- the tokens of the code spell the modules
pub record AreBuilt (text : List ℕ) (items : List of_code.Token) (modules : List Module) : Type 0 where
  pub tokens : List Token
  pub are_tokens : AreTokens (map (placed_of text) items) tokens
  pub spelled : SpellsModules 0 tokens modules
