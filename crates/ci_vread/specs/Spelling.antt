-- Which tokens spell which modules, for everybody: the grammar as a relation. What the profile asks beside it, as
-- widths that agree, is what every module keeps (`ci_verilog/specs/Modules.antt`).
use Rattle.std.specs.Prelude.{◌≡◌, ℕ, Bool, true, false, suc, ◌+◌, ◌<◌, List, [], ◌∷◌, ◌++◌, codes}
use Rattle.std.specs.Fmt.{decimal}
use Rattle.ci_verilog.specs.declared.expressions.Simple.{Simple}
use Rattle.ci_verilog.specs.declared.expressions.Simple.TheVariants.{Whole, Bits, Number}
use Rattle.ci_verilog.specs.declared.expressions.Item.{Item}
use Rattle.ci_verilog.specs.declared.expressions.Item.TheVariants as as_item
use Rattle.ci_verilog.specs.declared.expressions.Term.{Term}
use Rattle.ci_verilog.specs.declared.expressions.Term.TheVariants as as_term
use Rattle.ci_verilog.specs.declared.expressions.Operator.{Operator}
use Rattle.ci_verilog.specs.declared.expressions.Expr.{Expr}
use Rattle.ci_verilog.specs.declared.expressions.Expr.TheVariants.{One, Two, Choose}
use Rattle.ci_verilog.specs.declared.expressions.Wire.{Wire}
use Rattle.ci_vread.specs.declared.tokens.Sign.TheVariants.{ModuleWord, WireWord, AssignWord}
use Rattle.ci_vread.specs.declared.tokens.Sign.TheVariants.{EndModuleWord, NameY, NameZ}
use Rattle.ci_vread.specs.declared.tokens.Sign.TheVariants.{LeftBracket, RightBracket, LeftBrace, RightBrace}
use Rattle.ci_vread.specs.declared.tokens.Sign.TheVariants.{Comma, Semicolon, Colon, Equals, Question}
use Rattle.ci_vread.specs.Lexicon.{Token, sign, operator, name, number, constant, cycles, unit_format}
use Rattle.ci_reading.specs.Tokens.{token, text_end, at, AreSymbols}
use Rattle.ci_verilog.specs.Modules.{Module, IsModule, nothing}
use Rattle.ci_vread.specs.Grammar.{Placed, Fits, its_use, name_x, first_ports, other_ports}
use Rattle.ci_vread.specs.Rules.{bytes_of, is_word}

pub data SpellsSimple : List Token → Simple → Type 0 where
  whole_name : {t : Token} → Fits its_use t → SpellsSimple (t ∷ []) (Whole (bytes_of t))
  one_bit : {t : Token} {n : ℕ} → Fits its_use t
      → SpellsSimple (t ∷ sign LeftBracket ∷ number n ∷ sign RightBracket ∷ []) (Bits (bytes_of t) n n)
  some_bits : {t : Token} {high low : ℕ} → Fits its_use t
      → SpellsSimple (t ∷ sign LeftBracket ∷ number high ∷ sign Colon ∷ number low ∷ sign RightBracket ∷ [])
      (Bits (bytes_of t) high low)
  some_constant : {width value : ℕ} → SpellsSimple (constant width value ∷ []) (Number width value)

-- `{` count `{` simple `}` `}`
abbrev pub repeated : ℕ → List Token → List Token
repeated count simple =
    (sign LeftBrace ∷ number count ∷ sign LeftBrace ∷ []) ++ simple ++ (sign RightBrace ∷ sign RightBrace ∷ [])

pub data SpellsItem : List Token → Item → Type 0 where
  plain : {tokens : List Token} {simple : Simple} → SpellsSimple tokens simple
      → SpellsItem tokens (as_item.Plain simple)
  repeat : {tokens : List Token} {count : ℕ} {simple : Simple} → SpellsSimple tokens simple
      → SpellsItem (repeated count tokens) (as_item.Repeat count simple)

pub data SpellsItems : List Token → List Item → Type 0 where
  last : {tokens : List Token} {i : Item} → SpellsItem tokens i → SpellsItems tokens (i ∷ [])
  more : {tokens others : List Token} {i : Item} {items : List Item} → SpellsItem tokens i → SpellsItems others items
      → SpellsItems (tokens ++ sign Comma ∷ others) (i ∷ items)

pub data SpellsTerm : List Token → Term → Type 0 where
  plain : {tokens : List Token} {simple : Simple} → SpellsSimple tokens simple
      → SpellsTerm tokens (as_term.Plain simple)
  repeat : {tokens : List Token} {count : ℕ} {simple : Simple} → SpellsSimple tokens simple
      → SpellsTerm (repeated count tokens) (as_term.Repeat count simple)
  join : {tokens : List Token} {items : List Item} → SpellsItems tokens items
      → SpellsTerm (sign LeftBrace ∷ tokens ++ sign RightBrace ∷ []) (as_term.Join items)

pub data SpellsExpr : List Token → Expr → Type 0 where
  one : {tokens : List Token} {t : Term} → SpellsTerm tokens t → SpellsExpr tokens (One t)
  two : {left right : List Token} {l r : Term} (o : Operator) → SpellsTerm left l → SpellsTerm right r
      → SpellsExpr (left ++ operator o ∷ right) (Two o l r)
  choose : {test first second : List Token} {t f s : Term}
      → SpellsTerm test t → SpellsTerm first f → SpellsTerm second s
      → SpellsExpr (test ++ sign Question ∷ (first ++ sign Colon ∷ second)) (Choose t f s)

-- ---- modules

-- a wire; in a wide module it isn't named d, e or x
pub data SpellsWire : Bool → List Token → Wire → Type 0 where
  some_wire : {wide : Bool} {expr : List Token} (high : ℕ) {w : Wire} → w.width ≡ high + 1
      → is_word wide w.name ≡ false → SpellsExpr expr w.value
      → SpellsWire wide
      (sign WireWord ∷ sign LeftBracket ∷ number high ∷ sign Colon ∷ number 0 ∷ sign RightBracket ∷ name w.name
      ∷ sign Semicolon ∷ sign AssignWord ∷ name w.name ∷ sign Equals ∷ expr ++ (sign Semicolon ∷ [])) w

pub data SpellsWires : Bool → List Token → List Wire → Type 0 where
  no_wires : {wide : Bool} → SpellsWires wide [] []
  more_wires : {wide : Bool} {tokens others : List Token} {w : Wire} {wires : List Wire}
      → SpellsWire wide tokens w → SpellsWires wide others wires
      → SpellsWires wide (tokens ++ others) (w ∷ wires)

-- module k is named so
abbrev pub module_name : ℕ → List ℕ
module_name k = codes "ci_" ++ decimal k

abbrev pub result : Token → List Token → List Token
result t expr = sign AssignWord ∷ t ∷ sign Equals ∷ expr ++ (sign Semicolon ∷ [])

-- the result x, of which a narrow module says nothing
pub data SpellsThird : Bool → List Token → Expr → Type 0 where
  no_third : SpellsThird false [] nothing
  some_third : {expr : List Token} {x : Expr} → SpellsExpr expr x → SpellsThird true (result name_x expr) x

pub data SpellsModule : List Token → Module → Type 0 where
  some_module : {wires first second third : List Token} {m : Module}
      → SpellsWires m.wires.wide wires m.wires.list → SpellsExpr first m.y → SpellsExpr second m.z
      → SpellsThird m.wires.wide third m.x
      → SpellsModule
      (cycles m.cycles ∷ sign ModuleWord ∷ name (module_name m.number)
      ∷ first_ports ++ (other_ports m.wires.wide ++ (wires ++ (result (sign NameY) first ++ (result (sign NameZ) second
      ++ (third ++ (sign EndModuleWord ∷ []))))))) m

-- the modules in their order, the first of which has this number
pub data SpellsModules : ℕ → List Token → List Module → Type 0 where
  no_modules : {k : ℕ} → SpellsModules k [] []
  more_modules : {k : ℕ} {tokens others : List Token} {m : Module} {modules : List Module}
      → m.number ≡ k → k < 32 → IsModule m → SpellsModule tokens m → SpellsModules (suc k) others modules
      → SpellsModules k (tokens ++ others) (m ∷ modules)

-- these symbols are the tokens, and the text's end
pub data AreTokens : List Placed → List Token → Type 0 where
  at_end : {place : ℕ} → AreTokens (at place text_end ∷ []) []
  more_tokens : {place : ℕ} {t : Token} {symbols : List Placed} {tokens : List Token}
      → AreTokens symbols tokens → AreTokens (at place (token t) ∷ symbols) (t ∷ tokens)

-- the bytes spell the modules
pub record Spell (bytes : List ℕ) (modules : List Module) : Type 0 where
  pub symbols : List Placed
  pub tokens : List Token
  pub are_symbols : AreSymbols unit_format 0 bytes symbols
  pub are_tokens : AreTokens symbols tokens
  pub spelled : SpellsModules 0 tokens modules
