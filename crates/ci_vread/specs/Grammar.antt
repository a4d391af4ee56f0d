-- The grammar of a text of modules, for everybody: which tokens stand where, and in what role. It knows no names,
-- widths or bounds.
use Rattle.std.specs.Prelude.{◌≡◌, ℕ, Bool, true, false, List, [], ◌∷◌, ◌++◌, map, codes}
use Rattle.ci_verilog.specs.declared.expressions.Operator.{Operator}
use Rattle.ci_reading.specs.Tokens as reading
use Rattle.ci_reading.specs.Tokens.{token, stray_byte, text_end, at}
use Rattle.ci_vread.specs.declared.tokens.Sign.{Sign}
use Rattle.ci_vread.specs.declared.tokens.Sign.TheVariants.{ModuleWord, InputWord, OutputWord, WireWord, AssignWord}
use Rattle.ci_vread.specs.declared.tokens.Sign.TheVariants.{EndModuleWord, NameA, NameB, NameC, NameY, NameZ, Opening}
use Rattle.ci_vread.specs.declared.tokens.Sign.TheVariants.{Closing, LeftBracket, RightBracket, LeftBrace, RightBrace}
use Rattle.ci_vread.specs.declared.tokens.Sign.TheVariants.{Comma, Semicolon, Colon, Equals, Question}
use Rattle.ci_vread.specs.Lexicon.{Token, sign, operator, name, number, constant, cycles}

-- what may stand at a place of a text, and where
abbrev pub Symbol : Type 0
Symbol = reading.Symbol Token

abbrev pub Placed : Type 0
Placed = reading.Placed Token

-- what a token is there for
pub data Role : Type 0 where
  is : Token → Role
  its_cycles its_module its_high its_name its_target its_use : Role
  its_index its_low its_count its_constant its_operator : Role

-- tokens that can have the role
pub data Fits : Role → Token → Type 0 where
  that_token : (t : Token) → Fits (is t) t
  some_cycles : (n : ℕ) → Fits its_cycles (cycles n)
  a_module : (bytes : List ℕ) → Fits its_module (name bytes)
  a_high : (n : ℕ) → Fits its_high (number n)
  a_name : (bytes : List ℕ) → Fits its_name (name bytes)
  a_target : (bytes : List ℕ) → Fits its_target (name bytes)
  a_use : (bytes : List ℕ) → Fits its_use (name bytes)
  input_a : Fits its_use (sign NameA)
  input_b : Fits its_use (sign NameB)
  input_c : Fits its_use (sign NameC)
  an_index : (n : ℕ) → Fits its_index (number n)
  a_low : (n : ℕ) → Fits its_low (number n)
  a_count : (n : ℕ) → Fits its_count (number n)
  a_constant : (width value : ℕ) → Fits its_constant (constant width value)
  an_operator : (o : Operator) → Fits its_operator (operator o)

-- what ends behind a token: a simple or a term, a right side that is one term, the condition or the second branch of a
-- choice, an operator's second operand, a wire with its assign, all wires of a module, the first three inputs of a wide
-- module
pub data End : Type 0 where
  of_simple of_term of_side of_condition of_branch of_operand of_wire of_wires of_three : End

-- phrases of the grammar: units, what follows the first three inputs of a module, wires, a right side, what follows its
-- first term, a term, what follows its `{`, an item, what follows an item, a simple, what follows its name, what
-- follows the index behind `[`
pub data Phrase : Type 0 where
  units body wires side others term inside item items simple bits range : Phrase

pub data Part : Type 0 where
  reads : Role → Part
  ends : End → Part
  made : Phrase → Part

abbrev pub the : Sign → Part
the s = reads (is (sign s))

abbrev pub port : Sign → Token → List Token
port kind t =
    sign kind ∷ sign LeftBracket ∷ number 31 ∷ sign Colon ∷ number 0 ∷ sign RightBracket ∷ t ∷ []

-- the two further inputs and the further result of a wide module
abbrev pub name_d : Token
name_d = name (codes "d")

abbrev pub name_e : Token
name_e = name (codes "e")

abbrev pub name_x : Token
name_x = name (codes "x")

-- the first three inputs
abbrev pub first_ports : List Token
first_ports =
    sign Opening ∷ port InputWord (sign NameA) ++ sign Comma ∷ port InputWord (sign NameB) ++ sign Comma
    ∷ port InputWord (sign NameC) ++ sign Comma ∷ []

-- the ports behind them
abbrev pub other_ports : Bool → List Token
other_ports false =
    port OutputWord (sign NameY) ++ sign Comma ∷ port OutputWord (sign NameZ) ++ sign Closing ∷ sign Semicolon ∷ []
other_ports true =
    port InputWord name_d ++ sign Comma ∷ port InputWord name_e ++ sign Comma ∷ port OutputWord (sign NameY)
    ++ sign Comma ∷ port OutputWord (sign NameZ) ++ sign Comma ∷ port OutputWord name_x
    ++ sign Closing ∷ sign Semicolon ∷ []

-- `assign`, a result, `=`, its side and `;`
abbrev pub assigned : Token → List Part
assigned t = the AssignWord ∷ reads (is t) ∷ the Equals ∷ made side ∷ the Semicolon ∷ []

-- the result x of a wide module
abbrev pub third : Bool → List Part
third false = []
third true = assigned name_x

-- a module behind its first three inputs
abbrev pub body_of : Bool → List Part
body_of wide =
    map (λ t. reads (is t)) (other_ports wide) ++ made wires ∷ ends of_wires ∷ assigned (sign NameY)
    ++ assigned (sign NameZ) ++ third wide ++ the EndModuleWord ∷ []

abbrev pub unit : List Part
unit =
    reads its_cycles ∷ the ModuleWord ∷ reads its_module ∷ map (λ t. reads (is t)) first_ports ++ made body ∷ []

abbrev pub declaration : List Part
declaration =
    the WireWord ∷ the LeftBracket ∷ reads its_high ∷ the Colon ∷ reads (is (number 0)) ∷ the RightBracket
    ∷ reads its_name ∷ the Semicolon ∷ the AssignWord ∷ reads its_target ∷ the Equals ∷ made side ∷ the Semicolon
    ∷ ends of_wire ∷ []

-- count `{` simple `}` `}`, behind `{`
abbrev pub repetition : List Part
repetition = reads its_count ∷ the LeftBrace ∷ made simple ∷ the RightBrace ∷ the RightBrace ∷ []

-- The grammar: the parts that a part consists of, where this symbol comes next.
abbrev pub parts_of : Phrase → Symbol → List Part
parts_of units text_end = []
parts_of units next = unit ++ made units ∷ []
parts_of body (token (sign InputWord)) = ends of_three ∷ body_of true
parts_of body next = body_of false
parts_of wires (token (sign WireWord)) = declaration ++ made wires ∷ []
parts_of wires next = []
parts_of side next = made term ∷ made others ∷ []
parts_of others (token (operator o)) = reads its_operator ∷ made term ∷ ends of_operand ∷ []
parts_of others (token (sign Question)) =
    ends of_condition ∷ the Question ∷ made term ∷ the Colon ∷ made term ∷ ends of_branch ∷ []
parts_of others next = ends of_side ∷ []
parts_of term (token (sign LeftBrace)) = the LeftBrace ∷ made inside ∷ ends of_term ∷ []
parts_of term next = made simple ∷ ends of_term ∷ []
parts_of inside (token (number n)) = repetition
parts_of inside next = made item ∷ made items ∷ []
parts_of items (token (sign Comma)) = the Comma ∷ made item ∷ made items ∷ []
parts_of items next = the RightBrace ∷ []
parts_of item (token (sign LeftBrace)) = the LeftBrace ∷ repetition
parts_of item next = made simple ∷ []
parts_of simple (token (constant width value)) = reads its_constant ∷ ends of_simple ∷ []
parts_of simple next = reads its_use ∷ made bits ∷ ends of_simple ∷ []
parts_of bits (token (sign LeftBracket)) = the LeftBracket ∷ reads its_index ∷ made range ∷ the RightBracket ∷ []
parts_of bits next = []
parts_of range (token (sign Colon)) = the Colon ∷ reads its_low ∷ []
parts_of range next = []

-- parts whose end is seen only by the symbol behind them, which has to be there
pub data NeedsNext : Phrase → Type 0 where
  of_bits : NeedsNext bits
  of_others : NeedsNext others

-- a token in its role, or what ended behind the token at this place
pub data Event : Type 0 where
  read : Role → Token → ℕ → Event
  ended : End → ℕ → Event

-- how the tokens go on with the grammar: to the end, or up to a fault of this kind
pub data Finish : Type 0 where
  whole : Finish
  stops : (kind place : ℕ) → Finish

-- Goes last due symbols events finish: behind a token at `last`, where these parts are due, the symbols give these
-- events, and so they finish.
pub data Goes : ℕ → List Part → List Placed → List Event → Finish → Type 0 where
  all_read : {last place : ℕ} → Goes last [] (at place text_end ∷ []) [] whole
  by_parts : {last place : ℕ} {p : Phrase} {next : Symbol} {due : List Part} {symbols : List Placed}
      {events : List Event} {f : Finish}
      → (next ≡ text_end → ¬ NeedsNext p) → Goes last (parts_of p next ++ due) (at place next ∷ symbols) events f
      → Goes last (made p ∷ due) (at place next ∷ symbols) events f
  by_end : {last : ℕ} {what : End} {due : List Part} {symbols : List Placed} {events : List Event} {f : Finish}
      → Goes last due symbols events f → Goes last (ends what ∷ due) symbols (ended what last ∷ events) f
  by_token : {last place : ℕ} {role : Role} {t : Token} {due : List Part} {symbols : List Placed}
      {events : List Event} {f : Finish}
      → Fits role t → Goes place due symbols events f
      → Goes last (reads role ∷ due) (at place (token t) ∷ symbols) (read role t place ∷ events) f
  bad_token : {last place : ℕ} {role : Role} {t : Token} {due : List Part} {symbols : List Placed}
      → ¬ Fits role t → Goes last (reads role ∷ due) (at place (token t) ∷ symbols) [] (stops 2 place)
  bad_byte : {last place : ℕ} {role : Role} {due : List Part} {symbols : List Placed}
      → Goes last (reads role ∷ due) (at place stray_byte ∷ symbols) [] (stops 1 place)
  no_token : {last place : ℕ} {role : Role} {due : List Part} {symbols : List Placed}
      → Goes last (reads role ∷ due) (at place text_end ∷ symbols) [] (stops 2 place)
  no_next : {last place : ℕ} {p : Phrase} {due : List Part} {symbols : List Placed}
      → NeedsNext p → Goes last (made p ∷ due) (at place text_end ∷ symbols) [] (stops 2 place)
