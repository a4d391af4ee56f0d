-- The modules of units, for everybody: the wires that compute each operation, and the module of a unit (RISC-V
-- Unprivileged ISA 20191213, sections 2.4 and 7.1, operations; IEEE 1364-2005, sections 5.1 and 5.2.1, operators and
-- parts of vectors).
use Rattle.std.specs.Prelude.{ℕ, zero, suc, Bool, false, ◌||◌, nat_lt, List, [], ◌∷◌, ◌++◌, length, map, codes}
use Rattle.std.specs.Prelude.{Option, Some, None, slice_get}
use Rattle.std.specs.List.{list_any}
use Rattle.std.specs.Fmt.{decimal}
use Rattle.ci_word.specs.declared.arithmetic.Op.{Op}
use Rattle.ci_word.specs.declared.arithmetic.Op.TheVariants.{Add, Sub, Sll, Slt, Sltu, Xor, Srl, Sra, Or, And}
use Rattle.ci_word.specs.declared.arithmetic.Op.TheVariants.{Mul, Mulh, Mulhsu, Mulhu}
use Rattle.ci_verilog.specs.declared.expressions.Simple.{Simple}
use Rattle.ci_verilog.specs.declared.expressions.Simple.TheVariants.{Whole, Bits, Number}
use Rattle.ci_verilog.specs.declared.expressions.Item.{Item}
use Rattle.ci_verilog.specs.declared.expressions.Item.TheVariants as item
use Rattle.ci_verilog.specs.declared.expressions.Term.{Term}
use Rattle.ci_verilog.specs.declared.expressions.Term.TheVariants as term
use Rattle.ci_verilog.specs.declared.expressions.Operator.{Operator}
use Rattle.ci_verilog.specs.declared.expressions.Operator.TheVariants as operator
use Rattle.ci_verilog.specs.declared.expressions.Expr.{Expr}
use Rattle.ci_verilog.specs.declared.expressions.Expr.TheVariants.{One, Two, Choose}
use Rattle.ci_verilog.specs.declared.expressions.Wire.{Wire}
use Rattle.ci_verilog.specs.Modules.{Module}
use Rattle.ci_unit.specs.declared.operations.Arg.{Arg}
use Rattle.ci_unit.specs.declared.operations.Arg.TheVariants.{Input, Earlier, Constant}
use Rattle.ci_unit.specs.declared.operations.UnitOp.{UnitOp}
use Rattle.ci_unit.specs.Units.{Unit}

-- ---- parts of expressions

abbrev pub wire : List ℕ → ℕ → Expr → Wire
wire name width value = record { name = name; width = width; value = value }

abbrev pub whole : List ℕ → Term
whole name = term.Plain (Whole name)

-- name[high:low]
abbrev pub bits : List ℕ → ℕ → ℕ → Term
bits name high low = term.Plain (Bits name high low)

-- a constant of 32 bits
abbrev pub constant : ℕ → Term
constant word = term.Plain (Number 32 word)

-- the item above all bits of a name
abbrev pub above : Item → List ℕ → Term
above high name = term.Join (high ∷ item.Plain (Whole name) ∷ [])

abbrev pub zeros : ℕ → Item
zeros width = item.Plain (Number width 0)

-- {{32{name[31]}}, name}
abbrev pub signed : List ℕ → Term
signed name = above (item.Repeat 32 (Bits name 31 31)) name

-- {32'h00000000, name}
abbrev pub unsigned : List ℕ → Term
unsigned name = above (zeros 32) name

-- {31'h00000000, name}
abbrev pub widened : List ℕ → Term
widened name = above (zeros 31) name

-- ---- templates

-- The letters of an operation: p and q are its operands, t is its result. u, v and w come between.
abbrev pub p : List ℕ
p = codes "p"

abbrev pub q : List ℕ
q = codes "q"

abbrev pub t : List ℕ
t = codes "t"

abbrev pub u : List ℕ
u = codes "u"

abbrev pub v : List ℕ
v = codes "v"

abbrev pub w : List ℕ
w = codes "w"

-- t = p OPERATOR q
abbrev pub direct : Operator → List Wire
direct o = wire t 32 (Two o (whole p) (whole q)) ∷ []

-- t = p OPERATOR q[4:0]
abbrev pub shift : Operator → List Wire
shift o = wire t 32 (Two o (whole p) (bits q 4 0)) ∷ []

-- w = l < r, t = {31'h00000000, w}
abbrev pub comparison : List ℕ → List ℕ → List Wire
comparison l r = wire w 1 (Two operator.Less (whole l) (whole r)) ∷ wire t 32 (One (widened w)) ∷ []

-- the bit 31 turned over, by which signed words are ordered as unsigned ones
abbrev pub turned : List ℕ → Expr
turned name = Two operator.Xor (whole name) (constant 2147483648)

-- w = l * r in 64 bits, t = w[63:32]
abbrev pub high_half : Term → Term → List Wire
high_half l r = wire w 64 (Two operator.Times l r) ∷ wire t 32 (One (bits w 63 32)) ∷ []

-- The lines of an operation behind those of its operands. No unit has a division or a remainder.
abbrev pub template : Op → List Wire
template Add = direct operator.Plus
template Sub = direct operator.Minus
template Mul = direct operator.Times
template And = direct operator.And
template Or = direct operator.Or
template Xor = direct operator.Xor
template Sll = shift operator.Left
template Srl = shift operator.Right
template Sra = wire w 64 (Two operator.Right (signed p) (bits q 4 0)) ∷ wire t 32 (One (bits w 31 0)) ∷ []
template Sltu = comparison p q
template Slt = wire u 32 (turned p) ∷ wire v 32 (turned q) ∷ comparison u v
template Mulhu = high_half (unsigned p) (unsigned q)
template Mulh = high_half (signed p) (signed q)
template Mulhsu = high_half (signed p) (unsigned q)
template division = []

-- ---- the lines of one operation

module _ (n : ℕ) where
  -- a letter of operation n, and the decimal number
  abbrev pub numbered : List ℕ → List ℕ
  numbered letter = letter ++ decimal n

  abbrev pub numbered_simple : Simple → Simple
  numbered_simple (Whole letter) = Whole (numbered letter)
  numbered_simple (Bits letter high low) = Bits (numbered letter) high low
  numbered_simple (Number width value) = Number width value

  abbrev pub numbered_item : Item → Item
  numbered_item (item.Plain simple) = item.Plain (numbered_simple simple)
  numbered_item (item.Repeat count simple) = item.Repeat count (numbered_simple simple)

  abbrev pub numbered_term : Term → Term
  numbered_term (term.Plain simple) = term.Plain (numbered_simple simple)
  numbered_term (term.Repeat count simple) = term.Repeat count (numbered_simple simple)
  numbered_term (term.Join items) = term.Join (map numbered_item items)

  abbrev pub numbered_expr : Expr → Expr
  numbered_expr (One t) = One (numbered_term t)
  numbered_expr (Two o l r) = Two o (numbered_term l) (numbered_term r)
  numbered_expr (Choose test first second) = Choose (numbered_term test) (numbered_term first) (numbered_term second)

  abbrev pub numbered_wire : Wire → Wire
  numbered_wire line = wire (numbered line.name) line.width (numbered_expr line.value)

-- the name of an input
abbrev pub input_name : ℕ → List ℕ
input_name zero = codes "a"
input_name (suc zero) = codes "b"
input_name (suc (suc zero)) = codes "c"
input_name (suc (suc (suc zero))) = codes "d"
input_name (suc (suc (suc (suc i)))) = codes "e"

-- an input, the result of an earlier operation, or a constant
abbrev pub operand : Arg → Term
operand (Input i) = whole (input_name i)
operand (Earlier m) = whole (numbered m t)
operand (Constant word) = constant word

-- the wires of operation n
abbrev pub op_wires : ℕ → UnitOp → List Wire
op_wires n op =
    wire (numbered n p) 32 (One (operand op.left)) ∷ wire (numbered n q) 32 (One (operand op.right))
    ∷ map (numbered_wire n) (template op.op)

-- the wires of these operations, of which the first is operation n
abbrev pub wires_from : ℕ → List UnitOp → List Wire
wires_from n [] = []
wires_from n (op ∷ ops) = op_wires n op ++ wires_from (suc n) ops

-- ---- modules

-- an input that a narrow module doesn't have
abbrev pub is_further : Arg → Bool
is_further (Input i) = nat_lt 2 i
is_further (Earlier m) = false
is_further (Constant word) = false

abbrev pub takes_further : UnitOp → Bool
takes_further op = is_further op.left || is_further op.right

-- an operation takes the fourth or the fifth input, or the unit has three outputs
abbrev pub is_wide : Unit → Bool
is_wide unit = list_any takes_further unit.ops || nat_lt 2 (length unit.outputs)

-- the result of an operation, or 0 where there is no output
abbrev pub result_of : Option ℕ → Expr
result_of None = One (constant 0)
result_of (Some n) = One (whole (numbered n t))

-- the output at this place
abbrev pub output_at : List ℕ → ℕ → Expr
output_at outputs k = result_of (slice_get outputs k)

-- the module of this number that computes the unit
abbrev pub module_of : ℕ → Unit → Module
module_of k unit = record {
  number = k;
  cycles = unit.cycles;
  wires = record { wide = is_wide unit; list = wires_from 0 unit.ops };
  y = output_at unit.outputs 0;
  z = output_at unit.outputs 1;
  x = output_at unit.outputs 2;
}

-- the modules of these units, of which the first has number k
abbrev pub modules_from : ℕ → List Unit → List Module
modules_from k [] = []
modules_from k (unit ∷ units) = module_of k unit ∷ modules_from (suc k) units

abbrev pub modules_of : List Unit → List Module
modules_of units = modules_from 0 units
