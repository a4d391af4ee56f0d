-- What a module computes, for everybody (IEEE 1364-2005, section 5.1, operators on unsigned vectors, section 5.2.1,
-- bits and parts of vectors, and section 6.1: an assigned wire always has the value of its expression).
use Rattle.std.specs.Prelude.{◌≡◌, ℕ, ◌+◌, ◌-◌, ◌*◌, ◌/◌, ◌%◌, ◌^◌, ◌==◌, if◌then◌else◌, [], ◌∷◌}
use Rattle.std.specs.Prelude.{nat_lt, bit_and, bit_or, bit_xor, List, map, replicate, slice_index}
use Rattle.std.specs.List.{Contains}
use Rattle.ci_verilog.specs.declared.vectors.Vector.{Vector}
use Rattle.ci_verilog.specs.declared.expressions.Simple.{Simple}
use Rattle.ci_verilog.specs.declared.expressions.Simple.TheVariants.{Whole, Bits, Number}
use Rattle.ci_verilog.specs.declared.expressions.Item.{Item}
use Rattle.ci_verilog.specs.declared.expressions.Item.TheVariants as item
use Rattle.ci_verilog.specs.declared.expressions.Term.{Term}
use Rattle.ci_verilog.specs.declared.expressions.Term.TheVariants as term
use Rattle.ci_verilog.specs.declared.expressions.Operator.{Operator}
use Rattle.ci_verilog.specs.declared.expressions.Operator.TheVariants.{Plus, Minus, Times, And, Or, Xor}
use Rattle.ci_verilog.specs.declared.expressions.Operator.TheVariants.{Left, Right, Less}
use Rattle.ci_verilog.specs.declared.expressions.Expr.{Expr}
use Rattle.ci_verilog.specs.declared.expressions.Expr.TheVariants.{One, Two, Choose}
use Rattle.ci_verilog.specs.declared.expressions.Wire.{Wire}
use Rattle.ci_verilog.specs.Modules.{Module, IsInput}

-- ---- vectors

abbrev pub of_width : ℕ → ℕ → Vector
of_width width value = record { width = width; value = value }

-- the bits of the first one above those of the second
abbrev pub above : Vector → Vector → Vector
above high low = of_width (high.width + low.width) (high.value * 2 ^ low.width + low.value)

-- one behind the other, the first one the highest
abbrev pub joined : List Vector → Vector
joined [] = of_width 0 0
joined (v ∷ vectors) = above v (joined vectors)

-- ---- parts of expressions, by the vector that each name stands for

module _ (names : List ℕ → Vector) where
  abbrev pub simple_bits : Simple → Vector
  simple_bits (Whole name) = names name
  simple_bits (Bits name high low) = of_width (high + 1 - low) ((names name).value / 2 ^ low % 2 ^ (high + 1 - low))
  simple_bits (Number width value) = of_width width value

  abbrev pub item_bits : Item → Vector
  item_bits (item.Plain simple) = simple_bits simple
  item_bits (item.Repeat count simple) = joined (replicate count (simple_bits simple))

  abbrev pub term_bits : Term → Vector
  term_bits (term.Plain simple) = simple_bits simple
  term_bits (term.Repeat count simple) = joined (replicate count (simple_bits simple))
  term_bits (term.Join items) = joined (map item_bits items)

-- Sums, differences, products and shifts to the left are modulo 2 to the power of the left operand's width.
-- So a shift by that width or by more gives 0.
abbrev pub operated : Operator → Vector → Vector → ℕ
operated Plus l r = (l.value + r.value) % 2 ^ l.width
operated Minus l r = (l.value + 2 ^ l.width - r.value) % 2 ^ l.width
operated Times l r = l.value * r.value % 2 ^ l.width
operated And l r = bit_and l.value r.value
operated Or l r = bit_or l.value r.value
operated Xor l r = bit_xor l.value r.value
operated Left l r = l.value * 2 ^ r.value % 2 ^ l.width
operated Right l r = l.value / 2 ^ r.value
operated Less l r = if nat_lt l.value r.value then 1 else 0

abbrev pub expr_value : (List ℕ → Vector) → Expr → ℕ
expr_value names (One t) = (term_bits names t).value
expr_value names (Two operator l r) = operated operator (term_bits names l) (term_bits names r)
expr_value names (Choose test first second) =
    if (term_bits names test).value == 0 then (term_bits names second).value else (term_bits names first).value

-- ---- modules

-- the expressions of the results, in their order
abbrev pub results_of : Module → List Expr
results_of m = m.y ∷ m.z ∷ m.x ∷ []

-- the names stand for these vectors in the module at these values of its inputs: each wire has the value of its
-- expression
pub record Settles (m : Module) (arguments : List ℕ) (names : List ℕ → Vector) : Type 0 where
  pub inputs_are : (k : ℕ) (name : List ℕ) → IsInput m.wires.wide name k
      → names name ≡ of_width 32 (slice_index arguments k)
  pub wires_are : (wire : Wire) → Contains m.wires.list wire
      → names wire.name ≡ of_width wire.width (expr_value names wire.value)

-- The module has these results y, z and x at these values of a, b, c, d and e, of which a narrow one has no d and e. A
-- wire's expression names earlier wires alone, so that each name that it has, directly or not, stands for one vector.
pub record IsValueOf (m : Module) (arguments results : List ℕ) : Type 0 where
  pub names : List ℕ → Vector
  pub settled : Settles m arguments names
  pub results_are : results ≡ map (expr_value names) (results_of m)
