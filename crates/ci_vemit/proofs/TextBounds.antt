-- How long the text of the modules of units is: no longer than a file of modules that is read.
use Rattle.std.proofs.Common.{◌≡◌, ℕ, zero, suc, ◌+◌, ◌-◌, ◌*◌, ◌<◌, ◌≤◌, true, List, [], ◌∷◌, ◌++◌, map, length}
use Rattle.std.proofs.Common.{Contains, Bool, false, decimal, refl, ap, arith, length-append, lit<, lit≤}
use Rattle.std.specs.Prelude.{All, codes, nat_le}
use Rattle.std.specs.List.{flat_map, join_by}
use Rattle.std.specs.Fmt.{digits}
use Rattle.std.proofs.lemmas.Bool.Decides.{nat_tests}
use Rattle.std.proofs.lemmas.Fmt.{length-decimal-le}
use Rattle.std.proofs.lemmas.List.Concat.{flat_map-append}
use Rattle.std.proofs.lemmas.List.Elements.{All-tail}
use Rattle.ci_word.specs.declared.arithmetic.Op.{Op}
use Rattle.ci_word.specs.declared.arithmetic.Op.TheVariants as ops
use Rattle.ci_verilog.specs.declared.expressions.Simple.{Simple}
use Rattle.ci_verilog.specs.declared.expressions.Simple.TheVariants.{Whole, Bits, Number}
use Rattle.ci_verilog.specs.declared.expressions.Item.{Item}
use Rattle.ci_verilog.specs.declared.expressions.Item.TheVariants as as_item
use Rattle.ci_verilog.specs.declared.expressions.Term.{Term}
use Rattle.ci_verilog.specs.declared.expressions.Term.TheVariants as as_term
use Rattle.ci_verilog.specs.declared.expressions.Expr.{Expr}
use Rattle.ci_verilog.specs.declared.expressions.Expr.TheVariants.{One, Two, Choose}
use Rattle.ci_verilog.specs.declared.expressions.Wire.{Wire}
use Rattle.ci_vread.specs.Lexicon.{operator_spelling}
use Rattle.ci_unit.specs.declared.operations.Arg.{Arg}
use Rattle.ci_unit.specs.declared.operations.Arg.TheVariants.{Input, Earlier, Constant}
use Rattle.ci_unit.specs.declared.operations.UnitOp.{UnitOp}
use Rattle.ci_unit.specs.Units.{Unit, IsArg, IsUnit}
use Rattle.ci_unit.specs.Tables.{IsTable}
use Rattle.ci_vemit.specs.Templates.{input_name, module_of, modules_from, modules_of, numbered, numbered_expr}
use Rattle.ci_vemit.specs.Templates.{numbered_item, numbered_simple, numbered_term, numbered_wire, op_wires, operand}
use Rattle.ci_vemit.specs.Templates.{is_wide, output_at, p, q, template, wires_from}
use Rattle.ci_vemit.specs.Texts.{assign_text, cycles_text, end_text, expr_text, header_text, item_text, module_text, ports_text}
use Rattle.ci_vemit.specs.Texts.{range_text, repeat_text, simple_text, term_text, text_of, third_text, wire_text}
use Rattle.ci_vemit.proofs.UnitModules.{AreOps, ops_of_unit}

-- ---- a bound of each part of a template, whose letters get a number of three digits at most

-- a number below 1000 has three digits at most
three_digits : (n : ℕ) → n < 1000 → length (decimal n) ≤ 3
three_digits n small = length-decimal-le 3 n (lit< tt) (omega arith) (omega arith)

-- a name, a part of it, or a constant
abbrev simple_size : Simple → ℕ
simple_size (Whole letter) = length letter + 3
simple_size (Bits letter high low) = length letter + 5 + length (range_text high low)
simple_size (Number width value) = length (simple_text (Number width value))

-- an item of a concatenation
abbrev item_size : Item → ℕ
item_size (as_item.Plain simple) = simple_size simple
item_size (as_item.Repeat count simple) = 4 + length (decimal count) + simple_size simple

-- items with what parts them
abbrev items_size : List Item → ℕ
items_size [] = 0
items_size (i ∷ items) = 2 + item_size i + items_size items

-- a term
abbrev term_size : Term → ℕ
term_size (as_term.Plain simple) = simple_size simple
term_size (as_term.Repeat count simple) = 4 + length (decimal count) + simple_size simple
term_size (as_term.Join items) = 2 + items_size items

-- an expression
abbrev expr_size : Expr → ℕ
expr_size (One term) = term_size term
expr_size (Two operator left right) = term_size left + 2 + length (operator_spelling operator) + term_size right
expr_size (Choose test first second) = term_size test + 6 + term_size first + term_size second

-- the two lines of a wire
abbrev wire_size : Wire → ℕ
wire_size w = 30 + length (decimal (w.width - 1)) + 2 * length w.name + expr_size w.value

-- lines one after the other
abbrev lines_size : List Wire → ℕ
lines_size [] = 0
lines_size (w ∷ lines) = wire_size w + lines_size lines

-- the lines of each operation
template_size : (op : Op) → nat_le (lines_size (template op)) 408 ≡ true
unfolding digits
template_size ops.Add = refl
template_size op = refl

-- the two lines of a wire
wire_length : (w : Wire)
    → length (wire_text w) ≡ 24 + length (decimal (w.width - 1)) + 2 * length w.name + length (expr_text w.value)
unfolding wire_text assign_text
wire_length w =
    omega (
      arith,
      length-append (decimal (w.width - 1)) (codes ":0] " ++ (w.name ++ codes ";")),
      length-append w.name (codes ";"),
      length-append (decimal (w.width - 1) ++ (codes ":0] " ++ (w.name ++ codes ";"))) (codes "\n"),
      length-append w.name (codes " = " ++ (expr_text w.value ++ codes ";")),
      length-append (expr_text w.value) (codes ";"),
      length-append (w.name ++ (codes " = " ++ (expr_text w.value ++ codes ";"))) (codes "\n"),
      length-append (codes "wire [" ++ (decimal (w.width - 1) ++ (codes ":0] " ++ (w.name ++ codes ";"))) ++ codes "\n")
          (codes "assign " ++ (w.name ++ (codes " = " ++ (expr_text w.value ++ codes ";"))) ++ codes "\n"),
    )

module _ (n : ℕ) (small : n < 1000) where
  -- simple parts keep their bound
  simple_short : (s : Simple) → length (simple_text (numbered_simple n s)) ≤ simple_size s
  simple_short (Whole letter) = omega (arith, length-append letter (decimal n), three_digits n small)
  simple_short (Bits letter high low) =
      omega (
        arith,
        length-append (letter ++ decimal n) (codes "[" ++ (range_text high low ++ codes "]")),
        length-append letter (decimal n),
        length-append (range_text high low) (codes "]"),
        three_digits n small,
      )
  simple_short (Number width value) = omega arith

  -- so do repetitions,
  repeat_short : (count : ℕ) (s : Simple)
      → length (repeat_text count (numbered_simple n s)) ≤ 4 + length (decimal count) + simple_size s
  repeat_short count s =
      omega (
        arith,
        length-append (decimal count) (codes "{" ++ (simple_text (numbered_simple n s) ++ codes "}}")),
        length-append (simple_text (numbered_simple n s)) (codes "}}"),
        simple_short s,
      )

  -- items,
  item_short : (i : Item) → length (item_text (numbered_item n i)) ≤ item_size i
  item_short (as_item.Plain simple) = simple_short simple
  item_short (as_item.Repeat count simple) = repeat_short count simple

  -- items behind the first, each behind a comma
  more_short : (items : List Item)
      → length (flat_map (λ i. codes ", " ++ item_text i) (map (numbered_item n) items)) ≤ items_size items
  more_short [] = omega arith
  more_short (i ∷ items) =
      omega (
        arith,
        length-append (item_text (numbered_item n i))
            (flat_map (λ i. codes ", " ++ item_text i) (map (numbered_item n) items)),
        item_short i,
        more_short items,
      )

  -- all items of a concatenation,
  items_short : (items : List Item)
      → length (join_by item_text (codes ", ") (map (numbered_item n) items)) ≤ items_size items
  items_short [] = omega arith
  items_short (i ∷ items) =
      omega (
        arith,
        length-append (item_text (numbered_item n i))
            (flat_map (λ i. codes ", " ++ item_text i) (map (numbered_item n) items)),
        item_short i,
        more_short items,
      )

  -- terms,
  term_short : (t : Term) → length (term_text (numbered_term n t)) ≤ term_size t
  term_short (as_term.Plain simple) = simple_short simple
  term_short (as_term.Repeat count simple) = repeat_short count simple
  term_short (as_term.Join items) =
      omega (arith, length-append (join_by item_text (codes ", ") (map (numbered_item n) items)) (codes "}"), items_short items)

  -- expressions,
  expr_short : (e : Expr) → length (expr_text (numbered_expr n e)) ≤ expr_size e
  expr_short (One term) = term_short term
  expr_short (Two operator left right) =
      omega (
        arith,
        length-append (term_text (numbered_term n left))
            (codes " " ++ (operator_spelling operator ++ (codes " " ++ term_text (numbered_term n right)))),
        length-append (operator_spelling operator) (codes " " ++ term_text (numbered_term n right)),
        term_short left,
        term_short right,
      )
  expr_short (Choose test first second) =
      omega (
        arith,
        length-append (term_text (numbered_term n test))
            (codes " ? " ++ (term_text (numbered_term n first) ++ (codes " : " ++ term_text (numbered_term n second)))),
        length-append (term_text (numbered_term n first)) (codes " : " ++ term_text (numbered_term n second)),
        term_short test,
        term_short first,
        term_short second,
      )

  -- wires,
  wire_short : (w : Wire) → length (wire_text (numbered_wire n w)) ≤ wire_size w
  wire_short w =
      omega (
        arith,
        wire_length (numbered_wire n w),
        length-append w.name (decimal n),
        three_digits n small,
        expr_short w.value,
      )

  -- lines,
  lines_short : (lines : List Wire) → length (flat_map wire_text (map (numbered_wire n) lines)) ≤ lines_size lines
  lines_short [] = omega arith
  lines_short (w ∷ lines) =
      omega (
        arith,
        length-append (wire_text (numbered_wire n w)) (flat_map wire_text (map (numbered_wire n) lines)),
        wire_short w,
        lines_short lines,
      )

  -- and the lines of every operation
  template_short : (op : Op) → length (flat_map wire_text (map (numbered_wire n) (template op))) ≤ 408
  template_short op =
      let all = lines_short (template op) in
      let few = template_size op in
      grind (arith, nat_tests)

-- ---- operands

-- a constant has twelve bytes
constant_length : (word : ℕ) → length (term_text (operand (Constant word))) ≡ 12
unfolding digits
constant_length word = refl

-- an input has one
name_short : (i : ℕ) → length (input_name i) ≤ 12
name_short zero = omega arith
name_short (suc zero) = omega arith
name_short (suc (suc zero)) = omega arith
name_short (suc (suc (suc zero))) = omega arith
name_short (suc (suc (suc (suc i)))) = omega arith

-- an operand has twelve at most
operand_short : (n : ℕ) (arg : Arg) → n < 1000 → IsArg n arg → length (term_text (operand arg)) ≤ 12
operand_short n (Input i) small is = name_short i
operand_short n (Earlier m) small is = omega (arith, three_digits m (omega (arith, is)))
operand_short n (Constant word) small is = omega (arith, constant_length word)

-- the lines of an operand
wire_of_operand : (n : ℕ) (letter : List ℕ) (arg : Arg) → n < 1000 → length letter ≤ 1 → IsArg n arg
    → length (wire_text (record { name = numbered n letter; width = 32; value = One (operand arg) })) ≤ 46
wire_of_operand n letter arg small short is =
    omega (
      arith,
      wire_length (record { name = numbered n letter; width = 32; value = One (operand arg) }),
      three_digits n small,
      two_digits,
      length-append letter (decimal n),
      operand_short n arg small is,
    )
  where
    two_digits : length (decimal 31) ≤ 2
    two_digits = length-decimal-le 2 31 (lit< tt) (lit< tt) (lit< tt)

-- ---- operations

-- the lines of one operation have 500 bytes at most
op_short : (n : ℕ) (op : UnitOp) → n < 1000 → IsArg n op.left → IsArg n op.right
    → length (flat_map wire_text (op_wires n op)) ≤ 500
op_short n op small left right =
    let first : Wire = record { name = numbered n p; width = 32; value = One (operand op.left) } in
    let second : Wire = record { name = numbered n q; width = 32; value = One (operand op.right) } in
    let lines = flat_map wire_text (map (numbered_wire n) (template op.op)) in
    omega (
      arith,
      length-append (wire_text first) (wire_text second ++ lines),
      length-append (wire_text second) lines,
      wire_of_operand n p op.left small (lit< tt) left,
      wire_of_operand n q op.right small (lit< tt) right,
      template_short n small op.op,
    )

-- so have those of each of several
ops_short : (wide : Bool) (n : ℕ) (ops : List UnitOp) → n + length ops ≤ 256 → AreOps wide n ops
    → length (flat_map wire_text (wires_from n ops)) ≤ 500 * length ops
ops_short wide n [] few are = omega arith
ops_short wide n (op ∷ ops) few are =
    let whole = ap length (flat_map-append wire_text (op_wires n op) (wires_from (suc n) ops)) in
    omega (
      arith,
      whole,
      length-append (flat_map wire_text (op_wires n op)) (flat_map wire_text (wires_from (suc n) ops)),
      op_short n op (omega (arith, few)) are.0.is.left are.0.is.right,
      ops_short wide (suc n) ops (omega (arith, few)) are.1,
    )

-- ---- modules

-- an output has twelve bytes at most
output_short : (outputs : List ℕ) (k : ℕ) → ((m : ℕ) → Contains outputs m → m < 1000)
    → length (expr_text (output_at outputs k)) ≤ 12
output_short [] k small = omega (arith, constant_length 0)
output_short (m ∷ outputs) zero small = omega (arith, three_digits m (small m (0, omega arith, refl)))
output_short (m ∷ outputs) (suc k) small =
    output_short outputs k (λ j is. small j (suc is.0, omega (arith, is.1), is.2))

-- the length of an assignment
assign_length : (name : List ℕ) (value : Expr) → length (assign_text name value) ≡ 12 + length name + length (expr_text value)
unfolding assign_text
assign_length name value =
    omega (
      arith,
      length-append name (codes " = " ++ (expr_text value ++ codes ";")),
      length-append (expr_text value) (codes ";"),
      length-append (name ++ (codes " = " ++ (expr_text value ++ codes ";"))) (codes "\n"),
    )

-- the line of the cycles
cycles_short : (n : ℕ) → n ≤ 9999999 → length (cycles_text n) ≤ 18
unfolding cycles_text
cycles_short n few =
    omega (arith, length-append (decimal n) (codes "\n"), length-decimal-le 7 n (lit< tt) (omega (arith, few)) (omega (arith, few)))

-- the line of the name and the ports
ports_short : (wide : Bool) → length (ports_text wide) ≤ 150
unfolding ports_text
ports_short false = lit≤ tt
ports_short true = lit≤ tt

header_short : (wide : Bool) (k : ℕ) → k < 32 → length (header_text wide k) ≤ 200
unfolding header_text
header_short wide k below =
    omega (
      arith,
      ports_short wide,
      length-append (decimal k) (ports_text wide),
      length-append (decimal k ++ ports_text wide) (codes "\n"),
      length-decimal-le 2 k (lit< tt) (omega (arith, below)) (omega (arith, below)),
    )

-- the assignment of the third result
third_short : (wide : Bool) (x : Expr) → length (third_text wide x) ≤ 13 + length (expr_text x)
unfolding third_text
third_short false x = omega arith
third_short true x = omega (arith, assign_length (codes "x") x)

-- a module has 131,072 bytes at most
module_short : (k : ℕ) (unit : Unit) → k < 32 → IsUnit unit → length (module_text (module_of k unit)) ≤ 131072
unfolding module_text end_text
module_short k unit below is =
    let first = cycles_text unit.cycles in
    let header = header_text (is_wide unit) k in
    let lines = flat_map wire_text (wires_from 0 unit.ops) in
    let y = assign_text (codes "y") (output_at unit.outputs 0) in
    let z = assign_text (codes "z") (output_at unit.outputs 1) in
    let x = third_text (is_wide unit) (output_at unit.outputs 2) in
    let small : (m : ℕ) → Contains unit.outputs m → m < 1000 =
    λ m has. (let below = is.outputs m has in omega (arith, below, is.few)) in
    omega (
      arith,
      length-append first (header ++ (lines ++ (y ++ (z ++ (x ++ codes "endmodule\n"))))),
      length-append header (lines ++ (y ++ (z ++ (x ++ codes "endmodule\n")))),
      length-append lines (y ++ (z ++ (x ++ codes "endmodule\n"))),
      length-append y (z ++ (x ++ codes "endmodule\n")),
      length-append z (x ++ codes "endmodule\n"),
      length-append x (codes "endmodule\n"),
      cycles_short unit.cycles is.cycles_most,
      header_short (is_wide unit) k below,
      ops_short (is_wide unit) 0 unit.ops (omega (arith, is.few)) (ops_of_unit unit is),
      is.few,
      assign_length (codes "y") (output_at unit.outputs 0),
      assign_length (codes "z") (output_at unit.outputs 1),
      third_short (is_wide unit) (output_at unit.outputs 2),
      output_short unit.outputs 0 small,
      output_short unit.outputs 1 small,
      output_short unit.outputs 2 small,
    )

-- so has each of several
modules_short : (k : ℕ) (units : List Unit) → k + length units ≤ 32 → All IsUnit units
    → length (text_of (modules_from k units)) ≤ 131072 * length units
modules_short k [] few are = omega arith
modules_short k (unit ∷ units) few are =
    omega (
      arith,
      length-append (module_text (module_of k unit)) (text_of (modules_from (suc k) units)),
      module_short k unit (omega (arith, few)) (are 0 unit (omega arith)),
      modules_short (suc k) units (omega (arith, few)) (All-tail IsUnit unit units are),
    )

-- the text of a table's units
pub units_text_short : (units : List Unit) → IsTable units → length (text_of (modules_of units)) ≤ 4194304
units_text_short units is = omega (arith, modules_short 0 units (omega (arith, is.few)) is.units_are, is.few)
