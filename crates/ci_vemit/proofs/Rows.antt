-- The text of one unit, and the forms that no template has, byte for byte.
use Rattle.std.proofs.Common.{◌≡◌, [], ◌∷◌, ◌++◌, refl}
use Rattle.std.specs.Prelude.{codes}
use Rattle.std.specs.Fmt.{digits}
use Rattle.ci_word.specs.declared.arithmetic.Op.TheVariants as ops
use Rattle.ci_word.specs.declared.arithmetic.Class.TheVariants as classes
use Rattle.ci_verilog.specs.declared.expressions.Simple.TheVariants.{Whole, Bits, Number}
use Rattle.ci_verilog.specs.declared.expressions.Item.TheVariants as as_item
use Rattle.ci_verilog.specs.declared.expressions.Term.TheVariants as as_term
use Rattle.ci_verilog.specs.declared.expressions.Operator.TheVariants as operators
use Rattle.ci_verilog.specs.declared.expressions.Expr.TheVariants.{Two, Choose}
use Rattle.ci_unit.specs.declared.operations.Arg.TheVariants.{Input, Earlier}
use Rattle.ci_unit.specs.Units.{Unit}
use Rattle.ci_vemit.specs.Templates.{modules_of}
use Rattle.ci_vemit.specs.Texts.{simple_text, expr_text, assign_text, wire_text, cycles_text, header_text, ports_text}
use Rattle.ci_vemit.specs.Texts.{third_text, end_text, module_text, text_of}

-- ---- constants, and parts of names

constant_of_32_bits : simple_text (Number 32 2147483648) ≡ codes "32'h80000000"
unfolding digits
constant_of_32_bits = refl

constant_of_31_bits : simple_text (Number 31 0) ≡ codes "31'h00000000"
unfolding digits
constant_of_31_bits = refl

constant_of_33_bits : simple_text (Number 33 4294967306) ≡ codes "33'h000000010000000a"
unfolding digits
constant_of_33_bits = refl

one_bit_by_its_number : simple_text (Bits (codes "p0") 31 31) ≡ codes "p0[31]"
unfolding digits
one_bit_by_its_number = refl

range_from_its_high_bit : simple_text (Bits (codes "w0") 63 32) ≡ codes "w0[63:32]"
unfolding digits
range_from_its_high_bit = refl

-- ---- expressions

arithmetic_shift : expr_text (Two operators.Right
    (as_term.Join (as_item.Repeat 32 (Bits (codes "p0") 31 31) ∷ as_item.Plain (Whole (codes "p0")) ∷ []))
    (as_term.Plain (Bits (codes "q0") 4 0)))
    ≡ codes "{{32{p0[31]}}, p0} >> q0[4:0]"
unfolding digits
arithmetic_shift = refl

choice : expr_text (Choose (as_term.Plain (Bits (codes "a") 0 0)) (as_term.Plain (Whole (codes "b"))) (as_term.Repeat 2 (Number 16 255)))
    ≡ codes "a[0] ? b : {2{16'h000000ff}}"
unfolding digits
choice = refl

-- ---- a unit

-- add x5, x10, x11 and add x5, x5, x12
two_sums : Unit
two_sums = record {
  ops = record { class = classes.Add; op = ops.Add; left = Input 0; right = Input 1 }
      ∷ record { class = classes.Add; op = ops.Add; left = Earlier 0; right = Input 2 } ∷ [];
  outputs = 1 ∷ [];
  cycles = 1;
}

unit_of_two_sums : text_of (modules_of (two_sums ∷ [])) ≡
    codes "// cycles 1\n"
    ++ codes "module ci_0(input [31:0] a, input [31:0] b, input [31:0] c, output [31:0] y, output [31:0] z);\n"
    ++ codes "wire [31:0] p0;\nassign p0 = a;\nwire [31:0] q0;\nassign q0 = b;\nwire [31:0] t0;\nassign t0 = p0 + q0;\n"
    ++ codes "wire [31:0] p1;\nassign p1 = t0;\nwire [31:0] q1;\nassign q1 = c;\nwire [31:0] t1;\nassign t1 = p1 + q1;\n"
    ++ codes "assign y = t1;\nassign z = 32'h00000000;\nendmodule\n"
unfolding digits two_sums module_text cycles_text header_text ports_text third_text end_text wire_text assign_text
unit_of_two_sums = refl

-- ---- a wide unit

-- add x5, x10, x11; add x5, x5, x12; xor x5, x5, x13
four_inputs : Unit
four_inputs = record {
  ops = record { class = classes.Add; op = ops.Add; left = Input 0; right = Input 1 }
      ∷ record { class = classes.Add; op = ops.Add; left = Earlier 0; right = Input 2 }
      ∷ record { class = classes.Logic; op = ops.Xor; left = Earlier 1; right = Input 3 } ∷ [];
  outputs = 2 ∷ [];
  cycles = 1;
}

unit_of_four_inputs : text_of (modules_of (four_inputs ∷ [])) ≡
    codes "// cycles 1\n"
    ++ codes "module ci_0(input [31:0] a, input [31:0] b, input [31:0] c, input [31:0] d, input [31:0] e, "
    ++ codes "output [31:0] y, output [31:0] z, output [31:0] x);\n"
    ++ codes "wire [31:0] p0;\nassign p0 = a;\nwire [31:0] q0;\nassign q0 = b;\nwire [31:0] t0;\nassign t0 = p0 + q0;\n"
    ++ codes "wire [31:0] p1;\nassign p1 = t0;\nwire [31:0] q1;\nassign q1 = c;\nwire [31:0] t1;\nassign t1 = p1 + q1;\n"
    ++ codes "wire [31:0] p2;\nassign p2 = t1;\nwire [31:0] q2;\nassign q2 = d;\nwire [31:0] t2;\nassign t2 = p2 ^ q2;\n"
    ++ codes "assign y = t2;\nassign z = 32'h00000000;\nassign x = 32'h00000000;\nendmodule\n"
unfolding digits four_inputs module_text cycles_text header_text ports_text third_text end_text wire_text assign_text
unit_of_four_inputs = refl

-- add x5, x10, x11; sub x6, x10, x11; and x7, x10, x11
three_outputs : Unit
three_outputs = record {
  ops = record { class = classes.Add; op = ops.Add; left = Input 0; right = Input 1 }
      ∷ record { class = classes.Add; op = ops.Sub; left = Input 0; right = Input 1 }
      ∷ record { class = classes.Logic; op = ops.And; left = Input 0; right = Input 1 } ∷ [];
  outputs = 0 ∷ 1 ∷ 2 ∷ [];
  cycles = 1;
}

unit_of_three_outputs : text_of (modules_of (three_outputs ∷ [])) ≡
    codes "// cycles 1\n"
    ++ codes "module ci_0(input [31:0] a, input [31:0] b, input [31:0] c, input [31:0] d, input [31:0] e, "
    ++ codes "output [31:0] y, output [31:0] z, output [31:0] x);\n"
    ++ codes "wire [31:0] p0;\nassign p0 = a;\nwire [31:0] q0;\nassign q0 = b;\nwire [31:0] t0;\nassign t0 = p0 + q0;\n"
    ++ codes "wire [31:0] p1;\nassign p1 = a;\nwire [31:0] q1;\nassign q1 = b;\nwire [31:0] t1;\nassign t1 = p1 - q1;\n"
    ++ codes "wire [31:0] p2;\nassign p2 = a;\nwire [31:0] q2;\nassign q2 = b;\nwire [31:0] t2;\nassign t2 = p2 & q2;\n"
    ++ codes "assign y = t0;\nassign z = t1;\nassign x = t2;\nendmodule\n"
unfolding digits three_outputs module_text cycles_text header_text ports_text third_text end_text wire_text assign_text
unit_of_three_outputs = refl
