-- The lines of each operation as text, for operation 7.
use Rattle.std.proofs.Common.{◌≡◌, ℕ, List, ◌++◌, map, refl}
use Rattle.std.specs.Prelude.{codes}
use Rattle.std.specs.List.{flat_map}
use Rattle.std.specs.Fmt.{digits}
use Rattle.ci_word.specs.declared.arithmetic.Op.{Op}
use Rattle.ci_word.specs.declared.arithmetic.Op.TheVariants as ops
use Rattle.ci_word.specs.declared.arithmetic.Class.TheVariants as classes
use Rattle.ci_unit.specs.declared.operations.Arg.{Arg}
use Rattle.ci_unit.specs.declared.operations.Arg.TheVariants.{Input, Earlier, Constant}
use Rattle.ci_vemit.specs.Templates.{numbered_wire, template, op_wires}
use Rattle.ci_vemit.specs.Texts.{assign_text, wire_text}

-- a template's lines for operation 7
abbrev lines : Op → List ℕ
lines op = flat_map wire_text (map (numbered_wire 7) (template op))

-- ---- one operator

sum : lines ops.Add ≡ codes "wire [31:0] t7;\nassign t7 = p7 + q7;\n"
unfolding digits wire_text assign_text
sum = refl

difference : lines ops.Sub ≡ codes "wire [31:0] t7;\nassign t7 = p7 - q7;\n"
unfolding digits wire_text assign_text
difference = refl

product : lines ops.Mul ≡ codes "wire [31:0] t7;\nassign t7 = p7 * q7;\n"
unfolding digits wire_text assign_text
product = refl

bits_and : lines ops.And ≡ codes "wire [31:0] t7;\nassign t7 = p7 & q7;\n"
unfolding digits wire_text assign_text
bits_and = refl

bits_or : lines ops.Or ≡ codes "wire [31:0] t7;\nassign t7 = p7 | q7;\n"
unfolding digits wire_text assign_text
bits_or = refl

bits_xor : lines ops.Xor ≡ codes "wire [31:0] t7;\nassign t7 = p7 ^ q7;\n"
unfolding digits wire_text assign_text
bits_xor = refl

-- ---- shifts

left_shift : lines ops.Sll ≡ codes "wire [31:0] t7;\nassign t7 = p7 << q7[4:0];\n"
unfolding digits wire_text assign_text
left_shift = refl

right_shift : lines ops.Srl ≡ codes "wire [31:0] t7;\nassign t7 = p7 >> q7[4:0];\n"
unfolding digits wire_text assign_text
right_shift = refl

arithmetic_shift : lines ops.Sra ≡
    codes "wire [63:0] w7;\nassign w7 = {{32{p7[31]}}, p7} >> q7[4:0];\n"
    ++ codes "wire [31:0] t7;\nassign t7 = w7[31:0];\n"
unfolding digits wire_text assign_text
arithmetic_shift = refl

-- ---- comparisons

unsigned_comparison : lines ops.Sltu ≡
    codes "wire [0:0] w7;\nassign w7 = p7 < q7;\n"
    ++ codes "wire [31:0] t7;\nassign t7 = {31'h00000000, w7};\n"
unfolding digits wire_text assign_text
unsigned_comparison = refl

signed_comparison : lines ops.Slt ≡
    codes "wire [31:0] u7;\nassign u7 = p7 ^ 32'h80000000;\n"
    ++ codes "wire [31:0] v7;\nassign v7 = q7 ^ 32'h80000000;\n"
    ++ codes "wire [0:0] w7;\nassign w7 = u7 < v7;\n"
    ++ codes "wire [31:0] t7;\nassign t7 = {31'h00000000, w7};\n"
unfolding digits wire_text assign_text
signed_comparison = refl

-- ---- high halves

unsigned_high_half : lines ops.Mulhu ≡
    codes "wire [63:0] w7;\nassign w7 = {32'h00000000, p7} * {32'h00000000, q7};\n"
    ++ codes "wire [31:0] t7;\nassign t7 = w7[63:32];\n"
unfolding digits wire_text assign_text
unsigned_high_half = refl

signed_high_half : lines ops.Mulh ≡
    codes "wire [63:0] w7;\nassign w7 = {{32{p7[31]}}, p7} * {{32{q7[31]}}, q7};\n"
    ++ codes "wire [31:0] t7;\nassign t7 = w7[63:32];\n"
unfolding digits wire_text assign_text
signed_high_half = refl

mixed_high_half : lines ops.Mulhsu ≡
    codes "wire [63:0] w7;\nassign w7 = {{32{p7[31]}}, p7} * {32'h00000000, q7};\n"
    ++ codes "wire [31:0] t7;\nassign t7 = w7[63:32];\n"
unfolding digits wire_text assign_text
mixed_high_half = refl

-- ---- operands

-- a sum of these operands
abbrev sum_of : Arg → Arg → List ℕ
sum_of left right = flat_map wire_text (op_wires 7 (record { class = classes.Add; op = ops.Add; left = left; right = right }))

sum_of_inputs : sum_of (Input 2) (Input 0) ≡
    codes "wire [31:0] p7;\nassign p7 = c;\nwire [31:0] q7;\nassign q7 = a;\n"
    ++ codes "wire [31:0] t7;\nassign t7 = p7 + q7;\n"
unfolding digits wire_text assign_text
sum_of_inputs = refl

sum_with_a_constant : sum_of (Earlier 3) (Constant 4294967295) ≡
    codes "wire [31:0] p7;\nassign p7 = t3;\nwire [31:0] q7;\nassign q7 = 32'hffffffff;\n"
    ++ codes "wire [31:0] t7;\nassign t7 = p7 + q7;\n"
unfolding digits wire_text assign_text
sum_with_a_constant = refl
