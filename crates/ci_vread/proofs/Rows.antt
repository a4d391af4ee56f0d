-- Rows of the definitions, computed: each kind of fault from both sides of its rule, and which kind and place wins.
use Rattle.std.proofs.Common.{◌≡◌, ℕ, List, [], ◌∷◌, ◌++◌, refl}
use Rattle.std.specs.Prelude.{codes, replicate, true, false}
use Rattle.std.specs.Fmt.{digits}
use Rattle.ci_verilog.specs.Modules.{vector}
use Rattle.ci_vread.specs.Lexicon.{name}
use Rattle.ci_vread.specs.Grammar.{its_name, its_module, read}
use Rattle.ci_vread.specs.Rules.{Seen, nothing, rule, rules_of}
use Rattle.ci_vread.proofs.ComputedFaults.{fault_in, AllSay, good, bad, all_say}

-- the first two lines of a module, 107 bytes
abbrev head : List ℕ
head = codes "// cycles 1\nmodule ci_0(input [31:0] a, input [31:0] b, input [31:0] c, output [31:0] y, output [31:0] z);\n"

texts :
    AllSay (
    -- no modules
    good (codes "")
    ∷ good (codes " \t\n")
    -- 1: a byte that begins no token
    ∷ bad (codes "@") 1 0
    ∷ bad (codes "/ cycles 1\n") 1 0
    ∷ bad (codes "// cycles 1") 1 0
    ∷ bad (codes "// cycles 01\n") 1 0
    ∷ bad (codes "// cycles 12345678\n") 1 0
    ∷ bad (codes "// cycles\t1\n") 1 0
    -- 2: another token than the grammar's
    ∷ bad (codes "x") 2 0
    ∷ bad (codes "module") 2 0
    ∷ bad (codes "// cycles 1234567\n") 2 18
    ∷ bad (codes "// cycles 0\n moduleci_0(") 2 13
    ∷ bad (codes "// cycles 1\nmodule 0") 2 19
    ∷ bad (codes "// cycles 1\nmodule ci_0(input [30:0] a") 2 31
    ∷ bad (codes "// cycles 1\nmodule ci_0(input [31:0] b") 2 37
    -- 9: another module's name
    ∷ bad (codes "// cycles 1\nmodule ci_1(") 9 19
    ∷ bad (codes "// cycles 1\nmodule ci_00(") 9 19
    ∷ bad (codes "// cycles 1\nmodule ci_ 0(") 9 19
    ∷ bad (codes "// cycles 1\nmodule ci_0 x") 2 24
    -- whole modules
    ∷ good (head ++ codes "assign y = a;\nassign z = a;\nendmodule\n")
    ∷ good (head ++ codes "assign\ty=b;assign z=32'hFFFFffff;endmodule")
    -- 1 and 2: constants
    ∷ bad (head ++ codes "assign y = 'h0;") 1 118
    ∷ bad (head ++ codes "assign y = 32'g0;") 2 118
    ∷ bad (head ++ codes "assign y = 032'h0;") 2 118
    ∷ bad (head ++ codes "assign y = 12345678'h0;") 2 118
    ∷ bad (head ++ codes "wire [63:0] v;\nassign v = 64'h00000000000000000;") 2 133
    ∷ good (head ++ codes "wire [63:0] v;\nassign v = 64'h0123456789abcdef;\nassign y = a;\nassign z = a;\nendmodule\n")
    -- 2: numbers and names
    ∷ bad (head ++ codes "assign y = a[01];") 2 120
    ∷ bad (head ++ codes "assign y = a[12345678];") 2 120
    ∷ bad (head ++ codes "wire [0:0] n23456789_123456789_123456789_123;") 2 118
    ∷ good (head ++ codes "wire [0:0] n23456789_123456789_123456789_12;\nassign n23456789_123456789_123456789_12 = 1'h0;\nassign y = a;\nassign z = a;\nendmodule\n")
    ∷ bad (head ++ codes "wire [0:0] y;") 2 118
    ∷ bad (head ++ codes "wire [0:0] a;") 2 118
    ∷ bad (head ++ codes "wire [7:1] w;") 2 115
    -- 2: order
    ∷ bad (head ++ codes "assign z = a;") 2 114
    ∷ bad (head ++ codes "assign y = y;") 2 118
    ∷ bad (head ++ codes "assign y = a b;") 2 120
    ∷ bad (head ++ codes "assign y = a + b + c;") 2 124
    ∷ bad (head ++ codes "assign y = {};") 2 119
    ∷ bad (head ++ codes "assign y = {a[15:0], {b}};") 2 129
    ∷ bad (head ++ codes "assign y = {2{2{a}}};") 2 121
    ∷ bad (head ++ codes "assign y = a[3:0:0];") 2 123
    ∷ bad (head ++ codes "assign y = (a);") 2 118
    ∷ bad (head ++ codes "assign y = a;\nassign z = a;\nendmodule\nendmodule") 2 145
    -- 2: the text's end
    ∷ bad (head ++ codes "") 2 107
    ∷ bad (head ++ codes "assign y = a") 2 119
    ∷ bad (head ++ codes "assign y = 31'h0") 2 123
    ∷ bad (head ++ codes "wire [0:0] w;\nassign w = 1'h1;\nassign y = a + w") 2 154
    -- 3: unknown names
    ∷ bad (head ++ codes "assign y = d;") 3 118
    ∷ bad (head ++ codes "wire [31:0] w;\nassign w = w;") 3 133
    ∷ bad (head ++ codes "wire [0:0] w;\nassign w = 1'h1;\nassign y = {w, w2") 3 153
    -- 4: names declared twice
    ∷ bad (head ++ codes "wire [0:0] w;\nassign w = 1'h1;\nwire [0:0] w;") 4 149
    ∷ good (head ++ codes "wire [0:0] w;\nassign w = 1'h1;\nwire [0:0] w2;\nassign w2 = w;\nassign y = a;\nassign z = a;\nendmodule\n")
    -- 5: right sides and operands
    ∷ bad (head ++ codes "wire [0:0] w;\nassign w = 1'h1;\nassign y = w;") 5 149
    ∷ bad (head ++ codes "assign y = a[3];") 5 121
    ∷ bad (head ++ codes "assign y = {a[15:0], b[14:0]};") 5 135
    ∷ bad (head ++ codes "wire [0:0] w;\nassign w = 1'h1;\nassign y = a + w;") 5 153
    ∷ bad (head ++ codes "wire [0:0] w;\nassign w = 1'h1;\nassign y = w + w;") 5 153
    ∷ bad (head ++ codes "assign y = a < b;") 5 122
    ∷ good (head ++ codes "wire [0:0] w;\nassign w = a < b;\nassign y = a << w;\nassign z = a;\nendmodule\n")
    ∷ bad (head ++ codes "wire [0:0] w;\nassign w = 1'h1;\nassign y = w << a;") 5 154
    ∷ bad (head ++ codes "assign y = a * 31'h0") 5 122
    ∷ bad (head ++ codes "wire [6:0] w;\nassign w = {32'h0") 2 138
    ∷ bad (head ++ codes "wire [6:0] w;\nassign w = {32'h0}@") 5 138
    -- 5: choices
    ∷ bad (head ++ codes "assign y = a ? b : c;") 5 118
    ∷ bad (head ++ codes "wire [0:0] w;\nassign w = 1'h1;\nassign y = w ? a : w;") 5 157
    ∷ bad (head ++ codes "wire [0:0] w;\nassign w = 1'h1;\nassign y = w ? a : b") 2 158
    ∷ bad (head ++ codes "wire [0:0] w;\nassign w = 1'h1;\nassign y = w ? a : b[0]") 5 160
    ∷ good (head ++ codes "wire [0:0] w;\nassign w = 1'h1;\nassign y = w ? a : b;\nassign z = a;\nendmodule\n")
    -- 5: constants that don't fit
    ∷ bad (head ++ codes "wire [0:0] w;\nassign w = 1'h2;") 5 132
    ∷ bad (head ++ codes "assign y = 32'h100000000;") 5 118
    ∷ bad (head ++ codes "assign y = {0'h1") 5 119
    -- 5 before 6 at one token, and 6 where nothing is complete
    ∷ bad (head ++ codes "assign y = 65'h0;") 5 118
    ∷ bad (head ++ codes "assign y = 65'h0") 6 118
    ∷ bad (head ++ codes "assign y = {65'h0}") 6 119
    ∷ bad (head ++ codes "assign y = 0'h0;") 5 118
    ∷ bad (head ++ codes "assign y = {0'h0") 6 119
    -- 6: widths and indices
    ∷ bad (head ++ codes "wire [64:0] w;") 6 113
    ∷ good (head ++ codes "wire [63:0] v;\nassign v = {a, b};\nassign y = a;\nassign z = a;\nendmodule\n")
    ∷ bad (head ++ codes "assign y = a[32];") 6 120
    ∷ good (head ++ codes "wire [0:0] w;\nassign w = a[31];\nassign y = a;\nassign z = a;\nendmodule\n")
    ∷ bad (head ++ codes "assign y = a[32:0];") 6 120
    ∷ bad (head ++ codes "assign y = a[3:4];") 6 122
    ∷ good (head ++ codes "wire [0:0] w;\nassign w = a[3:3];\nassign y = a;\nassign z = a;\nendmodule\n")
    ∷ bad (head ++ codes "wire [0:0] w;\nassign w = 1'h1;\nassign y = w[1];") 6 151
    -- 6: repetitions and concatenations
    ∷ bad (head ++ codes "assign y = {0{a}};") 6 119
    ∷ bad (head ++ codes "wire [0:0] w;\nassign w = 1'h1;\nassign y = {65{w}};") 6 150
    ∷ good (head ++ codes "wire [0:0] w;\nassign w = 1'h1;\nwire [63:0] v;\nassign v = {64{w}};\nassign y = a;\nassign z = a;\nendmodule\n")
    ∷ bad (head ++ codes "assign y = {3{a}};") 6 121
    ∷ bad (head ++ codes "assign y = {a, b, c};") 6 125
    ∷ bad (head ++ codes "assign y = {a, b, c[0]};") 6 128
    ∷ bad (head ++ codes "wire [0:0] w;\nassign w = 1'h1;\nassign y = {a, {2{w}}, {31{w}") 6 165
    ∷ bad (head ++ codes "wire [0:0] w;\nassign w = 1'h1;\nassign y = {a, {2{w}}, {31{w") 2 166
    ∷ bad (head ++ codes "wire [0:0] w;\nassign w = 1'h1;\nassign y = {a, {33{1'h0") 6 157
    ∷ bad (head ++ codes "assign y = {a, {2{b}}};") 6 125
    -- 7: another target
    ∷ bad (head ++ codes "wire [0:0] w;\nassign v = 1'h0;") 7 128
    ∷ bad (head ++ codes "wire [0:0] w;\nassign y = 1'h0;") 2 128
    ∷ bad (head ++ codes "wire [0:0] w;\nassign a = 1'h0;") 2 128
    -- 9: the second module
    ∷ bad (head ++ codes "assign y = a;\nassign z = a;\nendmodule\n// cycles 1\nmodule ci_0(") 9 164
    ∷ bad (head ++ codes "assign y = a;\nassign z = a;\nendmodule\n// cycles 1\nmodule ci_1(") 2 169
    -- 5 shown by a stray byte
    ∷ bad (head ++ codes "wire [0:0] w;\nassign w = 1'h1;\nassign y = w@") 5 149
    ∷ bad (head ++ codes "assign y = a@") 1 119
    ∷ []
    )
unfolding fault_in
texts = all_say refl

-- ---- limits

-- names that are seen, so many
abbrev with_names : ℕ → Seen
with_names count = record nothing { known = replicate count (vector (codes "w") 1) }

-- the 2,048th wire, and one more: three names are inputs
most_wires :
    rules_of (with_names 2050) (read its_name (name (codes "v")) 7) ≡ rule 2 7 true ∷ rule 4 7 true ∷ rule 8 7 true ∷ []
    × rules_of (with_names 2051) (read its_name (name (codes "v")) 7) ≡ rule 2 7 true ∷ rule 4 7 true ∷ rule 8 7 false ∷ []
most_wires = (refl, refl)

-- the 32nd module, and one more
most_modules :
    rules_of (record nothing { modules = 31 }) (read its_module (name (codes "ci_31")) 7) ≡ rule 9 7 true ∷ []
    × rules_of (record nothing { modules = 32 }) (read its_module (name (codes "ci_32")) 7) ≡ rule 9 7 false ∷ []
unfolding digits
most_modules = (refl, refl)
