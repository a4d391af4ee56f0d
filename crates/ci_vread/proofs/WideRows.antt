-- Rows of wide modules, computed: both sides of each rule that tells them from narrow ones.
use Rattle.std.proofs.Common.{◌≡◌, ℕ, List, ◌++◌, ◌∷◌, [], refl}
use Rattle.std.specs.Prelude.{codes, replicate, true, false, Bool}
use Rattle.ci_verilog.specs.Modules.{vector}
use Rattle.ci_vread.specs.Lexicon.{name}
use Rattle.ci_vread.specs.Grammar.{its_name, read}
use Rattle.ci_vread.specs.Rules.{Seen, nothing, rule, rules_of}
use Rattle.ci_vread.proofs.ComputedFaults.{fault_in, AllSay, good, bad, all_say}

-- up to the token that tells a wide module from a narrow one, 72 bytes
abbrev begins : List ℕ
begins = codes "// cycles 1\nmodule ci_0(input [31:0] a, input [31:0] b, input [31:0] c, "

-- the two ports behind it of each direction, in a wide module
abbrev pairs : List ℕ
pairs = codes "input [31:0] d, input [31:0] e, output [31:0] y, output [31:0] z"

-- the ports of a narrow module, and of a wide one
abbrev narrow_ports : List ℕ
narrow_ports = codes "(input [31:0] a, input [31:0] b, input [31:0] c, output [31:0] y, output [31:0] z);\n"

abbrev wide_ports : List ℕ
wide_ports =
    codes "(input [31:0] a, input [31:0] b, input [31:0] c, input [31:0] d, input [31:0] e, "
    ++ codes "output [31:0] y, output [31:0] z, output [31:0] x);\n"

-- the first two lines of each
abbrev narrow : List ℕ
narrow = codes "// cycles 1\nmodule ci_0" ++ narrow_ports

abbrev wide : List ℕ
wide = codes "// cycles 1\nmodule ci_0" ++ wide_ports

-- the rest of a wide module
abbrev copies : List ℕ
copies = codes "assign y = a;\nassign z = b;\nassign x = c;\nendmodule\n"

-- a whole module, and the first two lines of another
abbrev wide_and_narrow : List ℕ
wide_and_narrow = wide ++ (copies ++ (codes "// cycles 1\nmodule ci_1" ++ narrow_ports))

abbrev wide_and_wide : List ℕ
wide_and_wide = wide ++ (copies ++ (codes "// cycles 1\nmodule ci_1" ++ wide_ports))

abbrev narrow_and_wide : List ℕ
narrow_and_wide =
    narrow ++ (codes "assign y = a;\nassign z = b;\nendmodule\n// cycles 1\nmodule ci_1" ++ wide_ports)

texts :
    AllSay (
    -- ports
    bad begins 2 72
    ∷ bad (begins ++ codes "in") 2 72
    ∷ bad (begins ++ codes "input") 2 77
    ∷ bad (begins ++ codes "output") 2 78
    ∷ bad (begins ++ codes "wire") 2 72
    ∷ bad (begins ++ codes "@") 1 72
    ∷ bad (begins ++ codes "d") 2 72
    ∷ bad (begins ++ codes "input [30:0] d") 2 79
    ∷ bad (begins ++ codes "input [31:0] d") 2 86
    ∷ bad (begins ++ codes "input [31:0] e") 2 85
    ∷ bad (begins ++ codes "input [31:0] d,") 2 87
    ∷ bad (begins ++ codes "input [31:0] d, output") 2 88
    ∷ bad (begins ++ codes "input [31:0] d, input [31:0] d") 2 101
    ∷ bad (begins ++ (pairs ++ codes ")")) 2 136
    ∷ bad (begins ++ (pairs ++ codes ", output [31:0] w")) 2 152
    ∷ bad (begins ++ (pairs ++ codes ", input")) 2 138
    ∷ bad (begins ++ codes "output [31:0] y, output [31:0] z, output [31:0] x);") 2 104
    ∷ bad (begins ++ codes "output [31:0] y, input") 2 89
    ∷ bad (begins ++ codes "input [31:0] dd") 2 85
    ∷ bad (begins ++ (pairs ++ codes ", output [31:0] x,")) 2 153
    -- a narrow module behind its ports
    ∷ good (narrow ++ codes "assign y = a;\nassign z = b;\nendmodule\n")
    ∷ bad (narrow ++ codes "assign y = a;\nassign z = b;\nassign x = c;\nendmodule\n") 2 135
    ∷ bad (narrow ++ codes "assign y = x;") 3 118
    ∷ bad (narrow ++ codes "assign y = d;") 3 118
    ∷ bad (narrow ++ codes "assign y = e;") 3 118
    ∷ good
    (narrow
    ++ (codes "wire [31:0] d;\nassign d = a;\nwire [31:0] e;\nassign e = d;\nwire [31:0] x;\nassign x = e;\n"
    ++ codes "assign y = x;\nassign z = d;\nendmodule\n"))
    ∷ bad (narrow ++ codes "wire [31:0] d;\nassign d = a;\nwire [31:0] d;") 4 148
    ∷ bad (narrow ++ codes "wire [31:0] x;\nassign d = a;") 7 129
    ∷ bad (narrow ++ codes "wire [31:0] w;\nassign x = a;") 7 129
    ∷ bad (narrow ++ codes "wire [31:0] w;\nassign d = a;") 7 129
    -- a wide module behind its ports
    ∷ good (wide ++ copies)
    ∷ good (wide ++ codes "assign y = d;\nassign z = d ^ e;\nassign x = {d[31:16], e[15:0]};\nendmodule")
    ∷ bad (wide ++ codes "assign y = a;\nassign z = b;\nendmodule\n") 2 184
    ∷ bad (wide ++ codes "assign y = a;\nassign x = b;") 2 177
    ∷ bad (wide ++ codes "assign y = a;\nassign z = b;\nassign z = c;") 2 191
    ∷ bad (wide ++ codes "assign y = a;\nassign z = b;\nassign x = 31'h0;") 5 195
    ∷ bad (wide ++ codes "assign y = a;\nassign z = b;\nassign x = 32'h0") 2 200
    ∷ bad (wide ++ codes "assign y = a;\nassign z = b;\nassign x = 33'h1ffffffff;") 5 195
    ∷ bad (wide ++ codes "assign y = a;\nassign z = b;\nassign d = a;") 2 191
    ∷ bad (wide ++ codes "assign x = a;") 2 163
    ∷ bad (wide ++ codes "assign y = a;\nassign z = b;\nassign x = c;\nassign") 2 198
    ∷ bad (wide ++ codes "assign y = x;") 2 167
    ∷ bad (wide ++ codes "assign y = x") 2 167
    ∷ bad (wide ++ codes "assign y = y;") 2 167
    ∷ bad (wide ++ codes "assign y = w;") 3 167
    ∷ bad (wide ++ codes "assign y = {2{x") 2 170
    ∷ bad (wide ++ codes "assign y = a + x[0];") 2 171
    ∷ bad (wide ++ codes "assign y = d + e") 2 172
    ∷ bad (wide ++ codes "wire [31:0] d") 2 168
    ∷ bad (wide ++ codes "wire [31:0] e;") 2 168
    ∷ bad (wide ++ codes "wire [31:0] x;") 2 168
    ∷ bad (wide ++ codes "wire [31:0] a") 2 168
    ∷ good (wide ++ (codes "wire [31:0] dx;\nassign dx = e;\n" ++ copies))
    ∷ good (wide ++ (codes "wire [0:0] xx; assign xx = d < e;\n" ++ copies))
    ∷ bad (wide ++ codes "wire [31:0] w;\nassign x = a;") 2 178
    ∷ bad (wide ++ codes "wire [31:0] w;\nassign d = a;") 2 178
    ∷ bad (wide ++ codes "wire [31:0] w;\nassign e = a;") 2 178
    ∷ bad (wide ++ codes "wire [31:0] w;\nassign v = a;") 7 178
    ∷ bad (wide ++ codes "wire [31:0] w;\nassign y = a;") 2 178
    ∷ bad (wide ++ codes "wire [31:0] w;\nassign w = e;\nwire [31:0] w;") 4 197
    ∷ bad (wide ++ codes "assign y = d[32];") 6 169
    ∷ bad (wide ++ codes "assign y = e[3:4];") 6 171
    ∷ bad (wide ++ codes "assign y = {d, e, 1'h0};") 6 174
    ∷ good
    (wide
    ++ (codes "wire [7:0] w;\nassign w = e[7:0];\nassign y = {w, w, d[15:0]};\n"
    ++ codes "assign z = e >> w;\nassign x = {4{w}};\nendmodule\n"))
    -- a second module
    ∷ bad (wide ++ (copies ++ narrow)) 9 227
    ∷ bad (wide_and_narrow ++ codes "assign y = d;") 3 326
    ∷ bad (wide_and_narrow ++ codes "assign y = x;") 3 326
    ∷ good (wide_and_narrow ++ codes "wire [31:0] d;\nassign d = a;\nassign y = d;\nassign z = d;\nendmodule")
    ∷ bad (wide_and_narrow ++ codes "wire [31:0] x") 2 328
    ∷ good (narrow_and_wide ++ codes "assign y = d;\nassign z = e;\nassign x = a;\nendmodule")
    ∷ bad (narrow_and_wide ++ codes "assign y = x") 2 312
    ∷ bad (wide_and_wide ++ codes "wire [31:0] x") 2 376
    -- names of modules, and no module
    ∷ bad (codes "// cycles 1\nmodule d(") 9 19
    ∷ bad (codes "// cycles 1\nmodule x") 9 19
    ∷ bad (codes "d") 2 0
    ∷ bad (codes "x") 2 0
    ∷ []
    )
unfolding fault_in
texts = all_say refl

-- ---- limits

abbrev with_names : Bool → ℕ → Seen
with_names b count = record nothing { wide = b; known = replicate count (vector (codes "w") 1) }

-- the 2,048th wire of a wide module, and one more: five names are inputs
most_wires :
    rules_of (with_names true 2052) (read its_name (name (codes "v")) 7)
    ≡ rule 2 7 true ∷ rule 4 7 true ∷ rule 8 7 true ∷ []
    × rules_of (with_names true 2053) (read its_name (name (codes "v")) 7)
    ≡ rule 2 7 true ∷ rule 4 7 true ∷ rule 8 7 false ∷ []
    × rules_of (with_names false 2051) (read its_name (name (codes "x")) 7)
    ≡ rule 2 7 true ∷ rule 4 7 true ∷ rule 8 7 false ∷ []
    × rules_of (with_names true 5) (read its_name (name (codes "x")) 7)
    ≡ rule 2 7 false ∷ rule 4 7 true ∷ rule 8 7 true ∷ []
most_wires = (refl, refl, refl, refl)
