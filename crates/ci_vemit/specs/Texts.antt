-- The text of modules, for everybody: one statement a line, with no space at its front. A space stands between words,
-- on both sides of the bounds of a vector that is declared, of `=`, of operators, of `?` and of the `:` of a choice,
-- and behind commas, and nowhere else. Digits of constants are in lower case.
use Rattle.std.specs.Prelude.{◌≡◌, ℕ, suc, ◌-◌, ◌/◌, ◌%◌, ◌^◌, ◌<◌, ◌≤◌, ◌==◌, nat_le, Bool, true, false, if◌then◌else◌}
use Rattle.std.specs.Prelude.{List, [], ◌∷◌, ◌++◌, length, codes, ⊤}
use Rattle.std.specs.List.{AllByRecursion, flat_map, join_by}
use Rattle.std.specs.Fmt.{decimal}
use Rattle.ci_reading.specs.Hex.{eight_hex_digits}
use Rattle.ci_reading.specs.Lines.{line}
use Rattle.ci_verilog.specs.declared.expressions.Simple.{Simple}
use Rattle.ci_verilog.specs.declared.expressions.Simple.TheVariants.{Whole, Bits, Number}
use Rattle.ci_verilog.specs.declared.expressions.Item.{Item}
use Rattle.ci_verilog.specs.declared.expressions.Item.TheVariants as as_item
use Rattle.ci_verilog.specs.declared.expressions.Term.{Term}
use Rattle.ci_verilog.specs.declared.expressions.Term.TheVariants as as_term
use Rattle.ci_verilog.specs.declared.expressions.Expr.{Expr}
use Rattle.ci_verilog.specs.declared.expressions.Expr.TheVariants.{One, Two, Choose}
use Rattle.ci_verilog.specs.declared.expressions.Wire.{Wire}
use Rattle.ci_verilog.specs.Modules.{Module, IsModule}
use Rattle.ci_vread.specs.declared.tokens.Sign.{Sign}
use Rattle.ci_vread.specs.Lexicon.{AreLetters, spelling, operator_spelling, constant_spelling}
use Rattle.ci_vread.specs.Spelling.{module_name}

-- ---- expressions

-- the digits of a value of this width: eight up to 32 bits, sixteen above
abbrev pub hex_digits : ℕ → ℕ → List ℕ
hex_digits width value =
    if nat_le width 32 then eight_hex_digits (value % 2 ^ 32)
    else eight_hex_digits (value / 2 ^ 32) ++ eight_hex_digits (value % 2 ^ 32)

-- one bit by its number alone
abbrev pub range_text : ℕ → ℕ → List ℕ
range_text high low = if high == low then decimal high else decimal high ++ (codes ":" ++ decimal low)

abbrev pub simple_text : Simple → List ℕ
simple_text (Whole name) = name
simple_text (Bits name high low) = name ++ (codes "[" ++ (range_text high low ++ codes "]"))
simple_text (Number width value) = constant_spelling (decimal width) (hex_digits width value)

abbrev pub repeat_text : ℕ → Simple → List ℕ
repeat_text count simple = codes "{" ++ (decimal count ++ (codes "{" ++ (simple_text simple ++ codes "}}")))

abbrev pub item_text : Item → List ℕ
item_text (as_item.Plain simple) = simple_text simple
item_text (as_item.Repeat count simple) = repeat_text count simple

abbrev pub term_text : Term → List ℕ
term_text (as_term.Plain simple) = simple_text simple
term_text (as_term.Repeat count simple) = repeat_text count simple
term_text (as_term.Join items) = codes "{" ++ (join_by item_text (codes ", ") items ++ codes "}")

abbrev pub expr_text : Expr → List ℕ
expr_text (One term) = term_text term
expr_text (Two operator left right) =
    term_text left ++ (codes " " ++ (operator_spelling operator ++ (codes " " ++ term_text right)))
expr_text (Choose test first second) =
    term_text test ++ (codes " ? " ++ (term_text first ++ (codes " : " ++ term_text second)))

-- ---- modules

unfoldable pub assign_text : List ℕ → Expr → List ℕ
assign_text name value = line (codes "assign " ++ (name ++ (codes " = " ++ (expr_text value ++ codes ";"))))

unfoldable pub wire_text : Wire → List ℕ
wire_text wire =
    line (codes "wire [" ++ (decimal (wire.width - 1) ++ (codes ":0] " ++ (wire.name ++ codes ";"))))
    ++ assign_text wire.name wire.value

-- the ports of a narrow module, and of a wide one
unfoldable pub ports_text : Bool → List ℕ
ports_text false = codes "(input [31:0] a, input [31:0] b, input [31:0] c, output [31:0] y, output [31:0] z);"
ports_text true =
    codes "(input [31:0] a, input [31:0] b, input [31:0] c, input [31:0] d, input [31:0] e, "
    ++ codes "output [31:0] y, output [31:0] z, output [31:0] x);"

unfoldable pub cycles_text : ℕ → List ℕ
cycles_text n = line (codes "// cycles " ++ decimal n)

unfoldable pub header_text : Bool → ℕ → List ℕ
header_text wide number = line (codes "module " ++ (module_name number ++ ports_text wide))

-- the result x, of which a narrow module says nothing
unfoldable pub third_text : Bool → Expr → List ℕ
third_text false x = []
third_text true x = assign_text (codes "x") x

-- the results, and the end of the module
unfoldable pub end_text : Module → List ℕ
end_text m =
    assign_text (codes "y") m.y
    ++ (assign_text (codes "z") m.z ++ (third_text m.wires.wide m.x ++ line (codes "endmodule")))

unfoldable pub module_text : Module → List ℕ
module_text m =
    cycles_text m.cycles
    ++ (header_text m.wires.wide m.number ++ (flat_map wire_text m.wires.list ++ end_text m))

-- the modules in their order, with nothing between them
abbrev pub text_of : List Module → List ℕ
text_of modules = flat_map module_text modules

-- ---- modules that the grammar has words for

pub record IsName (bytes : List ℕ) : Type 0 where
  pub letters : AreLetters bytes
  pub no_word : (s : Sign) → ¬ (bytes ≡ spelling s)
  pub short : length bytes ≤ 32

-- its number is this one, and its names and cycles are those of the grammar
pub record IsSpellable (number : ℕ) (m : Module) : Type 0 where
  pub is_module : IsModule m
  pub number_is : m.number ≡ number
  pub below : number < 32
  pub few_cycles : m.cycles ≤ 9999999
  pub names : AllByRecursion (λ wire. IsName wire.name) m.wires.list

-- the modules are so, with numbers from this one on
abbrev pub AreSpellable : ℕ → List Module → Type 0
AreSpellable number [] = ⊤
AreSpellable number (m ∷ modules) = IsSpellable number m × AreSpellable (suc number) modules
