-- Modules of the profile, and what each of them keeps, for everybody (IEEE 1364-2005, sections 3.5.1 and 4.3, constants
-- and vectors, 5.1, 5.2.1 and 5.4, operators, parts of vectors and widths, and 6.1, continuous assignments).
use Rattle.std.specs.Prelude.{◌≡◌, ℕ, ◌+◌, ◌-◌, ◌*◌, ◌^◌, ◌<◌, ◌≤◌, ◌≢◌, List, [], ◌∷◌, ◌++◌}
use Rattle.std.specs.Prelude.{length, map, codes, slice_get, Some, Bool, true, false, ⊤}
use Rattle.std.specs.List.{Contains, AllByRecursion}
use Rattle.ci_verilog.specs.declared.expressions.Simple.{Simple}
use Rattle.ci_verilog.specs.declared.expressions.Simple.TheVariants.{Whole, Bits, Number}
use Rattle.ci_verilog.specs.declared.expressions.Item.{Item}
use Rattle.ci_verilog.specs.declared.expressions.Item.TheVariants as item
use Rattle.ci_verilog.specs.declared.expressions.Term.{Term}
use Rattle.ci_verilog.specs.declared.expressions.Term.TheVariants as term
use Rattle.ci_verilog.specs.declared.expressions.Operator.{Operator}
use Rattle.ci_verilog.specs.declared.expressions.Operator.TheVariants.{Left, Right, Less}
use Rattle.ci_verilog.specs.declared.expressions.Expr.{Expr}
use Rattle.ci_verilog.specs.declared.expressions.Expr.TheVariants.{One, Two, Choose}
use Rattle.ci_verilog.specs.declared.expressions.Wire.{Wire}

-- wires in their order: those of a wide module, of five inputs and three results, or of a narrow one, of three and two
pub record WireList : Type 0 where
  pub wide : Bool
  pub list : List Wire

abbrev pub wires_of : Bool → List Wire → WireList
wires_of wide list = record { wide = wide; list = list }

-- A module: its wires in their order, the expressions of its results, of which x is 0 in a narrow one, and the cycles
-- of one use.
pub record Module : Type 0 where
  pub number : ℕ
  pub cycles : ℕ
  pub wires : WireList
  pub y : Expr
  pub z : Expr
  pub x : Expr

-- ---- widths

-- a name that is known, and its width in bits
pub record Known : Type 0 where
  pub name : List ℕ
  pub width : ℕ

abbrev pub vector : List ℕ → ℕ → Known
vector name width = record { name = name; width = width }

-- the inputs, in their order: those of a narrow module, and those of a wide one
abbrev pub inputs : Bool → List Known
inputs false = vector (codes "a") 32 ∷ vector (codes "b") 32 ∷ vector (codes "c") 32 ∷ []
inputs true =
    vector (codes "a") 32 ∷ vector (codes "b") 32 ∷ vector (codes "c") 32 ∷ vector (codes "d") 32
    ∷ vector (codes "e") 32 ∷ []

-- the input of this number has the name
abbrev pub IsInput : Bool → List ℕ → ℕ → Type 0
IsInput wide name k = slice_get (inputs wide) k ≡ Some (vector name 32)

abbrev pub declared_by : Wire → Known
declared_by wire = vector wire.name wire.width

-- the inputs and these wires
abbrev pub known_by : WireList → List Known
known_by wires = inputs wires.wide ++ map declared_by wires.list

-- the operator makes this width of operands of those widths
abbrev pub Makes : Operator → ℕ → ℕ → ℕ → Type 0
Makes Left left right width = width ≡ left
Makes Right left right width = width ≡ left
Makes Less left right width = (left ≡ right) × (width ≡ 1)
Makes operator left right width = (left ≡ right) × (width ≡ left)

module _ (known : List Known) where
  -- the part has this width, and is within its bounds
  pub data IsSimple : Simple → ℕ → Type 0 where
    whole : {name : List ℕ} {width : ℕ} → Contains known (vector name width) → IsSimple (Whole name) width
    bits : {name : List ℕ} {high low width : ℕ} → Contains known (vector name width) → high < width → low ≤ high
        → IsSimple (Bits name high low) (high + 1 - low)
    number : {width value : ℕ} → 1 ≤ width → width ≤ 64 → value < 2 ^ width → IsSimple (Number width value) width

  pub data IsItem : Item → ℕ → Type 0 where
    plain : {simple : Simple} {width : ℕ} → IsSimple simple width → IsItem (item.Plain simple) width
    repeat : {count width : ℕ} {simple : Simple} → 1 ≤ count → count * width ≤ 64 → IsSimple simple width
        → IsItem (item.Repeat count simple) (count * width)

  -- the items of a concatenation have these widths together
  pub data AreItems : List Item → ℕ → Type 0 where
    one : {i : Item} {width : ℕ} → IsItem i width → AreItems (i ∷ []) width
    more : {i : Item} {items : List Item} {width others : ℕ} → IsItem i width → AreItems items others
        → AreItems (i ∷ items) (width + others)

  pub data IsTerm : Term → ℕ → Type 0 where
    plain : {simple : Simple} {width : ℕ} → IsSimple simple width → IsTerm (term.Plain simple) width
    repeat : {count width : ℕ} {simple : Simple} → 1 ≤ count → count * width ≤ 64 → IsSimple simple width
        → IsTerm (term.Repeat count simple) (count * width)
    join : {items : List Item} {width : ℕ} → AreItems items width → width ≤ 64 → IsTerm (term.Join items) width

  pub data IsExpr : Expr → ℕ → Type 0 where
    one : {t : Term} {width : ℕ} → IsTerm t width → IsExpr (One t) width
    two : {operator : Operator} {l r : Term} {left right width : ℕ} → IsTerm l left → IsTerm r right
        → Makes operator left right width → IsExpr (Two operator l r) width
    choose : {test first second : Term} {width : ℕ} → IsTerm test 1 → IsTerm first width → IsTerm second width
        → IsExpr (Choose test first second) width

  -- no other vector has the name
  abbrev pub IsNew : List ℕ → Type 0
  IsNew name = (width : ℕ) → ¬ Contains known (vector name width)

  pub record IsWire (wire : Wire) : Type 0 where
    pub is_new : IsNew wire.name
    pub least : 1 ≤ wire.width
    pub most : wire.width ≤ 64
    pub value : IsExpr wire.value wire.width

-- each wire is one that the inputs and the wires before it allow
abbrev pub AreWires : List Known → List Wire → Type 0
AreWires known [] = ⊤
AreWires known (wire ∷ wires) = IsWire known wire × AreWires (known ++ declared_by wire ∷ []) wires

-- A wire may be named so: in a wide module x names a result. That d and e name inputs there is a matter of what is new.
abbrev pub IsFree : Bool → List ℕ → Type 0
IsFree wide name = wide ≡ true → name ≢ codes "x"

abbrev pub AreFree : Bool → List Wire → Type 0
AreFree wide = AllByRecursion (λ wire. IsFree wide wire.name)

-- the result x of a narrow module, 32'h00000000
abbrev pub nothing : Expr
nothing = One (term.Plain (Number 32 0))

-- what every module keeps
pub record IsModule (module_ : Module) : Type 0 where
  pub are_wires : AreWires (inputs module_.wires.wide) module_.wires.list
  pub are_free : AreFree module_.wires.wide module_.wires.list
  pub few : length module_.wires.list ≤ 2048
  pub y : IsExpr (known_by module_.wires) module_.y 32
  pub z : IsExpr (known_by module_.wires) module_.z 32
  pub x : IsExpr (known_by module_.wires) module_.x 32
  pub narrow : module_.wires.wide ≡ false → module_.x ≡ nothing
