-- The numbers of a module are small enough to be read: widths, indexes and counts are at most 64.
use Rattle.std.proofs.Common.{ℕ, ◌*◌, ◌<◌, ◌≤◌, List, [], ◌∷◌, ◌++◌, length, arith}
use Rattle.std.proofs.Math.Nat.{le-mul_of_pos_right}
use Rattle.std.specs.List.{AllByRecursion}
use Rattle.ci_verilog.specs.declared.expressions.Simple.{Simple}
use Rattle.ci_verilog.specs.declared.expressions.Simple.TheVariants.{Whole, Bits, Number}
use Rattle.ci_verilog.specs.declared.expressions.Item.{Item}
use Rattle.ci_verilog.specs.declared.expressions.Item.TheVariants as of_item
use Rattle.ci_verilog.specs.declared.expressions.Term.{Term}
use Rattle.ci_verilog.specs.declared.expressions.Term.TheVariants as of_term
use Rattle.ci_verilog.specs.declared.expressions.Expr.{Expr}
use Rattle.ci_verilog.specs.declared.expressions.Expr.TheVariants.{One, Two, Choose}
use Rattle.ci_verilog.specs.declared.expressions.Wire.{Wire}
use Rattle.ci_verilog.specs.Modules.{Module, Known, inputs, declared_by, known_by, IsSimple, IsItem, AreItems, IsTerm, IsExpr, AreWires, IsModule}
use Rattle.ci_vread.proofs.NameLaws.{IsTable, inputs_are, one_more_name, all_names}
use Rattle.ci_vread.proofs.SpeltTerms.{least_width, most_count}

abbrev pub SmallSimple : Simple → Type 0
SmallSimple (Whole name) = Unit {0}
SmallSimple (Bits name high low) = (high < 128) × (low < 128)
SmallSimple (Number width value) = width < 128

abbrev pub SmallItem : Item → Type 0
SmallItem (of_item.Plain simple) = SmallSimple simple
SmallItem (of_item.Repeat count simple) = (count < 128) × SmallSimple simple

abbrev pub SmallTerm : Term → Type 0
SmallTerm (of_term.Plain simple) = SmallSimple simple
SmallTerm (of_term.Repeat count simple) = (count < 128) × SmallSimple simple
SmallTerm (of_term.Join items) = AllByRecursion SmallItem items × (length items ≤ 64)

abbrev pub SmallExpr : Expr → Type 0
SmallExpr (One t) = SmallTerm t
SmallExpr (Two o l r) = SmallTerm l × SmallTerm r
SmallExpr (Choose t f s) = SmallTerm t × SmallTerm f × SmallTerm s

abbrev pub SmallWire : Wire → Type 0
SmallWire w = (w.width ≤ 64) × SmallExpr w.value

pub record SmallModule (m : Module) : Type 0 where
  pub wires : AllByRecursion SmallWire m.wires.list
  pub few : length m.wires.list ≤ 2048
  pub y : SmallExpr m.y
  pub z : SmallExpr m.z
  pub x : SmallExpr m.x

module _ (known : List Known) (table : IsTable known) where
  small_simple : (s : Simple) (w : ℕ) → IsSimple known s w → SmallSimple s
  small_simple _ _ (IsSimple.whole is) = tt
  small_simple _ _ (IsSimple.bits {name = n} {high = h} {low = l} {width = w} is below order) =
      let e = (table n w is).most in (omega (arith, e), omega (arith, e))
  small_simple _ _ (IsSimple.number least most below) = omega arith

  repeated_within : (count w : ℕ) (s : Simple) → 1 ≤ count → count * w ≤ 64 → IsSimple known s w
      → (1 ≤ count * w) × (count < 128)
  repeated_within count w s some most is =
      let e = most_count count w (least_width table is) most in
      let f = le-mul_of_pos_right count (least_width table is) in
      (omega (arith, f), omega (arith, e))

  within_item : (i : Item) (w : ℕ) → IsItem known i w → (1 ≤ w) × SmallItem i
  within_item _ _ (IsItem.plain {simple = s} {width = w} is) = (least_width table is, small_simple s w is)
  within_item _ _ (IsItem.repeat {count = count} {width = w} {simple = s} some most is) =
      let r = repeated_within count w s some most is in (r.0, (r.1, small_simple s w is))

  small_items : (items : List Item) (w : ℕ) → AreItems known items w → AllByRecursion SmallItem items × (length items ≤ w)
  small_items _ _ (AreItems.one {i = i} {width = w} is) = let r = within_item i w is in ((r.1, tt), omega (arith, r.0))
  small_items _ _ (AreItems.more {i = i} {items = items} {width = w} {others = others} is are) =
      let r = within_item i w is in
      let rest = small_items items others are in
      ((r.1, rest.0), omega (arith, r.0, rest.1))

  small_term : (t : Term) (w : ℕ) → IsTerm known t w → SmallTerm t
  small_term _ _ (IsTerm.plain {simple = s} {width = w} is) = small_simple s w is
  small_term _ _ (IsTerm.repeat {count = count} {width = w} {simple = s} some most is) =
      ((repeated_within count w s some most is).1, small_simple s w is)
  small_term _ _ (IsTerm.join {items = items} {width = w} are most) =
      let r = small_items items w are in (r.0, omega (arith, r.1))

  small_expr : (e : Expr) (w : ℕ) → IsExpr known e w → SmallExpr e
  small_expr _ _ (IsExpr.one {t = t} {width = w} is) = small_term t w is
  small_expr _ _ (IsExpr.two {operator = o} {l = l} {r = r} {left = left} {right = right} is_l is_r makes) =
      (small_term l left is_l, small_term r right is_r)
  small_expr _ _ (IsExpr.choose {test = t} {first = f} {second = s} {width = w} is_t is_f is_s) =
      (small_term t 1 is_t, small_term f w is_f, small_term s w is_s)

small_wires : (known : List Known) (wires : List Wire) → AreWires known wires → IsTable known → AllByRecursion SmallWire wires
small_wires known [] are table = tt
small_wires known (wire ∷ wires) are table = (
  (are.0.most, small_expr known table wire.value wire.width are.0.value),
  small_wires (known ++ declared_by wire ∷ []) wires are.1 (one_more_name known wire table are.0),
)

pub small_module : (m : Module) → IsModule m → SmallModule m
small_module m is =
    let names = inputs_are m.wires.wide in
    let table = all_names (inputs m.wires.wide) m.wires.list names is.are_wires in
    record {
      wires = small_wires (inputs m.wires.wide) m.wires.list is.are_wires names;
      few = is.few;
      y = small_expr (known_by m.wires) table m.y 32 is.y;
      z = small_expr (known_by m.wires) table m.z 32 is.z;
      x = small_expr (known_by m.wires) table m.x 32 is.x;
    }
