-- The gates of expressions, one after the other.
use Rattle.std.specs.Prelude.{◌≡◌, ℕ, ◌+◌, ◌*◌, ◌<◌, ◌≤◌, List, [], ◌∷◌, ◌++◌, length, take}
use Rattle.std.specs.List.{Contains, slice_index_or}
use Rattle.std.proofs.Common.{refl, sym, ap, ◌∙◌, subst, arith}
use Rattle.ci_verilog.specs.declared.vectors.Vector.{Vector}
use Rattle.ci_verilog.specs.declared.expressions.Simple.{Simple}
use Rattle.ci_verilog.specs.declared.expressions.Item.{Item}
use Rattle.ci_verilog.specs.declared.expressions.Term.{Term}
use Rattle.ci_verilog.specs.declared.expressions.Wire.{Wire}
use Rattle.ci_verilog.specs.declared.expressions.Expr.{Expr}
use Rattle.ci_verilog.specs.declared.expressions.Expr.TheVariants.{One, Two, Choose}
use Rattle.ci_verilog.specs.Modules.{Known, IsSimple, IsItem, AreItems, IsTerm, IsExpr}
use Rattle.ci_verilog.specs.Values.{term_bits}
use Rattle.ci_verilog.proofs.ExpressionLaws.{AllFit, term_fits}
use Rattle.std.proofs.lemmas.List.{map_more}
use Rattle.ci_gates.specs.Counts.{operator_gates, HasGates, HaveGates}
use Rattle.ci_gates.specs.private.Wired.{values_of}

-- ---- what more names leave as it is

abbrev AreMore : List Known → List Known → Type 0
AreMore known more = (v : Known) → Contains known v → Contains more v

module _ (known more : List Known) (are : AreMore known more) where
  later_simple : (s : Simple) (w : ℕ) → IsSimple known s w → IsSimple more s w
  later_simple _ _ (IsSimple.whole {name = name} {width = width} is) = IsSimple.whole (are _ is)
  later_simple _ _ (IsSimple.bits is below order) = IsSimple.bits (are _ is) below order
  later_simple _ _ (IsSimple.number least most below) = IsSimple.number least most below

  later_item : (i : Item) (w : ℕ) → IsItem known i w → IsItem more i w
  later_item _ _ (IsItem.plain {simple = s} {width = w} is) = IsItem.plain (later_simple s w is)
  later_item _ _ (IsItem.repeat {width = w} {simple = s} some narrow is) = IsItem.repeat some narrow (later_simple s w is)

  later_items : (items : List Item) (w : ℕ) → AreItems known items w → AreItems more items w
  later_items _ _ (AreItems.one {i = i} {width = w} is) = AreItems.one (later_item i w is)
  later_items _ _ (AreItems.more {i = i} {items = items} {width = w} {others = n} is others) =
      AreItems.more (later_item i w is) (later_items items n others)

  later_term : (t : Term) (w : ℕ) → IsTerm known t w → IsTerm more t w
  later_term _ _ (IsTerm.plain {simple = s} {width = w} is) = IsTerm.plain (later_simple s w is)
  later_term _ _ (IsTerm.repeat {width = w} {simple = s} some narrow is) = IsTerm.repeat some narrow (later_simple s w is)
  later_term _ _ (IsTerm.join {items = items} {width = w} is narrow) = IsTerm.join (later_items items w is) narrow

  pub later_expr : (e : Expr) (w : ℕ) → IsExpr known e w → IsExpr more e w
  later_expr _ _ (IsExpr.one {t = t} {width = w} is) = IsExpr.one (later_term t w is)
  later_expr _ _ (IsExpr.two {l = l} {r = r} {left = left} {right = right} is_l is_r makes) =
      IsExpr.two (later_term l left is_l) (later_term r right is_r) makes
  later_expr _ _ (IsExpr.choose {test = test} {first = first} {second = second} {width = w} is_t is_f is_s) =
      IsExpr.choose (later_term test 1 is_t) (later_term first w is_f) (later_term second w is_s)

  pub later_gates : (e : Expr) (n : ℕ) → HasGates known e n → HasGates more e n
  later_gates _ _ HasGates.one = HasGates.one
  later_gates _ _ (HasGates.two {l = l} {r = r} {left = left} {right = right} is_l is_r) =
      HasGates.two (later_term l left is_l) (later_term r right is_r)
  later_gates _ _ (HasGates.choose {first = first} {width = width} is) = HasGates.choose (later_term first width is)

-- ---- lists of expressions

-- the gates of the first expressions and of the others
pub record AreParts (known : List Known) (before after : List Expr) (n : ℕ) : Type 0 where
  pub first : ℕ
  pub second : ℕ
  pub first_have : HaveGates known before first
  pub second_have : HaveGates known after second
  pub sum : n ≡ first + second

module _ (known : List Known) where
  pub have_both : (before after : List Expr) (n m : ℕ) → HaveGates known before n → HaveGates known after m
      → HaveGates known (before ++ after) (n + m)
  have_both _ after _ m HaveGates.none have = subst (HaveGates known after) (let e : m ≡ 0 + m = omega arith in e) have
  have_both _ after _ m (HaveGates.more {expr = e} {exprs = es} {n = n} {others = others} has others_have) have =
      subst (HaveGates known (e ∷ es ++ after)) (let sum : n + (others + m) ≡ n + others + m = omega arith in sum)
      (HaveGates.more has (have_both es after others m others_have have))

  pub have_more : (exprs : List Expr) (e : Expr) (n m : ℕ) → HaveGates known exprs n → HasGates known e m
      → HaveGates known (exprs ++ e ∷ []) (n + m)
  have_more exprs e n m have has =
      have_both exprs (e ∷ []) n m have
      (subst (HaveGates known (e ∷ [])) (let sum : m + 0 ≡ m = omega arith in sum) (HaveGates.more has HaveGates.none))

  -- one wire more
  pub wires_have_more : (wires : List Wire) (k : ℕ) (wire : Wire) (n m : ℕ) → k < length wires → wire ≡ slice_index_or wires k wire
      → HaveGates known (values_of (take k wires)) n → HasGates known wire.value m
      → HaveGates known (values_of (take (k + 1) wires)) (n + m)
  wires_have_more wires k wire n m below found have has =
      subst (λ es. HaveGates known es (n + m))
      (sym (map_more (λ (w : Wire). w.value) wires k wire below ∙ ap (λ (w : Wire). values_of (take k wires) ++ w.value ∷ []) (sym found)))
      (have_more (values_of (take k wires)) wire.value n m have has)

  parted : (before after : List Expr) (n : ℕ) → HaveGates known (before ++ after) n → AreParts known before after n
  parted [] after n have = record { first = 0; second = n; first_have = HaveGates.none; second_have = have; sum = omega arith }
  parted (e ∷ es) after _ (HaveGates.more {n = n} {others = others} has have) =
      let rest = parted es after others have in
      record {
        first = n + rest.first;
        second = rest.second;
        first_have = HaveGates.more has rest.first_have;
        second_have = rest.second_have;
        sum = omega (arith, rest.sum);
      }

  -- ---- one number

  module _ (names : List ℕ → Vector) (fit : AllFit known names) where
    abbrev width_of : Term → ℕ
    width_of t = (term_bits names t).width

    -- the gates, by the widths of the vectors that the names stand for
    abbrev gates_by : Expr → ℕ
    gates_by (One t) = 0
    gates_by (Two operator l r) = operator_gates operator (width_of l) (width_of r)
    gates_by (Choose test first second) = 3 * width_of first

    width_is : (t : Term) (w : ℕ) → IsTerm known t w → width_of t ≡ w
    width_is t w is = (term_fits known names fit t w is).width_is

    has_by : (e : Expr) (n : ℕ) → HasGates known e n → gates_by e ≡ n
    has_by _ _ HasGates.one = refl
    has_by _ _ (HasGates.two {operator = operator} {l = l} {r = r} {left = left} {right = right} is_l is_r) =
        λ i. operator_gates operator (width_is l left is_l i) (width_is r right is_r i)
    has_by _ _ (HasGates.choose {first = first} {width = width} is) = ap (λ w. 3 * w) (width_is first width is)

    abbrev have_by : List Expr → ℕ
    have_by [] = 0
    have_by (e ∷ es) = gates_by e + have_by es

    have_is : (exprs : List Expr) (n : ℕ) → HaveGates known exprs n → have_by exprs ≡ n
    have_is _ _ HaveGates.none = refl
    have_is _ _ (HaveGates.more {expr = e} {exprs = es} {n = n} {others = others} has have) =
        λ i. has_by e n has i + have_is es others have i

    pub have_one : (exprs : List Expr) (n m : ℕ) → HaveGates known exprs n → HaveGates known exprs m → n ≡ m
    have_one exprs n m left right = sym (have_is exprs n left) ∙ have_is exprs m right

    -- the gates before an expression and its own are no more than all
    pub have_room : (before after : List Expr) (e : Expr) (n m all : ℕ) → HaveGates known before n → HasGates known e m
        → HaveGates known (before ++ e ∷ after) all → n + m ≤ all
    have_room before after e n m all have has have_all =
        let parts = parted before (e ∷ after) all have_all in
        let rest = parted (e ∷ []) after parts.second parts.second_have in
        let first : n ≡ parts.first = have_one before n parts.first have parts.first_have in
        let second : m + 0 ≡ rest.first = have_one (e ∷ []) (m + 0) rest.first (HaveGates.more has HaveGates.none) rest.first_have in
        omega (arith, first, second, parts.sum, rest.sum)

-- ---- an expression takes some number of gates

pub gates_of : (known : List Known) (e : Expr) (w : ℕ) → IsExpr known e w → (n : ℕ) × HasGates known e n
gates_of known _ _ (IsExpr.one is) = (0, HasGates.one)
gates_of known _ _ (IsExpr.two is_l is_r makes) = (_, HasGates.two is_l is_r)
gates_of known _ _ (IsExpr.choose is_t is_f is_s) = (_, HasGates.choose is_f)
