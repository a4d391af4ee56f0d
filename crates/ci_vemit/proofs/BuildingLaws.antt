-- What building the module of a unit needs: one operation more, one unit more, and that the module may be made.
use Rattle.std.proofs.Common.{◌≡◌, ℕ, Bool, false, zero, suc, ◌+◌, ◌<◌, ◌≤◌, List, [], ◌∷◌, ◌++◌, take, length, slice_index_or, Some}
use Rattle.std.proofs.Common.{slice_get, refl, sym, ap, ◌∙◌, subst, arith, append_assoc, append-nil}
use Rattle.std.specs.Prelude.{option_map}
use Rattle.ci_verilog.specs.declared.expressions.Expr.{Expr}
use Rattle.ci_verilog.specs.declared.expressions.Wire.{Wire}
use Rattle.ci_verilog.specs.Modules.{WireList, wires_of, inputs, known_by, nothing, IsExpr, AreWires, AreFree}
use Rattle.ci_unit.specs.declared.operations.UnitOp.{UnitOp}
use Rattle.ci_unit.specs.Units.{Unit, IsUnit}
use Rattle.ci_vemit.specs.Laws.{ModulesAreInOrder}
use Rattle.ci_vemit.specs.Templates.{op_wires, wires_from, is_wide, output_at, module_of, modules_from, modules_of}
use Rattle.ci_vemit.proofs.UnitModules.{module_is, output_is_allowed, nothing_behind}

more_wires : (m n : ℕ) (ops : List UnitOp) (d : UnitOp) → n < length ops
    → wires_from m (take (suc n) ops) ≡ wires_from m (take n ops) ++ op_wires (m + n) (slice_index_or ops n d)
more_wires m n [] d below = absurd (omega arith)
more_wires m zero (first ∷ ops) d below =
    append-nil (op_wires m first) ∙ ap (λ k. op_wires k first) (let e : m ≡ m + 0 = omega arith in e)
more_wires m (suc n) (first ∷ ops) d below =
    ap (λ ws. op_wires m first ++ ws) (more_wires (suc m) n ops d (omega arith))
    ∙ sym (append_assoc (op_wires m first) (wires_from (suc m) (take n ops)) (op_wires (suc m + n) (slice_index_or ops n d)))
    ∙ ap (λ k. (op_wires m first ++ wires_from (suc m) (take n ops)) ++ op_wires k (slice_index_or ops n d))
    (let e : suc m + n ≡ m + suc n = omega arith in e)

pub wires_more : (n : ℕ) (ops : List UnitOp) (d : UnitOp) → n < length ops
    → wires_from 0 (take (n + 1) ops) ≡ wires_from 0 (take n ops) ++ op_wires n (slice_index_or ops n d)
wires_more n ops d below =
    ap (λ m. wires_from 0 (take m ops)) (let e : n + 1 ≡ suc n = omega arith in e) ∙ more_wires 0 n ops d below
    ∙ ap (λ m. wires_from 0 (take n ops) ++ op_wires m (slice_index_or ops n d)) (let e : 0 + n ≡ n = omega arith in e)

more_modules : (m k : ℕ) (units : List Unit) (unit : Unit) → k < length units → unit ≡ slice_index_or units k unit
    → modules_from m (take (suc k) units) ≡ modules_from m (take k units) ++ module_of (m + k) unit ∷ []
more_modules m k [] unit below is = absurd (omega arith)
more_modules m zero (first ∷ units) unit below is =
    λ i. module_of (let e : m ≡ m + 0 = omega arith in e i) (sym is i) ∷ []
more_modules m (suc k) (first ∷ units) unit below is =
    λ i. module_of m first
    ∷ (more_modules (suc m) k units unit (omega arith) is
    ∙ ap (λ n. modules_from (suc m) (take k units) ++ module_of n unit ∷ []) (let e : suc m + k ≡ m + suc k = omega arith in e)) i

pub modules_more : (k : ℕ) (units : List Unit) (unit : Unit) → k < length units → unit ≡ slice_index_or units k unit
    → modules_of (take (k + 1) units) ≡ modules_of (take k units) ++ module_of k unit ∷ []
modules_more k units unit below is =
    ap (λ m. modules_of (take m units)) (let e : k + 1 ≡ suc k = omega arith in e) ∙ more_modules 0 k units unit below is
    ∙ ap (λ m. modules_of (take k units) ++ module_of m unit ∷ []) (let e : 0 + k ≡ k = omega arith in e)

-- ---- the module may be made

module _ (unit : Unit) (is : IsUnit unit) (wide : Bool) (wide_is : wide ≡ is_wide unit) where
  module _ (wires : List Wire) (made : wires ≡ wires_from 0 unit.ops) where
    pub wires_allowed : AreWires (inputs wide) wires
    wires_allowed =
        subst (λ b. AreWires (inputs b) wires) (sym wide_is)
        (subst (λ ws. AreWires (inputs (is_wide unit)) ws) (sym made) (module_is 0 unit is).are_wires)

    pub wires_free : AreFree wide wires
    wires_free = subst (λ b. AreFree b wires) (sym wide_is) (subst (λ ws. AreFree (is_wide unit) ws) (sym made) (module_is 0 unit is).are_free)

    pub wires_few : length wires ≤ 2048
    wires_few = subst (λ ws. length ws ≤ 2048) (sym made) (module_is 0 unit is).few

    module _ (list : WireList) (list_is : list ≡ wires_of wide wires) where
      pub list_made : list ≡ wires_of (is_wide unit) (wires_from 0 unit.ops)
      list_made = list_is ∙ (λ i. wires_of (wide_is i) (made i))

      pub output_allowed : (place : ℕ) (expr : Expr) → expr ≡ output_at unit.outputs place → IsExpr (known_by list) expr 32
      output_allowed place expr same =
          subst (λ ws. IsExpr (known_by ws) expr 32) (sym list_made)
          (subst (λ e. IsExpr (known_by (wires_of (is_wide unit) (wires_from 0 unit.ops))) e 32) (sym same) (output_is_allowed unit is place))

      pub third_is_nothing : (x : Expr) → x ≡ output_at unit.outputs 2 → list.wide ≡ false → x ≡ nothing
      third_is_nothing x same narrow = same ∙ nothing_behind unit (sym (ap (λ l. l.wide) list_made) ∙ narrow)

-- ---- the order of modules

in_order : (m : ℕ) (units : List Unit) (k : ℕ)
    → slice_get (modules_from m units) k ≡ option_map (module_of (m + k)) (slice_get units k)
in_order m [] k = refl
in_order m (first ∷ units) zero = ap (λ n. Some (module_of n first)) (let e : m ≡ m + 0 = omega arith in e)
in_order m (first ∷ units) (suc k) =
    in_order (suc m) units k
    ∙ ap (λ n. option_map (module_of n) (slice_get units k)) (let e : suc m + k ≡ m + suc k = omega arith in e)

pub modules_are_in_order : ModulesAreInOrder
modules_are_in_order units k =
    in_order 0 units k ∙ ap (λ n. option_map (module_of n) (slice_get units k)) (let e : 0 + k ≡ k = omega arith in e)
