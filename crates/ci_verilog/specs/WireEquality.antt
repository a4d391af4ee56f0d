-- For the impls of `PartialEq` and `Eq` alone: equal expressions and wires are one.
use Rattle.std.proofs.Common.{◌≡◌, List, Bool, true, ap, sym, ◌∙◌, true≢false}
use Rattle.std.specs.Bool.{Decides, beq}
use Rattle.std.specs.Cmp.{unsigned_Decides, booleans_Decides, IsEquivalence, decided}
use Rattle.std.specs.Cmp.Lexicographic.{pointwise, pointwise_decides}
use Rattle.std.proofs.lemmas.Bool.{and_parts, and_from}
use denote.Enum.Bare.{same_true}
use Rattle.ci_verilog.specs.contracts.expressions.Operator as operators
use Rattle.ci_verilog.specs.contracts.expressions.TermPartialEq.TheImpl as term
use Rattle.ci_verilog.specs.contracts.expressions.ExprPartialEq.TheImpl as expr
use Rattle.ci_verilog.specs.contracts.expressions.ExprEq.TheImpl.Laws as expr_laws
use Rattle.ci_verilog.specs.contracts.expressions.WirePartialEq.TheImpl as wire
use Rattle.ci_verilog.specs.contracts.expressions.WireEq.TheImpl.Laws as wire_laws
use Rattle.ci_verilog.specs.declared.expressions.Term.{Term}
use Rattle.ci_verilog.specs.declared.expressions.Term.TheVariants as terms
use Rattle.ci_verilog.specs.declared.expressions.Expr.{Expr}
use Rattle.ci_verilog.specs.declared.expressions.Expr.TheVariants.{One, Two, Choose}
use Rattle.ci_verilog.specs.declared.expressions.Wire.{Wire}
use Rattle.ci_verilog.specs.Modules.{WireList}
use Rattle.std.specs.Prelude.{◌&&◌}
use Rattle.ci_verilog.specs.NameEquality.{same_name_decides}
use Rattle.ci_verilog.specs.ItemEquality.{same_simple, same_items_decides}

abbrev pub same_wires : List Wire → List Wire → Bool
same_wires = pointwise wire.ghosts.eq

same_term : (x y : Term) → term.ghosts.eq x y ≡ true → x ≡ y
same_term (terms.Plain s) (terms.Plain t) e = ap terms.Plain (same_simple s t e)
same_term (terms.Plain s) (terms.Repeat n t) e = absurd (true≢false (sym e))
same_term (terms.Plain s) (terms.Join t) e = absurd (true≢false (sym e))
same_term (terms.Repeat n s) (terms.Plain t) e = absurd (true≢false (sym e))
same_term (terms.Repeat n s) (terms.Repeat m t) e =
    let parts = and_parts _ _ e in
    let count = (unsigned_Decides n m).0 parts.0 in
    let part = same_simple s t parts.1 in
    λ k. terms.Repeat (count k) (part k)
same_term (terms.Repeat n s) (terms.Join t) e = absurd (true≢false (sym e))
same_term (terms.Join s) (terms.Plain t) e = absurd (true≢false (sym e))
same_term (terms.Join s) (terms.Repeat n t) e = absurd (true≢false (sym e))
same_term (terms.Join s) (terms.Join t) e = ap terms.Join ((same_items_decides s t).0 e)

same_expr : (x y : Expr) → expr.ghosts.eq x y ≡ true → x ≡ y
same_expr (One s) (One t) e = ap One (same_term s t e)
same_expr (One s) (Two o t u) e = absurd (true≢false (sym e))
same_expr (One s) (Choose t u v) e = absurd (true≢false (sym e))
same_expr (Two o s t) (One u) e = absurd (true≢false (sym e))
same_expr (Two o s t) (Two p u v) e =
    let parts = and_parts _ _ e in
    let later = and_parts _ _ parts.1 in
    let operator = same_true operators.the_type tt o p parts.0 in
    let left = same_term s u later.0 in
    let right = same_term t v later.1 in
    λ k. Two (operator k) (left k) (right k)
same_expr (Two o s t) (Choose u v w) e = absurd (true≢false (sym e))
same_expr (Choose s t u) (One v) e = absurd (true≢false (sym e))
same_expr (Choose s t u) (Two o v w) e = absurd (true≢false (sym e))
same_expr (Choose s t u) (Choose v w x) e =
    let parts = and_parts _ _ e in
    let later = and_parts _ _ parts.1 in
    let condition = same_term s v parts.0 in
    let first = same_term t w later.0 in
    let second = same_term u x later.1 in
    λ k. Choose (condition k) (first k) (second k)

pub expr_decides : (x y : Expr) → Decides (expr.ghosts.eq x y) (x ≡ y)
expr_decides x y = (same_expr x y, λ same. ap (expr.ghosts.eq x) (sym same) ∙ expr_laws.laws-law.refl x)

same_wire : (x y : Wire) → wire.ghosts.eq x y ≡ true → x ≡ y
same_wire x y e =
    let parts = and_parts _ _ e in
    let later = and_parts _ _ parts.1 in
    let name = (same_name_decides x.name y.name).0 parts.0 in
    let width = (unsigned_Decides x.width y.width).0 later.0 in
    let value = same_expr x.value y.value later.1 in
    λ k. record { name = name k; width = width k; value = value k }

wire_decides : (x y : Wire) → Decides (wire.ghosts.eq x y) (x ≡ y)
wire_decides x y = (same_wire x y, λ same. ap (wire.ghosts.eq x) (sym same) ∙ wire_laws.laws-law.refl x)

pub same_wires_decides : (x y : List Wire) → Decides (same_wires x y) (x ≡ y)
same_wires_decides = pointwise_decides wire_decides

-- wires of a wide module, or of a narrow one
abbrev pub same_lists_of : WireList → WireList → Bool
same_lists_of x y = beq x.wide y.wide && same_wires x.list y.list

pub same_lists_decides : (x y : WireList) → Decides (same_lists_of x y) (x ≡ y)
same_lists_decides x y = (
  λ e.
      let parts = and_parts _ _ e in
      let wide = (booleans_Decides x.wide y.wide).0 parts.0 in
      let list = (same_wires_decides x.list y.list).0 parts.1 in
      λ k. record { wide = wide k; list = list k },
  λ same.
      and_from _ _ ((booleans_Decides x.wide y.wide).1 (ap (λ w. w.wide) same))
      ((same_wires_decides x.list y.list).1 (ap (λ w. w.list) same)),
)

pub lists_equivalent : IsEquivalence same_lists_of
lists_equivalent = decided same_lists_of same_lists_decides
