-- For the impls of `PartialEq`, `Eq` and `Hash` alone: equal operations, and equal units, are one.
use Rattle.std.proofs.Common.{◌≡◌, true, ap, sym, ◌∙◌, true≢false}
use Rattle.std.specs.Bool.{Decides}
use Rattle.std.specs.Cmp.{unsigned_Decides, IsEquivalence, decided}
use Rattle.std.specs.Cmp.Lexicographic.{pointwise_decides}
use Rattle.std.proofs.lemmas.Bool.{and_parts, and_from}
use denote.Enum.Bare.{same_true}
use Rattle.ci_word.specs.contracts.arithmetic.Op as ops
use Rattle.ci_word.specs.contracts.arithmetic.Class as classes
use Rattle.ci_unit.specs.declared.operations.Arg.{Arg}
use Rattle.ci_unit.specs.declared.operations.Arg.TheVariants.{Input, Earlier, Constant}
use Rattle.ci_unit.specs.declared.operations.UnitOp.{UnitOp}
use Rattle.ci_unit.specs.contracts.operations.UnitOpPartialEq.TheImpl as op
use Rattle.ci_unit.specs.contracts.operations.UnitOpEq.TheImpl.Laws.{laws-law}
use Rattle.ci_unit.specs.contracts.operations.ArgPartialEq.TheImpl as arg
use Rattle.ci_unit.specs.Units.{Unit}
use Rattle.ci_unit.specs.Equality.{same_unit}

pub same_arg : (x y : Arg) → arg.ghosts.eq x y ≡ true → x ≡ y
same_arg (Input i) (Input j) e = ap Input ((unsigned_Decides i j).0 e)
same_arg (Input i) (Earlier j) e = absurd (true≢false (sym e))
same_arg (Input i) (Constant j) e = absurd (true≢false (sym e))
same_arg (Earlier i) (Input j) e = absurd (true≢false (sym e))
same_arg (Earlier i) (Earlier j) e = ap Earlier ((unsigned_Decides i j).0 e)
same_arg (Earlier i) (Constant j) e = absurd (true≢false (sym e))
same_arg (Constant i) (Input j) e = absurd (true≢false (sym e))
same_arg (Constant i) (Earlier j) e = absurd (true≢false (sym e))
same_arg (Constant i) (Constant j) e = ap Constant ((unsigned_Decides i j).0 e)

pub same_op : (x y : UnitOp) → op.ghosts.eq x y ≡ true → x ≡ y
same_op x y e =
    let parts = and_parts _ _ e in
    let later = and_parts _ _ parts.1 in
    let args = and_parts _ _ later.1 in
    let class : x.class ≡ y.class = same_true classes.the_type tt x.class y.class parts.0 in
    let op_is : x.op ≡ y.op = same_true ops.the_type tt x.op y.op later.0 in
    let left : x.left ≡ y.left = same_arg x.left y.left args.0 in
    let right : x.right ≡ y.right = same_arg x.right y.right args.1 in
    λ i. record { class = class i; op = op_is i; left = left i; right = right i }

op_decides : (x y : UnitOp) → Decides (op.ghosts.eq x y) (x ≡ y)
op_decides x y = (same_op x y, λ same. ap (op.ghosts.eq x) (sym same) ∙ laws-law.refl x)

pub same_unit_decides : (x y : Unit) → Decides (same_unit x y) (x ≡ y)
same_unit_decides x y =
    let ops = pointwise_decides op_decides x.ops y.ops in
    let outputs = pointwise_decides unsigned_Decides x.outputs y.outputs in
    let cycles = unsigned_Decides x.cycles y.cycles in (
      λ e.
          let parts = and_parts _ _ e in
          let later = and_parts _ _ parts.1 in
          λ i. record { ops = ops.0 parts.0 i; outputs = outputs.0 later.0 i; cycles = cycles.0 later.1 i },
      λ same.
          and_from _ _ (ops.1 (ap (λ u. u.ops) same))
          (and_from _ _ (outputs.1 (ap (λ u. u.outputs) same)) (cycles.1 (ap (λ u. u.cycles) same))),
    )

pub units_equivalent : IsEquivalence same_unit
units_equivalent = decided same_unit same_unit_decides
