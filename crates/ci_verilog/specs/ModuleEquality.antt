-- For the impls of `PartialEq` and `Eq` alone: equal modules are one.
use Rattle.std.proofs.Common.{◌≡◌, Bool, ap}
use Rattle.std.specs.Prelude.{◌&&◌, nat_eq}
use Rattle.std.specs.Bool.{Decides}
use Rattle.std.specs.Cmp.{unsigned_Decides, IsEquivalence, decided}
use Rattle.std.proofs.lemmas.Bool.{and_parts, and_from}
use Rattle.ci_verilog.specs.contracts.expressions.ExprPartialEq.TheImpl as expr
use Rattle.ci_verilog.specs.Modules.{Module}
use Rattle.ci_verilog.specs.WireEquality.{same_lists_of, same_lists_decides, expr_decides}

abbrev pub same_module : Module → Module → Bool
same_module m other =
    nat_eq m.number other.number
    && (nat_eq m.cycles other.cycles
    && (same_lists_of m.wires other.wires
    && (expr.ghosts.eq m.y other.y && (expr.ghosts.eq m.z other.z && expr.ghosts.eq m.x other.x))))

pub same_module_decides : (x y : Module) → Decides (same_module x y) (x ≡ y)
same_module_decides x y =
    let number = unsigned_Decides x.number y.number in
    let cycles = unsigned_Decides x.cycles y.cycles in
    let wires = same_lists_decides x.wires y.wires in
    let first = expr_decides x.y y.y in
    let second = expr_decides x.z y.z in
    let third = expr_decides x.x y.x in (
      λ e.
          let parts = and_parts _ _ e in
          let later = and_parts _ _ parts.1 in
          let rest = and_parts _ _ later.1 in
          let last = and_parts _ _ rest.1 in
          let end = and_parts _ _ last.1 in
          λ i. record {
            number = number.0 parts.0 i;
            cycles = cycles.0 later.0 i;
            wires = wires.0 rest.0 i;
            y = first.0 last.0 i;
            z = second.0 end.0 i;
            x = third.0 end.1 i;
          },
      λ same.
          and_from _ _ (number.1 (ap (λ m. m.number) same))
          (and_from _ _ (cycles.1 (ap (λ m. m.cycles) same))
          (and_from _ _ (wires.1 (ap (λ m. m.wires) same))
          (and_from _ _ (first.1 (ap (λ m. m.y) same))
          (and_from _ _ (second.1 (ap (λ m. m.z) same)) (third.1 (ap (λ m. m.x) same)))))),
    )

pub modules_equivalent : IsEquivalence same_module
modules_equivalent = decided same_module same_module_decides
