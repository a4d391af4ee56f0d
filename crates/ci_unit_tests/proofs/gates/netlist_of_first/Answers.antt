use Rattle.std.proofs.Common.{refl, subst, arith}
use Rattle.ci_gates.specs.Counts.{IsCountOf}
use Rattle.ci_gates.proofs.UnitLaws.{module_at}
use Rattle.ci_unit_tests.proofs.gates.netlist_of_first.Goals as goal

pub netlist-requires-clause-few : goal.netlist-requires-clause-few
netlist-requires-clause-few g c = λ unit there. (
  c.count-gates.result,
  subst (λ m. IsCountOf m c.count-gates.result)
      (module_at c.args.units.now 0 unit there c.in_ok-modules.modules.items 0 c.index.result.now c.in_ok-modules.ensures refl c.index.ensures)
      c.count-gates.ensures.value,
  omega arith,
)
