use Rattle.std.proofs.Common.{◌≤◌, length, sym, subst, arith}
use Rattle.ci_netlist.specs.Netlists.{AreGates}
use Rattle.ci_gates.proofs.NetlistLaws.{no_gates}
use Rattle.ci_gates.proofs.building.Builder.with_room.Goals as goal

pub invariant_of-result : goal.invariant_of-result
invariant_of-result c = subst (λ gs. AreGates gs × (length gs ≤ 4194304)) (sym c.in_ok-with_capacity.ensures.items) (no_gates, omega arith)
