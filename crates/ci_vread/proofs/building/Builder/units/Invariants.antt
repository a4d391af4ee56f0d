use Rattle.std.proofs.Common.{◌-◌}
use Rattle.ci_vread.specs.private.Building.{left, begins_module, module_of, many}
use Rattle.ci_vread.proofs.ManyTokens.{IsReadUpTo}
use Rattle.ci_vread.proofs.building.Builder.units.Given as goal

abbrev pub invariant-loop-number : goal.invariant-loop-number
invariant-loop-number l =
    IsReadUpTo begins_module module_of (32 - l.number) l.number l.units.items (left l.self)
    (many begins_module module_of 32 0 (left l.fn.self))
