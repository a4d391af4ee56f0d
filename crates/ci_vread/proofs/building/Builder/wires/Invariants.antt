use Rattle.std.proofs.Common.{◌-◌}
use Rattle.ci_vread.specs.private.Building.{left, begins_wire, wire_of, wires_of}
use Rattle.ci_vread.proofs.ManyTokens.{IsReadUpTo}
use Rattle.ci_vread.proofs.building.Builder.wires.Given as goal

abbrev pub invariant-loop-number : goal.invariant-loop-number
invariant-loop-number l =
    IsReadUpTo begins_wire (λ k rest. wire_of rest) (2048 - l.number) l.number l.wires.items (left l.self)
    (wires_of (left l.fn.self))
