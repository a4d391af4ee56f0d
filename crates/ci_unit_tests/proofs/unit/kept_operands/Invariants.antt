use Rattle.std.proofs.Common.{◌≡◌, ◌≤◌, length, take}
use Rattle.ci_isa.specs.Effects.{without_x0}
use Rattle.ci_unit_tests.proofs.unit.kept_operands.Given as goal

abbrev pub invariant-loop-register : goal.invariant-loop-register
invariant-loop-register l =
    (l.count ≡ length (without_x0 (take l.register-index l.register-items))) × (l.count ≤ l.register-index)
