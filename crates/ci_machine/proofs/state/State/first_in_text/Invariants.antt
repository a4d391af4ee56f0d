use Rattle.std.proofs.Common.{◌≡◌, ◌+◌, ◌-◌, find}
use Rattle.ci_machine.specs.Accesses.{addresses}
use Rattle.ci_machine.specs.Programs.{in_text}
use Rattle.ci_machine.specs.States.{program_of}
use Rattle.ci_machine.proofs.state.State.first_in_text.Given as goal

abbrev pub invariant-loop-i : goal.invariant-loop-i
invariant-loop-i l =
    find (in_text (program_of l.self)) (addresses l.count l.address)
    ≡ find (in_text (program_of l.self)) (addresses (l.count - l.i) (l.address + l.i))
