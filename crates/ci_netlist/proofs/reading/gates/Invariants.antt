use Rattle.std.proofs.Common.{◌≡◌, ◌-◌}
use Rattle.ci_reading.specs.LineReading.{with_front}
use Rattle.ci_netlist.specs.private.Reading.{gates_read}
use Rattle.ci_netlist.proofs.reading.gates.Given as goal

abbrev pub invariant-loop-made : goal.invariant-loop-made
invariant-loop-made l =
    with_front l.gates.items (gates_read l.made (l.count - l.made) l.rest) ≡ gates_read 0 l.count l.bytes
