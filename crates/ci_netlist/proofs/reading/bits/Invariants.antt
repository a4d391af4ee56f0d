use Rattle.std.proofs.Common.{◌≡◌, ◌-◌}
use Rattle.ci_reading.specs.LineReading.{with_front}
use Rattle.ci_netlist.specs.private.Reading.{bits_read}
use Rattle.ci_netlist.proofs.reading.bits.Given as goal

abbrev pub invariant-loop-k : goal.invariant-loop-k
invariant-loop-k l = with_front l.bits.items (bits_read l.made (32 - l.k) l.rest) ≡ bits_read l.made 32 l.bytes
