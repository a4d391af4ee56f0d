use Rattle.std.proofs.Common.{◌≡◌, ◌-◌, ◌^◌, ◌<◌}
use Rattle.ci_reading.specs.Fields.{address}
use Rattle.ci_reading.proofs.fields.address.Given as goal

abbrev pub invariant-loop : goal.invariant-loop
invariant-loop l = (l.value < 16 ^ l.counter) × (address {K = Unit {0}} (8 - l.counter) l.value l.rest ≡ address 8 0 l.bytes)
