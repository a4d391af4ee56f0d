use Rattle.std.proofs.Common.{◌≡◌, ◌-◌, ◌^◌}
use Rattle.ci_reading.specs.Fields.{reaches_from}
use Rattle.ci_reading.proofs.fields.Numbers.reaches.Given as goal

abbrev pub invariant-loop : goal.invariant-loop
invariant-loop l =
    (l.scale ≡ 10 ^ l.counter) × (reaches_from l.self l.value l.scale (7 - l.counter) ≡ reaches_from l.self l.value 1 7)
