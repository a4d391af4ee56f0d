use Rattle.std.proofs.Common.{◌≡◌, true, length}
use Rattle.ci_reading.specs.Fields.{reaches, digits_on, number}
use Rattle.ci_reading.proofs.fields.number.Given as goal

abbrev pub invariant-loop-value : goal.invariant-loop-value
invariant-loop-value l =
    (reaches l.numbers l.value ≡ true) × (digits_on {K = Unit {0}} l.numbers l.value l.rest ≡ number l.numbers l.bytes)

abbrev pub decreases-loop-value : goal.decreases-loop-value
decreases-loop-value l = length l.rest
