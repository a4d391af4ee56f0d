use Rattle.std.proofs.Common.{arith}
use Rattle.ci_reading.proofs.NumberReading.{reaches_below}
use Rattle.ci_reading.proofs.fields.number.Goals as goal

pub extends-requires-clause-value : goal.extends-requires-clause-value
extends-requires-clause-value c = omega (arith, reaches_below c.args.numbers c.loop-value.value c.loop-value.invariant.0, c.requires)

pub overflow_mul-value : goal.overflow_mul-value
overflow_mul-value c = omega (arith, reaches_below c.args.numbers c.loop-value.value c.loop-value.invariant.0, c.requires)

pub overflow_add-value : goal.overflow_add-value
overflow_add-value c = omega (arith, reaches_below c.args.numbers c.loop-value.value c.loop-value.invariant.0, c.requires, c.from.ensures, c.type_inv.rest 0)
