use Rattle.std.proofs.Common.{arith, sym, ◌∙◌, ◌-◌, ◌+◌}
use Rattle.std.proofs.lemmas.Result.{err_from_is_err_and}
use Rattle.ci_reading.specs.LineReading.{stop}
use Rattle.ci_reading.proofs.AddressReading.{digit_small, next_digit, no_digit_left, digit_stopped, value_more, value_few}
use Rattle.ci_reading.proofs.fields.address.Goals as goal

pub returns-in_err-digit : goal.returns-in_err-digit
returns-in_err-digit c =
    let p = err_from_is_err_and c.from_residual.result c.from_residual.ensures.1 in
    let e = c.in_err-digit.field-0.0 in
    rw (p.1, p.2)
    (sym c.loop.invariant.1
    ∙ digit_stopped (stop e.left) (8 - (c.loop.counter + 1)) (8 - c.loop.counter) c.loop.value c.loop.rest.now
    (omega (arith, c.loop-test.true)) c.in_err-digit.ensures.value)

pub overflow_mul-value : goal.overflow_mul-value
overflow_mul-value c = omega (arith, value_few c.loop.value c.loop.counter c.loop.invariant.0 c.loop.auto.counter-end)

pub overflow_add-value : goal.overflow_add-value
overflow_add-value c =
    omega (
      arith,
      value_few c.loop.value c.loop.counter c.loop.invariant.0 c.loop.auto.counter-end,
      c.from.ensures,
      digit_small c.loop.rest.now c.in_ok-digit.digit c.in_ok-digit.after.now c.in_ok-digit.ensures.value,
    )

pub loop-preserved : goal.loop-preserved
loop-preserved c =
    let read = c.in_ok-digit.ensures.value in (
      rw c.from.ensures (value_more c.loop.value c.in_ok-digit.digit c.loop.counter c.loop.invariant.0
          (digit_small c.loop.rest.now c.in_ok-digit.digit c.in_ok-digit.after.now read)),
      rw c.from.ensures
          (sym (next_digit (8 - (c.loop.counter + 1))
          (8 - c.loop.counter) c.loop.value c.in_ok-digit.digit c.loop.rest.now c.in_ok-digit.after.now
          (omega (arith, c.loop-test.true)) read) ∙ c.loop.invariant.1),
    )

pub returns : goal.returns
returns c = sym c.loop.invariant.1 ∙ no_digit_left c.loop.value c.loop.rest.now (8 - c.loop.counter) (omega (arith, c.loop-test.false))
