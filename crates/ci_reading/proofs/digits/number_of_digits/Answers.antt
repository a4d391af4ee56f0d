-- One digit more.
use Rattle.std.proofs.Common.{◌≡◌, ◌∙◌, ap, arith, subst, take, take_all}
use Rattle.std.specs.Str.Parse.{AllDigits, digits_value}
use Rattle.std.proofs.lemmas.Int.Digits.{digits_value_more, digits_more}
use Rattle.ci_reading.proofs.DigitLaws.{digit_at, digits_below, digit_fits}
use Rattle.ci_reading.proofs.digits.number_of_digits.Goals as goal

pub returns-then-digit-base-clause-number : goal.returns-then-digit-base-clause-number
returns-then-digit-base-clause-number c is =
    let small = digit_at c.args.base c.args.text.now c.loop-byte.byte-index is.0.1 c.loop-byte-test.true in
    omega (arith, small, c.digit_value-digit.ensures.value)

pub overflow_mul-number : goal.overflow_mul-number
overflow_mul-number c =
    omega (
      arith,
      digit_fits c.args.base c.args.most c.loop-byte.number c.digit_value-digit.result c.args.text.now c.loop-byte.byte-index (omega arith)
          c.loop-byte.invariant.few c.loop-byte-test.true c.loop-byte.invariant.digits c.loop-byte.invariant.value c.digit_value-digit.ensures.value
          c.if-digit-base.false,
    )

pub overflow_add-number : goal.overflow_add-number
overflow_add-number c =
    omega (
      arith,
      digit_fits c.args.base c.args.most c.loop-byte.number c.digit_value-digit.result c.args.text.now c.loop-byte.byte-index (omega arith)
          c.loop-byte.invariant.few c.loop-byte-test.true c.loop-byte.invariant.digits c.loop-byte.invariant.value c.digit_value-digit.ensures.value
          c.if-digit-base.false,
    )

pub loop-byte-preserved : goal.loop-byte-preserved
loop-byte-preserved c =
    let base = c.args.base in
    let text = c.args.text.now in
    let i = c.loop-byte.byte-index in
    record {
      digits = digits_more base text i c.loop-byte-test.true c.loop-byte.invariant.digits
          (omega (arith, c.digit_value-digit.ensures.value));
      value = rw (digits_value_more base text i c.loop-byte-test.true) cc;
      some = c.loop-byte.invariant.some;
      few = c.loop-byte.invariant.few;
    }

pub returns-clause-below : goal.returns-clause-below
returns-clause-below c =
    let base = c.args.base in
    let text = c.args.text.now in
    let all : take c.loop-byte.byte-index text ≡ text = take_all c.loop-byte.byte-index text c.loop-byte-test.false in
    let digits : AllDigits base text = subst (AllDigits base) all c.loop-byte.invariant.digits in
    let value : c.loop-byte.number ≡ digits_value base text = c.loop-byte.invariant.value ∙ ap (digits_value base) all in
    omega (arith, value, digits_below base c.args.most text (omega arith) c.loop-byte.invariant.few digits)
