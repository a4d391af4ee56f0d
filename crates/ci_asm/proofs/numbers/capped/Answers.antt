use Rattle.std.proofs.Common.{◌+◌, arith}
use Rattle.std.proofs.lemmas.Int.Digits.{digits_value_more}
use Rattle.ci_asm.proofs.TenDigitsFit.{more_fits, ten_fit}
use Rattle.ci_asm.proofs.numbers.capped.Goals as goal

pub overflow_mul-magnitude : goal.overflow_mul-magnitude
overflow_mul-magnitude c =
    let more = more_fits c.loop-byte.magnitude c.args.base 0 c.loop-byte.byte-index (omega arith) (omega arith) c.loop-byte.invariant.bound in
    let all = ten_fit _ (c.loop-byte.byte-index + 1) (omega arith) more in
    omega arith

pub overflow_add-magnitude : goal.overflow_add-magnitude
overflow_add-magnitude c =
    let more = more_fits c.loop-byte.magnitude c.args.base c.digit_value.result c.loop-byte.byte-index
    (omega arith) c.digit_value.ensures.bound c.loop-byte.invariant.bound in
    let all = ten_fit _ (c.loop-byte.byte-index + 1) (omega arith) more in
    omega arith

pub loop-byte-preserved : goal.loop-byte-preserved
loop-byte-preserved c = record {
  value = rw (digits_value_more c.args.base c.args.digits.now c.loop-byte.byte-index (omega arith)) cc;
  bound = more_fits _ _ _ _ (omega arith) c.digit_value.ensures.bound c.loop-byte.invariant.bound;
}
