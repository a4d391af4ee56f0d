use Rattle.std.proofs.Common.{◌≡◌, ◌*◌, ◌%◌, ◌^◌, arith}
use Rattle.std.proofs.lemmas.Int.{ints}
use Rattle.std.proofs.lemmas.Nat.{one_shl, pow_below}
use Rattle.ci_isa.proofs.fields.sign_extended.Goals as goal

pub overflow_sub-result : goal.overflow_sub-result
overflow_sub-result c =
    let place : 1 * 2 ^ c.args.width % 2 ^ 32 ≡ 2 ^ c.args.width = one_shl c.args.width 32 (omega arith) in
    let small = pow_below c.args.width 31 c.requires.narrow in
    rw place (omega (arith, ints))
