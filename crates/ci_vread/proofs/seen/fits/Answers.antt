use Rattle.std.proofs.Common.{◌≤◌, ◌<◌, ◌^◌, arith}
use Rattle.std.proofs.lemmas.Bool.Decides.{nat_tests}
use Rattle.std.proofs.Math.Pow.{pow_mono}
use Rattle.ci_vread.proofs.seen.fits.Goals as goal

pub returns-then-width-ge64 : goal.returns-then-width-ge64
returns-then-width-ge64 c =
    let more : 2 ^ 64 ≤ 2 ^ c.args.width = pow_mono c.if-width-ge64.true in
    let below : c.args.value < 2 ^ c.args.width = omega arith in
    grind (arith, nat_tests)
