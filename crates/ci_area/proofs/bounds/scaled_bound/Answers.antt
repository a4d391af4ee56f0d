use Rattle.std.proofs.Common.{◌-◌, ◌^◌, arith}
use Rattle.std.proofs.lemmas.Nat.{mul-le}
use Rattle.ci_area.proofs.bounds.scaled_bound.Goals as goal

pub overflow_add-result-2 : goal.overflow_add-result-2
overflow_add-result-2 c =
    omega (
      arith,
      c.requires.few,
      mul-le c.args.num (c.args.limit - c.args.so_far.area) (2 ^ 63 - 1) (2 ^ 32 - 1) (omega (arith, c.requires.num))
          (omega (arith, c.ranges.limit.fits)),
    )
