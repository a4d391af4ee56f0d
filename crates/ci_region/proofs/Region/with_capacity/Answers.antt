use Rattle.std.proofs.Common.{arith}
use Rattle.ci_region.proofs.CellLaws.{AreCells-none, no_values}
use Rattle.ci_region.proofs.Region.with_capacity.Goals as goal

pub invariant_of-result : goal.invariant_of-result
invariant_of-result g c =
    let made = c.in_ok-cells.ensures in (AreCells-none _ made.0.0, omega (arith, made.0.1), made.1)

pub returns : goal.returns
returns g c = λ i. record { values = no_values _ c.in_ok-cells.ensures.0.0 i; capacity = c.args.n }
