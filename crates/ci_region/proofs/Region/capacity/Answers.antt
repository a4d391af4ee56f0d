use Rattle.std.proofs.Common.{arith}
use Rattle.ci_region.proofs.ValueLaws.{live_within}
use Rattle.ci_region.proofs.Region.capacity.Goals as goal

pub returns-clause-bounds_slots : goal.returns-clause-bounds_slots
returns-clause-bounds_slots g c slot live =
    let held = rw (← c.self.view_is) at live in
    omega (arith, live_within c.self.inside.cells.cells slot held, c.self.invariant.0.all, c.self.invariant.1)
