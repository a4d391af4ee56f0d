use Rattle.std.proofs.Common.{ap, ◌∙◌, arith}
use Rattle.ci_region.specs.BoundedMap.{BoundedMap}
use Rattle.ci_region.proofs.ValueLaws.{free_where_empty}
use Rattle.ci_region.proofs.Region.drop.Goals as goal

pub free-requires : goal.free-requires
free-requires g c =
    let empty = ap (λ (m : BoundedMap g.row.T.Denot). m.values) (c.self.view_is ∙ c.clear.ensures) in
    (c.self.invariant.2, omega (arith, c.self.invariant.0.all, c.self.invariant.1), free_where_empty _ empty)
