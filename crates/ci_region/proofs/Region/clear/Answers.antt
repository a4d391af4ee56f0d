use Rattle.std.proofs.Common.{sym, ap, ◌∙◌, arith}
use Rattle.ci_region.specs.BoundedMap.{BoundedMap}
use Rattle.ci_region.specs.declared.cells.Cells.{Cells}
use Rattle.ci_region.proofs.CellLaws.{AreCells-none, no_values}
use Rattle.ci_region.proofs.Region.clear.Goals as goal

pub vacate-requires : goal.vacate-requires
vacate-requires g c = c.self.invariant.0.all

pub invariant_of-self : goal.invariant_of-self
invariant_of-self g c =
    let after = c.vacate.ensures in
    let room = ap (λ (b : Cells g.row.T.Denot). b.left) after in
    let start = ap (λ (b : Cells g.row.T.Denot). b.start) after in
    let lease = c.self.invariant.2 in (
      AreCells-none _ (ap (λ (b : Cells g.row.T.Denot). b.cells) after),
      omega (arith, room, c.self.invariant.0.all, c.self.invariant.1),
      (lease.0 ∙ sym start, lease.1, lease.2),
    )

pub returns : goal.returns
returns g c =
    let same = ap (λ (m : BoundedMap g.row.T.Denot). m.capacity) c.self.view_is in
    let none = ap (λ (b : Cells g.row.T.Denot). b.cells) c.vacate.ensures in
    λ i. record { values = no_values _ none i; capacity = same i }
