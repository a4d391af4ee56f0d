use Rattle.std.proofs.Common.{arith}
use Rattle.ci_region.proofs.CellLaws.{live_cell}
use Rattle.ci_region.proofs.Region.get.Goals as goal

pub cell-requires : goal.cell-requires
cell-requires g c =
    let cell = live_cell _ _ _ _ _ c.self.view_is c.number.ensures c.requires in omega (arith, cell.within)

pub unreachable-requires : goal.unreachable-requires
unreachable-requires g c =
    let cell = live_cell _ _ _ _ _ c.self.view_is c.number.ensures c.requires in
    grind (arith, cell.live, c.cell.ensures, c.in-Free.is)

pub returns : goal.returns
returns g c =
    let cell = live_cell _ _ _ _ _ c.self.view_is c.number.ensures c.requires in
    grind (arith, cell.read, c.cell.ensures, c.in-Live.is)
