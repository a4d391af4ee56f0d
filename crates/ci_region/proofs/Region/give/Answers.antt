use Rattle.std.proofs.Common.{arith}
use Rattle.ci_region.proofs.CellLaws.{live_cell, region-free, AreCells-vacate}
use Rattle.ci_region.proofs.Region.give.Goals as goal

pub cell_mut-cell-requires : goal.cell_mut-cell-requires
cell_mut-cell-requires g c =
    let cell = live_cell _ _ _ _ _ c.self.view_is c.number-number.ensures c.requires in omega (arith, cell.within)

pub unreachable-requires : goal.unreachable-requires
unreachable-requires g c =
    let cell = live_cell _ _ _ _ _ c.self.view_is c.number-number.ensures c.requires in
    grind (arith, cell.live, c.cell_mut-cell.ensures.value, c.replace.ensures.value, c.in-Free.is)

pub invariant_of-self : goal.invariant_of-self
invariant_of-self g c =
    let cell = live_cell _ _ _ _ _ c.self.view_is c.number-number.ensures c.requires in
    rw c.replace.ensures.after
    (AreCells-vacate _ _ _ _ _ cell.live cell.within c.self.invariant.0, c.self.invariant.1, c.self.invariant.2)

pub returns-clause-value : goal.returns-clause-value
returns-clause-value g c =
    let cell = live_cell _ _ _ _ _ c.self.view_is c.number-number.ensures c.requires in
    grind (arith, cell.read, c.cell_mut-cell.ensures.value, c.replace.ensures.value, c.in-Live.is)

pub returns-clause-rest : goal.returns-clause-rest
returns-clause-rest g c =
    let cell = live_cell _ _ _ _ _ c.self.view_is c.number-number.ensures c.requires in
    rw c.replace.ensures.after
    (region-free _ _ _ _ _ c.self.view_is (omega (arith, c.number-number.ensures)) _ (omega (arith, cell.within)))
