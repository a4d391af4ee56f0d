use Rattle.std.proofs.Common.{refl, arith}
use Rattle.ci_region.proofs.CellLaws.{live_cell, region-live, AreCells-write}
use Rattle.ci_region.proofs.Region.get_mut.Goals as goal

pub cell_mut-requires : goal.cell_mut-requires
cell_mut-requires g c =
    let cell = live_cell _ _ _ _ _ c.self.view_is c.number.ensures c.requires in omega (arith, cell.within)

pub value_mut-requires : goal.value_mut-requires
value_mut-requires g c =
    let cell = live_cell _ _ _ _ _ c.self.view_is c.number.ensures c.requires in
    grind (arith, cell.live, c.cell_mut.ensures.value)

pub invariant_of-self-lent : goal.invariant_of-self-lent
invariant_of-self-lent g c w =
    let cell = live_cell _ _ _ _ _ c.self.view_is c.number.ensures c.requires in
    (AreCells-write _ _ _ _ _ cell.live cell.within c.self.invariant.0 w, c.self.invariant.1, c.self.invariant.2)

pub returns : goal.returns
returns g c =
    let cell = live_cell _ _ _ _ _ c.self.view_is c.number.ensures c.requires in (
      (
        refl {a = c.value_mut.result.ghost_name},
        λ w. region-live _ _ _ _ _ c.self.view_is (omega (arith, c.number.ensures)) w (omega (arith, cell.within)),
      ),
      record {
        writes_back = tt;
        value = grind (arith, cell.read, c.cell_mut.ensures.value, c.value_mut.ensures.value);
      },
    )
