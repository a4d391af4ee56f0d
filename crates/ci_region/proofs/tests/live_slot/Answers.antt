use Rattle.std.proofs.Common.{is_some, sym, ap, ◌∙◌}
use Rattle.ci_region.specs.private.Cells.{value_of}
use Rattle.ci_region.proofs.ValueLaws.{get-values_in}
use Rattle.ci_region.proofs.tests.live_slot.Goals as goal

pub returns-in-Live : goal.returns-in-Live
returns-in-Live g c =
    let cell = get-values_in c.region.inside.cells.cells c.args.number in
    rw c.of.ensures (rw (← c.region.view_is) (ap is_some (cell ∙ ap value_of (sym c.cell.ensures ∙ c.in-Live.is))))
