use Rattle.std.proofs.Common.{arith}
use Rattle.std.specs.FinSet as set
use Rattle.std.proofs.lemmas.List.{get_or_default}
use Rattle.ci_cut.proofs.FilledRows.{added_here}
use Rattle.ci_cut.proofs.graph_rows.add_at.Goals as goal

pub returns : goal.returns
returns c =
    added_here c.args.rows.now c.args.place _ _ c.args.number (omega (arith, c.told-rows, c.ranges.place.fits))
    (get_or_default c.args.rows.now c.args.place set.empty c.index-rows-place.result (omega (arith, c.told-rows, c.ranges.place.fits)))
    c.insert.ensures
