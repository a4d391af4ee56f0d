use Rattle.ci_area.proofs.PieceSums.{area_fits}
use Rattle.ci_area.proofs.rates.Rates.of.Goals as goal

pub beyond_each-requires-clause-den : goal.beyond_each-requires-clause-den
beyond_each-requires-clause-den c = area_fits c.args.pieces.now c.requires c.loop-k.k c.loop-k-test.true
