use Rattle.std.proofs.Common.{rules}
use Rattle.ci_unit_tests.proofs.unit.unit_of_all.Goals as goal

pub unit_of-unit-requires-clause-fits : goal.unit_of-unit-requires-clause-fits
unit_of-unit-requires-clause-fits g c = let fits = c.fits.ensures.0 (search rules) in (_, fits)
