use Rattle.std.proofs.Common.{rules}
use Rattle.ci_unit_tests.proofs.unit.words_of_use.Goals as goal

pub encode_use-words-requires-clause-fits : goal.encode_use-words-requires-clause-fits
encode_use-words-requires-clause-fits g c = let fits = c.fits.ensures.0 (search rules) in (_, fits)
