use Rattle.ci_folds.proofs.cuts.is_cut.Goals as goal

pub returns : goal.returns
returns c = λ is. (_, c.fits.ensures.0 is)
