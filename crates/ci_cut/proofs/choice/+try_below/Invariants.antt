use Rattle.ci_cut.proofs.choice.+try_below.Given as goal

abbrev pub decreases-try_below : goal.decreases-try_below
decreases-try_below l = l.undecided
