use Rattle.ci_check.proofs.need.+walk.Given as goal

abbrev pub decreases-walk : goal.decreases-walk
decreases-walk l = l.terms.now.place
