use Rattle.ci_area.proofs.searching.+search.Given as goal

abbrev pub decreases-search : goal.decreases-search
decreases-search l = l.decided.now.left
