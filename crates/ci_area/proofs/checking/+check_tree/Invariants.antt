use Rattle.ci_area.proofs.checking.+check_tree.Given as goal

abbrev pub decreases-check_tree : goal.decreases-check_tree
decreases-check_tree l = l.decided.now.left
