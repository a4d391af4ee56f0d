use Rattle.std.proofs.Common.{◌+◌, ◌*◌}
use Rattle.ci_pair.proofs.checking.+trees.Given as goal

abbrev pub decreases-check_tree : goal.decreases-check_tree
decreases-check_tree l = 2 * l.terms.now.first.place

abbrev pub decreases-check_first : goal.decreases-check_first
decreases-check_first l = 2 * l.node + 1

abbrev pub decreases-check_second : goal.decreases-check_second
decreases-check_second l = 2 * l.node + 1
