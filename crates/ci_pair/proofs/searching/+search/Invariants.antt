use Rattle.std.proofs.Common.{◌+◌, ◌*◌}
use Rattle.ci_pair.proofs.searching.+search.Given as goal

abbrev pub decreases-search_from : goal.decreases-search_from
decreases-search_from l = 4 * l.terms.now.first.place + 1

abbrev pub decreases-search_unpruned : goal.decreases-search_unpruned
decreases-search_unpruned l = 4 * l.terms.now.first.place

abbrev pub decreases-search_first : goal.decreases-search_first
decreases-search_first l = 4 * l.node + 3

abbrev pub decreases-search_with_first : goal.decreases-search_with_first
decreases-search_with_first l = 4 * l.node + 2

abbrev pub decreases-search_second : goal.decreases-search_second
decreases-search_second l = 4 * l.node + 3

abbrev pub decreases-search_with_second : goal.decreases-search_with_second
decreases-search_with_second l = 4 * l.node + 2

abbrev pub decreases-search_out : goal.decreases-search_out
decreases-search_out l = 4 * l.node + 2
