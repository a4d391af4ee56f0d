use Rattle.std.proofs.Common.{arith}
use Rattle.ci_cut.proofs.SetLaws.{below_empty, below_insert}
use Rattle.ci_search_tests.proofs.graphs.row_below.Goals as goal

pub loop-number-init : goal.loop-number-init
loop-number-init g c = rw c.empty-row.ensures (below_empty _)

pub loop-number-preserved : goal.loop-number-preserved
loop-number-preserved g c = rw c.insert.ensures (below_insert _ _ _ c.loop-number.invariant (omega arith))
