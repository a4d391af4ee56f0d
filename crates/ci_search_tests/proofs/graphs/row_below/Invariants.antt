use Rattle.std.proofs.Common.{ℕ, ◌<◌, IsTrue}
use Rattle.std.specs.FinSet as set
use Rattle.ci_search_tests.proofs.graphs.row_below.Given as goal

abbrev pub invariant-loop-number : goal.invariant-loop-number
invariant-loop-number g l = (j : ℕ) → IsTrue (set.contains l.row j) → j < l.count
