use Rattle.std.proofs.Common.{ℕ, ◌<◌, IsTrue}
use Rattle.std.specs.FinSet as set
use Rattle.ci_tests.proofs.rewrite.row.Given as goal

abbrev pub invariant-loop-n : goal.invariant-loop-n
invariant-loop-n g l = (k : ℕ) → IsTrue (set.contains l.row k) → k < l.count
