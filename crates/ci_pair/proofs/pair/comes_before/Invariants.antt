use Rattle.std.proofs.Common.{◌≡◌, ℕ, IsTrue}
use Rattle.std.specs.FinSet as set
use Rattle.ci_pair.specs.Pairs.{label}
use Rattle.ci_pair.specs.PairSets.{sets}
use Rattle.ci_pair.proofs.pair.comes_before.Given as goal

abbrev pub invariant-loop-place : goal.invariant-loop-place
invariant-loop-place l = (j : ℕ) → ¬ IsTrue (set.contains l.rest j) → label (sets l.first) j ≡ label (sets l.second) j

abbrev pub decreases-loop-place : goal.decreases-loop-place
decreases-loop-place l = set.len l.rest
