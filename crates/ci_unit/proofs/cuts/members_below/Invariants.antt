use Rattle.std.proofs.Common.{◌≡◌}
use Rattle.std.specs.FinSet as set
use Rattle.ci_word.specs.Numbers.{count_below}
use Rattle.ci_unit.proofs.cuts.members_below.Given as goal

abbrev pub invariant-loop-k : goal.invariant-loop-k
invariant-loop-k l = l.count ≡ count_below l.k (set.contains l.cut)
