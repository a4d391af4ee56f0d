use Rattle.std.proofs.Common.{ℕ, ◌<◌}
use Rattle.std.specs.FinSet as set
use Rattle.ci_area.specs.AreaPrefixes.{Prefix}
use Rattle.ci_area.specs.AreaRules.{GainsTooLittle}
use Rattle.ci_area.specs.Pieces.{area_at, gain_at}
use Rattle.ci_area.specs.Representation.{Represents}
use Rattle.ci_area.proofs.leaves.pruning_item.Given as goal

abbrev pub invariant-loop-k : goal.invariant-loop-k
invariant-loop-k l =
    (prefix : Prefix) → Represents l.pieces prefix l.decided → (j : ℕ) → j < l.k
    → ¬ GainsTooLittle l.pieces l.limit (set.contains l.best.set) prefix (gain_at l.pieces j) (area_at l.pieces j)
