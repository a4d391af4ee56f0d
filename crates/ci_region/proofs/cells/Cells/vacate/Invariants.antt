use Rattle.std.proofs.Common.{◌≡◌, ◌≤◌, length}
use Rattle.ci_region.specs.CellChanges.{with_only}
use Rattle.ci_region.proofs.cells.Cells.vacate.Given as goal

abbrev pub decreases-loop-left : goal.decreases-loop-left
decreases-loop-left g l = l.left

abbrev pub invariant-loop-left : goal.invariant-loop-left
invariant-loop-left g l =
    (l.left ≤ length l.initial.self.cells) × (l.self ≡ with_only l.initial.self l.left)
