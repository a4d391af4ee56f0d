use Rattle.std.proofs.Common.{◌≡◌, ◌+◌, ◌*◌, ◌≤◌, length}
use Rattle.ci_log.specs.private.PackedReading.{packed_trees, opening}
use Rattle.ci_log.proofs.TreeReading.{behind_items}
use Rattle.ci_log.proofs.PackedSteps.{IsPlace}
use Rattle.ci_log.proofs.packed.packed_tree.Given as goal

abbrev pub invariant-loop-place : goal.invariant-loop-place
invariant-loop-place l =
    (behind_items l.items.items (packed_trees l.rest l.place) ≡ packed_trees l.bytes opening) × IsPlace l.place
    × (l.place.due + 4 * length l.rest ≤ 1 + 4 * length l.bytes)

abbrev pub decreases-loop-place : goal.decreases-loop-place
decreases-loop-place l = length l.rest
