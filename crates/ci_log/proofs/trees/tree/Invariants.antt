use Rattle.std.proofs.Common.{◌≡◌, ◌+◌, ◌≤◌, length}
use Rattle.ci_log.specs.private.Reading.{trees}
use Rattle.ci_log.proofs.TreeReading.{behind_items}
use Rattle.ci_log.proofs.trees.tree.Given as goal

abbrev pub invariant-loop-due : goal.invariant-loop-due
invariant-loop-due l =
    (behind_items l.items.items (trees l.due l.rest) ≡ trees 1 l.bytes) × (l.due + length l.rest ≤ 1 + length l.bytes)

abbrev pub decreases-loop-due : goal.decreases-loop-due
decreases-loop-due l = length l.rest
