use Rattle.std.proofs.Common.{◌≡◌, ◌≤◌, length}
use Rattle.ci_reading.specs.LineReading.{with_front}
use Rattle.ci_log.specs.private.BookReading.{rounds}
use Rattle.ci_log.proofs.entries.rounds.Given as goal

abbrev pub invariant-loop-version : goal.invariant-loop-version
invariant-loop-version l =
    (with_front l.entries.items (rounds l.version l.rest) ≡ with_front l.fn.entries.items (rounds l.version l.bytes)) × (length l.rest ≤ length l.bytes)

abbrev pub decreases-loop-version : goal.decreases-loop-version
decreases-loop-version l = length l.rest
