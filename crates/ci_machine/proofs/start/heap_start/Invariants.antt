use Rattle.std.proofs.Common.{◌≡◌, drop, map, max}
use Rattle.ci_machine.specs.Programs.{extent_of, maximum_end}
use Rattle.ci_machine.proofs.start.heap_start.Given as goal

abbrev pub invariant-loop-segment : goal.invariant-loop-segment
invariant-loop-segment l =
    max l.end (maximum_end (map extent_of (drop l.segment-index l.segments))) ≡ maximum_end (map extent_of l.segments)
