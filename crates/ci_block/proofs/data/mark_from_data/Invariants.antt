use Rattle.ci_block.specs.private.Loading.{IsFromSegments}
use Rattle.ci_block.specs.private.Marks.{Adds}
use Rattle.ci_block.proofs.data.mark_from_data.Given as goal

abbrev pub invariant-loop-segment : goal.invariant-loop-segment
invariant-loop-segment l = Adds l.initial.marks l.marks (IsFromSegments l.image l.segment-index)
