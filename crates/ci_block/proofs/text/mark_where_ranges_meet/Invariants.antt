use Rattle.ci_block.specs.private.Marks.{Adds}
use Rattle.ci_block.specs.private.Sources.{IsFromMeeting}
use Rattle.ci_block.proofs.text.mark_where_ranges_meet.Given as goal

abbrev pub invariant-loop-index : goal.invariant-loop-index
invariant-loop-index l = Adds l.initial.marks l.marks (IsFromMeeting l.ranges l.index)
