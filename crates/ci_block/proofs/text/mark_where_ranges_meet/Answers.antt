use Rattle.std.proofs.Common.{◌+◌, ◌-◌, length, arith}
use Rattle.ci_block.specs.private.Marking.{range_at}
use Rattle.ci_block.specs.private.Sources.{IsFromMeeting, Meets}
use Rattle.ci_block.proofs.MarkLaws.{added_as, added_both}
use Rattle.ci_block.proofs.SourceLaws.{all_meetings, from_meeting, meeting_or_before}
use Rattle.ci_block.proofs.text.mark_where_ranges_meet.Goals as goal

pub loop-index-preserved : goal.loop-index-preserved
loop-index-preserved c =
    let ranges = c.args.ranges.now in
    let i = c.loop-index.index in
    added_both c.args.marks.now c.loop-index.marks c.mark_where_these_meet.new.marks (IsFromMeeting ranges i)
    (Meets (range_at ranges (i - 1)) (range_at ranges i)) (IsFromMeeting ranges (i + 1)) c.loop-index.invariant c.mark_where_these_meet.ensures
    (from_meeting ranges i (omega arith) (omega arith)) (meeting_or_before ranges i (omega arith) (omega arith))

pub returns : goal.returns
returns c =
    let ranges = c.args.ranges.now in
    let i = c.loop-index.index in
    added_as c.args.marks.now c.loop-index.marks (IsFromMeeting ranges i) (IsFromMeeting ranges (length ranges)) c.loop-index.invariant
    (λ a. all_meetings ranges i (length ranges) a (omega arith)) (λ a. all_meetings ranges (length ranges) i a (omega arith))
