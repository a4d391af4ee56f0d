use Rattle.std.proofs.Common.{◌+◌, List, length, ap, subst, arith}
use Rattle.ci_elf.specs.declared.segments.Segment.{Segment}
use Rattle.ci_block.specs.private.Loading.{IsFromSegments, IsFromDataWords, first_word, end_word, segment_at}
use Rattle.ci_block.specs.private.Marks.{Adds}
use Rattle.ci_block.specs.private.Sources.{IsFromData}
use Rattle.ci_block.proofs.LoadingLaws.{from_segment, segment_or_before, data_from_segments, segments_from_data}
use Rattle.ci_block.proofs.MarkLaws.{added_both, added_by_all}
use Rattle.ci_block.proofs.data.mark_from_data.Goals as goal

pub loop-segment-preserved : goal.loop-segment-preserved
loop-segment-preserved c =
    let image = c.args.image.now in
    let i = c.loop-segment.segment-index in
    let words : Adds c.loop-segment.marks c.mark_from_segment.new.marks
    (IsFromDataWords image (first_word (segment_at image.segments i))
    (end_word (segment_at image.segments i))) =
    subst (λ ss. Adds c.loop-segment.marks c.mark_from_segment.new.marks (IsFromDataWords image (first_word (segment_at ss i)) (end_word (segment_at ss i))))
    c.segments-segment-items.ensures.value c.mark_from_segment.ensures in
    added_both c.args.marks.now c.loop-segment.marks c.mark_from_segment.new.marks (IsFromSegments image i)
    (IsFromDataWords image (first_word (segment_at image.segments i)) (end_word (segment_at image.segments i))) (IsFromSegments image (i + 1))
    c.loop-segment.invariant words (from_segment image i) (segment_or_before image i)

pub returns : goal.returns
returns c =
    let image = c.args.image.now in
    let i = c.loop-segment.segment-index in
    added_by_all c.args.marks.now c.loop-segment.marks (IsFromSegments image) (IsFromData image) i (length image.segments)
    (omega (arith, ap (λ (ss : List Segment). length ss) c.segments-segment-items.ensures.value)) c.loop-segment.invariant
    (data_from_segments image i) (segments_from_data image)
