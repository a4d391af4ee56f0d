use Rattle.std.proofs.Common.{◌+◌, ◌<◌, List, length, ap, subst, arith}
use Rattle.ci_elf.specs.declared.ranges.Range.{Range}
use Rattle.ci_block.specs.private.Marking.{range_at}
use Rattle.ci_block.specs.private.Marks.{Adds}
use Rattle.ci_block.specs.private.Sources.{IsFromRanges, IsFromText, IsFromWords}
use Rattle.ci_block.proofs.MarkLaws.{added_both, added_by_all}
use Rattle.ci_block.proofs.RangeLaws.{range_there}
use Rattle.ci_block.proofs.SourceLaws.{from_range, range_or_before, text_from_ranges, ranges_from_text}
use Rattle.ci_block.proofs.text.mark_from_text.Goals as goal

pub mark_from_range-requires-clause-there : goal.mark_from_range-requires-clause-there
mark_from_range-requires-clause-there c =
    let i = c.loop-range.range-index in
    let below : i < length c.args.image.now.ranges = subst (λ rs. i < length rs) c.ranges-range-items.ensures.value c.loop-range-test.true in
    rw c.ranges-range-items.ensures.value (range_there c.args.image.now.ranges i below)

pub loop-range-preserved : goal.loop-range-preserved
loop-range-preserved c =
    let image = c.args.image.now in
    let i = c.loop-range.range-index in
    let words : Adds c.loop-range.marks c.mark_from_range.new.marks (IsFromWords image (range_at image.ranges i).start (range_at image.ranges i).words) =
    subst (λ rs. Adds c.loop-range.marks c.mark_from_range.new.marks (IsFromWords image (range_at rs i).start (range_at rs i).words))
    c.ranges-range-items.ensures.value c.mark_from_range.ensures in
    added_both c.args.marks.now c.loop-range.marks c.mark_from_range.new.marks (IsFromRanges image i)
    (IsFromWords image (range_at image.ranges i).start (range_at image.ranges i).words) (IsFromRanges image (i + 1))
    c.loop-range.invariant words (from_range image i) (range_or_before image i)

pub returns : goal.returns
returns c =
    let image = c.args.image.now in
    let i = c.loop-range.range-index in
    added_by_all c.args.marks.now c.loop-range.marks (IsFromRanges image) (IsFromText image) i (length image.ranges)
    (omega (arith, ap (λ (rs : List Range). length rs) c.ranges-range-items.ensures.value)) c.loop-range.invariant
    (text_from_ranges image i) (ranges_from_text image c.requires)
