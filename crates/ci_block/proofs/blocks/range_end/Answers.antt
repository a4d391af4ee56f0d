use Rattle.std.proofs.Common.{sym, ap, subst, arith}
use Rattle.ci_elf.specs.Executables.{HoldsAddress, IsAscending, end_of}
use Rattle.ci_block.specs.private.Marking.{AreTextRanges, range_at}
use Rattle.ci_block.proofs.RangeLaws.{text_ranges}
use Rattle.ci_block.proofs.blocks.range_end.Goals as goal

pub range_with-requires : goal.range_with-requires
range_with-requires c = subst IsAscending (sym c.ranges-ranges.ensures.value) c.ranges-ranges.ensures.well_formed.ascending

pub overflow_mul-result : goal.overflow_mul-result
overflow_mul-result c =
    let text : AreTextRanges c.ranges-ranges.result.now =
    subst AreTextRanges (sym c.ranges-ranges.ensures.value) (text_ranges c.args.image.now c.ranges-ranges.ensures.well_formed) in
    omega (arith, text.below_top c.in-Some.index)

pub overflow_add-result : goal.overflow_add-result
overflow_add-result c =
    let text : AreTextRanges c.ranges-ranges.result.now =
    subst AreTextRanges (sym c.ranges-ranges.ensures.value) (text_ranges c.args.image.now c.ranges-ranges.ensures.well_formed) in
    omega (arith, text.below_top c.in-Some.index)

pub returns : goal.returns
returns c =
    let ranges = c.args.image.now.ranges in
    record {
      text = text_ranges c.args.image.now c.ranges-ranges.ensures.well_formed;
      index = c.in-Some.index;
      holds = subst (λ rs. HoldsAddress rs c.args.address c.in-Some.index) c.ranges-ranges.ensures.value c.in-Some.ensures;
      is = ap (λ rs. end_of (range_at rs c.in-Some.index)) c.ranges-ranges.ensures.value;
    }
