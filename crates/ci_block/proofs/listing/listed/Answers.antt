use Rattle.std.proofs.Common.{ap, arith, length}
use Rattle.ci_block.specs.private.Marks.{IsMarked}
use Rattle.ci_block.proofs.ListingLaws.{before_ranges, range_listed}
use Rattle.ci_block.proofs.listing.listed.Goals as goal

pub loop-index-init : goal.loop-index-init
loop-index-init c =
    let marks = c.args.marks.now in
    rw c.new-addresses.ensures.items (before_ranges marks.places marks.text (IsMarked marks))

pub loop-index-preserved : goal.loop-index-preserved
loop-index-preserved c =
    let marks = c.args.marks.now in
    range_listed marks.places marks.text (IsMarked marks) c.loop-index.index c.list_range.new.addresses.items
    (omega (arith, ap length c.ranges-index-end.ensures.value)) c.in_ok-list_range.ensures
