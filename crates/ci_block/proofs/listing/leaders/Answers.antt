use Rattle.std.proofs.Common.{subst}
use Rattle.ci_elf.specs.MemoryMap.{memory_top}
use Rattle.ci_block.specs.private.Listing.{IsListedBelow}
use Rattle.ci_block.specs.private.Marking.{AreTextRanges}
use Rattle.ci_block.specs.private.Marks.{IsMarked}
use Rattle.ci_block.proofs.LeaderLaws.{are_listed}
use Rattle.ci_block.proofs.listing.leaders.Goals as goal

pub returns : goal.returns
returns c =
    let marks = c.in_ok-marks.marks in
    let marked = c.in_ok-marks.ensures in
    are_listed c.args.image.now c.args.targets.now c.args.given.now (subst AreTextRanges marked.ranges marks.text) marks marked
    c.in_ok-listed.field-0.items
    (subst (λ rs. IsListedBelow rs (IsMarked marks) memory_top c.in_ok-listed.field-0.items) marked.ranges c.in_ok-listed.ensures)
