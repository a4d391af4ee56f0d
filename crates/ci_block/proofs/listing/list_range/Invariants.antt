use Rattle.ci_block.specs.private.Marks.{IsMarked}
use Rattle.ci_block.proofs.ListingLaws.{IsListedTo}
use Rattle.ci_block.proofs.listing.list_range.Given as goal

abbrev pub invariant-loop-word : goal.invariant-loop-word
invariant-loop-word l = IsListedTo l.marks.places (IsMarked l.marks) l.range.start l.word l.last l.addresses.items
