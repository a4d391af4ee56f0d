use Rattle.ci_block.specs.private.Marks.{IsMarked}
use Rattle.ci_block.proofs.ListingLaws.{AreListedBefore}
use Rattle.ci_block.proofs.listing.listed.Given as goal

abbrev pub invariant-loop-index : goal.invariant-loop-index
invariant-loop-index l = AreListedBefore l.marks.places (IsMarked l.marks) l.index l.addresses.items
