use Rattle.ci_block.proofs.OneListing.{listing_is_one}
use Rattle.ci_block.proofs.laws.leaders_are_determined.Goals as goal

pub returns : goal.returns
returns c = listing_is_one
