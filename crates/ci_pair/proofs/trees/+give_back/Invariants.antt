use Rattle.ci_region.specs.BoundedMap.{used}
use Rattle.ci_pair.proofs.trees.+give_back.Given as goal

abbrev pub decreases-give_back : goal.decreases-give_back
decreases-give_back l = used l.region.now
