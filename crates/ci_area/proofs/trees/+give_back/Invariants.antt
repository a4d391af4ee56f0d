use Rattle.ci_region.specs.BoundedMap.{used}
use Rattle.ci_area.proofs.trees.+give_back.Given as goal

abbrev pub decreases-give_back : goal.decreases-give_back
decreases-give_back l = used l.region.now
