use Rattle.ci_check.proofs.OneTree.{one_reading}
use Rattle.ci_check.proofs.laws.each_item_has_one_prefix.Goals as goal

pub returns : goal.returns
returns c = one_reading
