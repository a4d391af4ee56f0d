use Rattle.ci_log.proofs.PackedReading.{few_items}
use Rattle.ci_log.proofs.laws.a_packed_tree_has_few_items.Goals as goal

pub returns : goal.returns
returns c = few_items
