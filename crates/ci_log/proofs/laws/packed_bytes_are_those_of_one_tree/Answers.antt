use Rattle.ci_log.proofs.PackedReading.{one_tree}
use Rattle.ci_log.proofs.laws.packed_bytes_are_those_of_one_tree.Goals as goal

pub returns : goal.returns
returns c = one_tree
