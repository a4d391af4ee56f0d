use Rattle.ci_region.proofs.TreeLaws.{one_list}
use Rattle.ci_log.proofs.laws.a_tree_has_one_list_of_items.Goals as goal

pub returns : goal.returns
returns c slots rest other child items others tree again = one_list tree again
