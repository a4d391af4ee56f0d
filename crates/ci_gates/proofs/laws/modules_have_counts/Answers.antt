use Rattle.ci_gates.proofs.ModuleLaws.{count_exists, count_is_one}
use Rattle.ci_gates.proofs.laws.modules_have_counts.Goals as goal

pub returns-clause-some : goal.returns-clause-some
returns-clause-some c = count_exists

pub returns-clause-one : goal.returns-clause-one
returns-clause-one c m is n k left right = count_is_one m is n k left right
