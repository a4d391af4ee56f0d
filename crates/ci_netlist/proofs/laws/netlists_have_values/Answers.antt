use Rattle.ci_netlist.proofs.ValueLaws.{value_exists, value_is_one}
use Rattle.ci_netlist.proofs.laws.netlists_have_values.Goals as goal

pub returns-clause-some : goal.returns-clause-some
returns-clause-some c = value_exists

pub returns-clause-one : goal.returns-clause-one
returns-clause-one c = value_is_one
