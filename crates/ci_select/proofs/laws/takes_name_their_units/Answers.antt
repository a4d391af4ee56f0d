use Rattle.ci_select.proofs.TakenUnits.{takes_name_their_units}
use Rattle.ci_select.proofs.laws.takes_name_their_units.Goals as goal

pub returns : goal.returns
returns c = takes_name_their_units
