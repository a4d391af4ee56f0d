use Rattle.ci_find.proofs.OneLoad.{load_is_one}
use Rattle.ci_find.proofs.laws.load_is_one.Goals as goal

pub returns : goal.returns
returns c = load_is_one
