use Rattle.ci_find.proofs.SavingLoads.{loads_save}
use Rattle.ci_find.proofs.laws.loads_save.Goals as goal

pub returns : goal.returns
returns c = loads_save
