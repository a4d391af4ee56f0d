use Rattle.ci_rewrite.proofs.ModuleUnits.{modules_serve, modules_compute}
use Rattle.ci_rewrite.proofs.laws.modules_are_units.Goals as goal

pub returns-clause-serve : goal.returns-clause-serve
returns-clause-serve c = modules_serve

pub returns-clause-compute : goal.returns-clause-compute
returns-clause-compute c = modules_compute
