use Rattle.std.proofs.Common.{refl}
use Rattle.ci_vemit.proofs.UnitModules.{module_is}
use Rattle.ci_vemit.proofs.UnitValues.{modules_compute}
use Rattle.ci_vemit.proofs.BuildingLaws.{modules_are_in_order}
use Rattle.ci_vemit.proofs.laws.modules_compute_units.Goals as goal

pub returns-clause-modules : goal.returns-clause-modules
returns-clause-modules c = module_is

pub returns-clause-values : goal.returns-clause-values
returns-clause-values c = modules_compute

pub returns-clause-cycles : goal.returns-clause-cycles
returns-clause-cycles c = λ k unit. (refl, refl)

pub returns-clause-order : goal.returns-clause-order
returns-clause-order c = modules_are_in_order
