use Rattle.ci_select.proofs.UnitSavings.{each_unit_saves, saved_by_is_one, units_save_all}
use Rattle.ci_select.proofs.laws.units_save_all.Goals as goal

-- src/laws.rt
pub returns-clause-all : goal.returns-clause-all
returns-clause-all c = units_save_all

pub returns-clause-each : goal.returns-clause-each
returns-clause-each c = each_unit_saves

pub returns-clause-one : goal.returns-clause-one
returns-clause-one c = saved_by_is_one
