-- For private contracts: settings and names, as definitions take them.
use Rattle.std.specs.Prelude.{◌≤◌}
use Rattle.ci_lat.specs.Latencies.{Latencies}
use Rattle.ci_select.specs.declared.plan.Plan.{Plan}
use Rattle.ci_select.specs.Instances.{Instance, instance_of}
use Rattle.ci_arguments.specs.Words.{Reading, number_set}
use Rattle.ci_arguments.specs.declared.tables.OptionName.TheVariants as option
use Rattle.ci_calls.specs.Refused.{name_in}
use Rattle.ci_find.specs.declared.profiling.ChoiceSettings.{ChoiceSettings}
use Rattle.ci_find.specs.declared.profiling.Profiled.{Profiled as Run}
use Rattle.ci_find.specs.declared.check.CheckNames.{CheckNames as NamesOfCheck}
use Rattle.ci_find.specs.declared.find.FindOutput.{FindOutput as OutputOfFind}
use Rattle.ci_find.specs.Profiled.{Settings}
use Rattle.ci_find.specs.FindCommand.{FindOutput}
use Rattle.ci_find.specs.CheckCommand.{CheckNames}

abbrev pub settings_by : ChoiceSettings → Settings
settings_by settings = record {
  steps = settings.steps;
  named = settings.leaders.now;
  plan = settings.plan;
  table = name_in settings.table;
  input = name_in settings.input;
}

abbrev pub output_of : OutputOfFind → FindOutput
output_of output = record {
  new = output.new.now;
  units = output.units.now;
  logs = output.logs.now;
  report = output.report.now;
  version = output.version;
}

abbrev pub check_names_of : NamesOfCheck → CheckNames
check_names_of names = record { new = names.new.now; units = names.units.now; logs = names.logs.now }

-- what a run is chosen from
abbrev pub instance_from : Latencies → Run → Plan → Instance
instance_from latencies run plan = instance_of run.profile run.analysis.blocks run.analysis.live latencies plan

-- the numbers of a reading of `find`, `check` or `area` are in the ranges of the options
pub record KeepsChoiceRanges (reading : Reading) : Type 0 where
  pub steps : number_set reading option.Steps ≤ 4294967296
  pub inputs : (1 ≤ number_set reading option.Inputs) × (number_set reading option.Inputs ≤ 5)
  pub outputs : (1 ≤ number_set reading option.Outputs) × (number_set reading option.Outputs ≤ 3)
  pub count : (1 ≤ number_set reading option.Count) × (number_set reading option.Count ≤ 32)
  pub budget : (1 ≤ number_set reading option.Budget) × (number_set reading option.Budget ≤ 4194304)

-- the numbers of a reading of `best` or `pair` are, too
pub record KeepsSearchRanges (reading : Reading) : Type 0 where
  pub inputs : (1 ≤ number_set reading option.Inputs) × (number_set reading option.Inputs ≤ 5)
  pub outputs : (1 ≤ number_set reading option.Outputs) × (number_set reading option.Outputs ≤ 3)
  pub budget : number_set reading option.Budget ≤ 4194304
