-- For every reader: the names and the settings of a choice, as the words of `find`, `check` or `area` have them, those
-- of a renaming, as the words of `rename` do, and the version of a log book, as those of `find` or `relog` have it.
use Rattle.std.specs.Prelude.{◌≡◌, ◌==◌, List, if◌then◌else◌}
use Rattle.ci_arguments.specs.Words.{Reading, name_at, name_set, number_set, words_set}
use Rattle.ci_arguments.specs.declared.tables.OptionName.TheVariants as option
use Rattle.ci_calls.specs.Inputs.{Input}
use Rattle.ci_log.specs.declared.book.Version.{Version}
use Rattle.ci_log.specs.declared.book.Version.TheVariants.{One, Two}
use Rattle.ci_select.specs.declared.plan.Plan.{Plan}
use Rattle.ci_find.specs.CheckCommand.{CheckNames, check_inputs}
use Rattle.ci_find.specs.FindCommand.{FindOutput, find_inputs}
use Rattle.ci_find.specs.RenameCommand.{RenameSettings, rename_inputs}
use Rattle.ci_find.specs.Profiled.{Settings}

-- the limits are those of the reading
pub record IsPlanOf (reading : Reading) (plan : Plan) : Type 0 where
  pub inputs : plan.limits.inputs ≡ number_set reading option.Inputs
  pub outputs : plan.limits.outputs ≡ number_set reading option.Outputs
  pub count : plan.count ≡ number_set reading option.Count
  pub budget : plan.budget ≡ number_set reading option.Budget

abbrev pub settings_of : Reading → Plan → Settings
settings_of reading plan = record {
  steps = number_set reading option.Steps;
  named = words_set reading option.Leader;
  plan = plan;
  table = name_set reading option.Table;
  input = name_set reading option.Input;
}

-- the version of the number that --log names, which is 1 or 2
abbrev pub log_version : Reading → Version
log_version reading = if number_set reading option.LogVersion == 2 then Two else One

abbrev pub find_output : Reading → FindOutput
find_output reading = record {
  new = name_at reading 1;
  units = name_at reading 2;
  logs = name_at reading 3;
  report = name_at reading 4;
  version = log_version reading;
}

abbrev pub check_names : Reading → CheckNames
check_names reading = record {
  new = name_at reading 1;
  units = name_at reading 2;
  logs = name_at reading 3;
}

-- the files that are read, in order: OLD, the table and the input
abbrev pub find_files : Reading → List Input
find_files reading = find_inputs (name_at reading 0) (name_set reading option.Table) (name_set reading option.Input)

-- OLD, NEW, UNITS, LOGS, the table and the input
abbrev pub check_files : Reading → List Input
check_files reading =
    check_inputs (name_at reading 0) (check_names reading) (name_set reading option.Table)
    (name_set reading option.Input)

-- ---- a renaming

abbrev pub rename_settings : Reading → RenameSettings
rename_settings reading = record {
  steps = number_set reading option.Steps;
  named = words_set reading option.Leader;
  input = name_set reading option.Input;
}

-- OLD and the input
abbrev pub rename_files : Reading → List Input
rename_files reading = rename_inputs (name_at reading 0) (name_set reading option.Input)
