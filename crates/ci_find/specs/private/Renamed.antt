-- For private contracts: the settings of a renaming, as definitions take them.
use Rattle.ci_calls.specs.Refused.{name_in}
use Rattle.ci_find.specs.declared.rename.RenameSettings.{RenameSettings as SettingsOfRename}
use Rattle.ci_find.specs.RenameCommand.{RenameSettings}

abbrev pub rename_settings_by : SettingsOfRename → RenameSettings
rename_settings_by settings = record {
  steps = settings.steps;
  named = settings.leaders.now;
  input = name_in settings.input;
}
