-- No setting so far is of the option.
use Rattle.std.proofs.Common.{◌≡◌, [], map, take}
use Rattle.ci_arguments.specs.Words.{settings_in}
use Rattle.ci_arguments.specs.Read.{setting_in}
use Rattle.ci_arguments.proofs.reader.Words.first_set.Given as goal

abbrev pub invariant-loop-setting : goal.invariant-loop-setting
invariant-loop-setting l = settings_in (map setting_in (take l.setting-index l.setting-items)) l.option ≡ []
