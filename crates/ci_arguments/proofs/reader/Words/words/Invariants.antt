-- The words of the settings so far.
use Rattle.std.proofs.Common.{◌≡◌, map, take}
use Rattle.ci_arguments.specs.Words.{settings_in, word_in}
use Rattle.ci_arguments.specs.Read.{setting_in}
use Rattle.ci_arguments.proofs.reader.Words.words.Given as goal

abbrev pub invariant-loop-setting : goal.invariant-loop-setting
invariant-loop-setting l = l.words.items ≡ map word_in (settings_in (map setting_in (take l.setting-index l.setting-items)) l.option)
