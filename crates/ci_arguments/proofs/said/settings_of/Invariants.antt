-- What the options so far are set to.
use Rattle.std.proofs.Common.{map, take}
use Rattle.clap.specs.Words.{found_of, rows_of}
use Rattle.ci_arguments.specs.Words.{AreSet}
use Rattle.ci_arguments.specs.private.Parses.{option_row, values_in}
use Rattle.ci_arguments.specs.Read.{setting_in}
use Rattle.ci_arguments.proofs.said.settings_of.Given as goal

abbrev pub invariant-loop-option : goal.invariant-loop-option
invariant-loop-option l = AreSet (map option_row (take l.option-index l.options))
    (values_in (rows_of (found_of l.matches))) (map setting_in l.settings.items)
