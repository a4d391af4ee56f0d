-- The values so far stand behind the settings from before.
use Rattle.std.proofs.Common.{◌≡◌, ◌++◌, map, take}
use Rattle.ci_arguments.specs.Read.{setting_in, value_in}
use Rattle.ci_arguments.proofs.said.push_settings.Given as goal

abbrev pub invariant-loop-value : goal.invariant-loop-value
invariant-loop-value l = map setting_in l.settings.items
    ≡ map setting_in l.fn.settings.items ++ map (λ value. (l.option, value_in value)) (take l.value-index l.values)
