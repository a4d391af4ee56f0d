-- All values so far, in their order.
use Rattle.std.proofs.Common.{◌≡◌, ◌++◌, map, take}
use Rattle.ci_arguments.specs.Read.{setting_in, value_in}
use Rattle.ci_arguments.proofs.said.all_values.Given as goal

abbrev pub invariant-loop-value : goal.invariant-loop-value
invariant-loop-value l = map value_in l.all.items ≡ map value_in (take l.value-index l.values)

abbrev pub invariant-loop-setting : goal.invariant-loop-setting
invariant-loop-setting l = map value_in l.all.items
    ≡ map value_in l.values ++ map (λ setting. setting.1) (map setting_in (take l.setting-index l.settings))
