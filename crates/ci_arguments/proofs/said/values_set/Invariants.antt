-- What the texts so far say.
use Rattle.std.proofs.Common.{map, take}
use Rattle.std.specs.List.{AllZip}
use Rattle.ci_arguments.specs.Words.{Says}
use Rattle.ci_arguments.specs.Read.{value_in}
use Rattle.ci_arguments.proofs.said.values_set.Given as goal

abbrev pub invariant-loop-text : goal.invariant-loop-text
invariant-loop-text l = AllZip (Says l.option.0.1.kind) (take l.text-index (map (λ t. t.now) l.texts)) (map value_in l.values.items)
