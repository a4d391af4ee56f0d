-- What the texts so far say, by their kinds.
use Rattle.std.proofs.Common.{◌≡◌, length, map, take}
use Rattle.std.specs.Prelude.{zip}
use Rattle.std.specs.List.{AllZip}
use Rattle.ci_arguments.specs.Words.{Says}
use Rattle.ci_arguments.specs.Read.{value_in}
use Rattle.ci_arguments.proofs.said.values_said.Given as goal

abbrev pub invariant-loop-i : goal.invariant-loop-i
invariant-loop-i l = record {
  as_many : length l.texts ≡ length l.kinds;
  each : AllZip (λ typed value. Says typed.0 typed.1 value) (take l.i (zip l.kinds (map (λ t. t.now) l.texts))) (map value_in l.values.items);
}
