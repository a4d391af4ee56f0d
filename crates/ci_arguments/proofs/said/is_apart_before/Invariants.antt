-- The value is apart from those so far.
use Rattle.std.proofs.Common.{ℕ, ◌<◌, get_or, map}
use Rattle.ci_arguments.specs.Words.{AreApart, Value}
use Rattle.ci_arguments.specs.Read.{value_in}
use Rattle.ci_arguments.proofs.said.is_apart_before.Given as goal

abbrev pub invariant-loop-k : goal.invariant-loop-k
invariant-loop-k l = (k : ℕ) → k < l.k → (d : Value)
    → AreApart (get_or (map value_in l.values) k d) (get_or (map value_in l.values) l.i d)
