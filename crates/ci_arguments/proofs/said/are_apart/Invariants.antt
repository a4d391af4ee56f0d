-- Each value so far is apart from those before it.
use Rattle.std.proofs.Common.{ℕ, ◌<◌, map}
use Rattle.ci_arguments.specs.private.Parses.{IsApartBefore}
use Rattle.ci_arguments.specs.Read.{value_in}
use Rattle.ci_arguments.proofs.said.are_apart.Given as goal

abbrev pub invariant-loop-i : goal.invariant-loop-i
invariant-loop-i l = (j : ℕ) → j < l.i → IsApartBefore (map value_in l.values) j
