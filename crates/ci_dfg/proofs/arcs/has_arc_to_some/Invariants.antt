use Rattle.std.proofs.Common.{◌≡◌, ℕ, ◌≤◌, ◌<◌, false}
use Rattle.ci_dfg.specs.BlockGraph as terms
use Rattle.ci_dfg.proofs.arcs.has_arc_to_some.Given as goal

abbrev pub invariant-loop-l : goal.invariant-loop-l
invariant-loop-l l = (n : ℕ) → l.k ≤ n → n < l.l → terms.has_own_arc l.insns n l.i ≡ false
