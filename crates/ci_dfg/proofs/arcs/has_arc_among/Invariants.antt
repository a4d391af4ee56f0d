use Rattle.std.proofs.Common.{◌≡◌, ℕ, ◌≤◌, ◌<◌, false}
use Rattle.ci_dfg.specs.BlockGraph as terms
use Rattle.ci_dfg.proofs.arcs.has_arc_among.Given as goal

abbrev pub invariant-loop-i : goal.invariant-loop-i
invariant-loop-i l = (n : ℕ) → l.first ≤ n → n < l.i → terms.some_between l.k l.last (λ m. terms.has_own_arc l.insns m n) ≡ false
