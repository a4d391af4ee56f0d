use Rattle.std.proofs.Common.{◌≡◌}
use Rattle.ci_word.specs.Numbers.{set_below}
use Rattle.ci_dfg.specs.BlockGraph as terms
use Rattle.ci_dfg.proofs.arcs.nodes_before.Given as goal

abbrev pub invariant-loop-j : goal.invariant-loop-j
invariant-loop-j l = l.before ≡ set_below l.j (terms.has_arc_into l.insns l.k)
