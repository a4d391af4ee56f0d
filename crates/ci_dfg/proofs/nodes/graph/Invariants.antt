use Rattle.std.proofs.Common.{◌≡◌, true, map}
use Rattle.ci_word.specs.Numbers.{numbers_below}
use Rattle.ci_dfg.specs.BlockGraph as terms
use Rattle.ci_dfg.proofs.nodes.graph.Given as goal

abbrev pub invariant-loop-k : goal.invariant-loop-k
invariant-loop-k l = l.nodes.items ≡ map (terms.node_of l.insns l.live_out l.table) (numbers_below l.k (λ _. true))
