use Rattle.std.proofs.Common.{◌≡◌, ◌&&◌, false, not}
use Rattle.std.specs.FinSet as set
use Rattle.ci_word.specs.Numbers.{some_below}
use Rattle.ci_cut.specs.declared.graph.Source.TheVariants.{Made}
use Rattle.ci_cut.specs.FlowGraph.{reads}
use Rattle.ci_unit.proofs.cuts.is_read_outside.Given as goal

abbrev pub invariant-loop-j : goal.invariant-loop-j
invariant-loop-j l = some_below l.j (λ j. not (set.contains l.cut j) && reads l.graph j (Made l.k)) ≡ false
