use Rattle.std.proofs.Common.{◌≡◌, ℕ, ◌<◌, IsTrue, take}
use Rattle.std.specs.List.{list_any}
use Rattle.ci_cut.specs.declared.graph.Source.TheVariants.{Entry, Made}
use Rattle.ci_cut.specs.FlowGraph.{is_source}
use Rattle.ci_unit_tests.proofs.unit.sources_of.Given as goal

abbrev pub invariant-loop-source : goal.invariant-loop-source
invariant-loop-source g l =
    (l.list ≡ take l.source-index l.operands)
    × ((j : ℕ) → IsTrue (list_any (is_source (Made j)) l.list) → j < l.count)
    × ((r : ℕ) → IsTrue (list_any (is_source (Entry r)) l.list) → r < 32)
