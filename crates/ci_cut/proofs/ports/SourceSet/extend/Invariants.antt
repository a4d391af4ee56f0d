use Rattle.std.proofs.Common.{◌≡◌, ◌||◌, take}
use Rattle.std.specs.List.{list_any}
use Rattle.ci_cut.specs.declared.graph.Source.{Source}
use Rattle.ci_cut.specs.FlowGraph.{is_source}
use Rattle.ci_cut.specs.private.SourceSets.{holds}
use Rattle.ci_cut.proofs.ports.SourceSet.extend.Given as goal

abbrev pub invariant-loop-source : goal.invariant-loop-source
invariant-loop-source l = (other : Source) → holds l.self other ≡ (holds l.initial.self other || list_any (is_source other) (take l.source-index l.sources))
