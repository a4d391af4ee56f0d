use Rattle.std.proofs.Common.{◌≡◌, Bool, ◌||◌, ◌+◌, take}
use Rattle.std.specs.List.{list_any}
use Rattle.ci_cut.specs.declared.graph.Source.{Source}
use Rattle.ci_cut.specs.FlowGraph.{is_source}
use Rattle.ci_cut.specs.private.SourceSets.{holds, AreSettledBy, count_held}
use Rattle.ci_cut.proofs.ports.SourceSet.extend_settled.Given as goal

abbrev pub invariant-loop-source : goal.invariant-loop-source
invariant-loop-source l = record {
  in_set : (other : Source) → holds l.self other ≡ (holds l.initial.self other || list_any (is_source other) (take l.source-index l.sources));
  counted : (outside : Source → Bool) → AreSettledBy l.graph outside l.sources
      → count_held l.graph outside l.self ≡ count_held l.graph outside l.initial.self + l.settled;
}
