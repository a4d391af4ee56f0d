use Rattle.std.proofs.Common.{◌≤◌}
use Rattle.ci_region.specs.BoundedMap.{BoundedMap}
use Rattle.ci_cut.specs.FlowGraph.{FlowGraph}
use Rattle.ci_cut.specs.Prefixes.{Prefix}
use Rattle.ci_cut.specs.declared.graph.Limits.{Limits}
use Rattle.ci_cut.specs.declared.incumbent.Incumbent.{Incumbent}
use Rattle.ci_log.specs.declared.flattening.Child.TheVariants.{Leaf}
use Rattle.ci_log.specs.declared.flattening.LogNode.{LogNode}
use Rattle.ci_search.specs.private.Waiting.{IsJoined}
use Rattle.ci_search.proofs.trees.branches.Given as goal

abbrev pub invariant-loop-left : goal.invariant-loop-left
invariant-loop-left l = record {
  within : l.left ≤ l.top;
  joined : (graph : FlowGraph) (limits : Limits) (start : Prefix) (first later : Incumbent) (before : BoundedMap LogNode)
      → IsJoined graph limits start first later before l.pending l.bottom l.top l.initial.region (Leaf l.fn.last)
      → IsJoined graph limits start first later before l.pending l.bottom l.left l.region l.root;
}

abbrev pub decreases-loop-left : goal.decreases-loop-left
decreases-loop-left l = l.left
