use Rattle.std.proofs.Common.{◌<◌, length}
use Rattle.ci_dfg.specs.BlockGraph.{is_joined}
use Rattle.ci_dfg.specs.BundleArcs.{IsSpan}
use Rattle.ci_dfg.proofs.bundles.first_of_bundle.Given as goal

abbrev pub invariant-loop-first : goal.invariant-loop-first
invariant-loop-first l = record { within : l.first < length l.insns; one : IsSpan (is_joined l.insns) l.first l.j }

abbrev pub decreases-loop-first : goal.decreases-loop-first
decreases-loop-first l = l.first
