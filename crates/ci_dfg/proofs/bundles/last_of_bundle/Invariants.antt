use Rattle.std.proofs.Common.{◌<◌, ◌-◌, length}
use Rattle.ci_dfg.specs.BlockGraph.{is_joined}
use Rattle.ci_dfg.specs.BundleArcs.{IsSpan}
use Rattle.ci_dfg.proofs.bundles.last_of_bundle.Given as goal

abbrev pub invariant-loop-last : goal.invariant-loop-last
invariant-loop-last l = record { within : l.last < length l.insns; one : IsSpan (is_joined l.insns) l.k l.last }

abbrev pub decreases-loop-last : goal.decreases-loop-last
decreases-loop-last l = length l.insns - l.last
