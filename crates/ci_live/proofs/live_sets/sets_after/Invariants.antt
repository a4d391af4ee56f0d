use Rattle.std.proofs.Common.{◌≡◌, ℕ, ◌<◌, length}
use Rattle.ci_live.specs.private.Flows.{flow_at}
use Rattle.ci_live.specs.private.Found.{live_at, on_edges}
use Rattle.ci_live.proofs.live_sets.sets_after.Given as goal

abbrev pub invariant-loop-flow : goal.invariant-loop-flow
invariant-loop-flow l = record {
  many : length l.after.items ≡ l.flow-index;
  each : (k : ℕ) → k < l.flow-index → live_at l.after.items k ≡ on_edges l.found.live.items l.found.any (flow_at l.flows k).successors;
}
