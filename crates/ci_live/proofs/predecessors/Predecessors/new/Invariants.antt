use Rattle.std.proofs.Common.{◌<◌, length}
use Rattle.std.specs.List.{All}
use Rattle.ci_live.proofs.predecessors.Predecessors.new.Given as goal

abbrev pub invariant-loop-from : goal.invariant-loop-from
invariant-loop-from l = record {
  arcs : All (λ arc. arc.from < length l.flows) l.arcs.items;
  jumps : All (λ from. from < length l.flows) l.from_jumps.items;
}
