use Rattle.std.proofs.Common.{◌≤◌, ◌*◌, take}
use Rattle.ci_verilog.specs.Modules.{known_by}
use Rattle.ci_gates.specs.Counts.{HaveGates}
use Rattle.ci_gates.specs.private.Wired.{values_of}
use Rattle.ci_gates.proofs.counts.count.Given as goal

abbrev pub invariant-loop-wire : goal.invariant-loop-wire
invariant-loop-wire l = record {
  gates : HaveGates (known_by l.fn.module.wires) (values_of (take l.wire-index l.list)) l.sum;
  few : l.sum ≤ 12480 * l.wire-index;
}
