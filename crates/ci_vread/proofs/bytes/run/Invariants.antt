-- The run that goes on here ends where the whole run ends.
use Rattle.std.proofs.Common.{length, ◌-◌, ◌≡◌, ◌+◌, ◌≤◌, drop}
use Rattle.std.specs.List.{prefix_len}
use Rattle.ci_vread.specs.private.Scanning.{belongs}
use Rattle.ci_vread.proofs.bytes.run.Given as goal

abbrev pub invariant-loop-size : goal.invariant-loop-size
invariant-loop-size l = record {
  place : l.size + prefix_len (belongs l.class) (drop l.size l.text) ≡ prefix_len (belongs l.class) l.text;
  bound : l.size ≤ length l.text;
}

abbrev pub decreases-loop-size : goal.decreases-loop-size
decreases-loop-size l = length l.text - l.size
