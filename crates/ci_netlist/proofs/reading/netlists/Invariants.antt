use Rattle.std.proofs.Common.{◌≡◌, ◌≤◌, ◌-◌, length}
use Rattle.ci_netlist.specs.private.Reading.{netlists_read}
use Rattle.ci_netlist.proofs.ReadingLoops.{with_nets}
use Rattle.ci_netlist.proofs.reading.netlists.Given as goal

abbrev pub invariant-loop-place : goal.invariant-loop-place
invariant-loop-place l =
    (with_nets l.nets.items (netlists_read (32 - l.place) l.place l.rest) ≡ netlists_read 32 0 l.bytes)
    × (length l.rest ≤ length l.bytes)

abbrev pub decreases-loop-place : goal.decreases-loop-place
decreases-loop-place l = 32 - l.place
