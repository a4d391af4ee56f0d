use Rattle.std.proofs.Common.{◌≡◌, find}
use Rattle.std.specs.FinSet as set
use Rattle.ci_unit.specs.private.Reading.{is_further, sources_below}
use Rattle.ci_unit.proofs.uses.next_input.Given as goal

abbrev pub invariant-loop-k : goal.invariant-loop-k
invariant-loop-k l = l.found ≡ find (is_further (set.contains l.cut) l.seen) (sources_below l.graph (set.contains l.cut) l.k)
