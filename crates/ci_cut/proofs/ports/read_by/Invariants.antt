use Rattle.std.proofs.Common.{◌≡◌}
use Rattle.std.specs.FinSet as set
use Rattle.ci_cut.specs.declared.graph.Source.{Source}
use Rattle.ci_cut.specs.private.SourceSets.{holds, is_reader, is_read_below}
use Rattle.ci_cut.proofs.ports.read_by.Given as goal

abbrev pub invariant-loop-k : goal.invariant-loop-k
invariant-loop-k l = (source : Source) → holds l.read source ≡ is_read_below l.k l.graph (is_reader (set.contains l.cut) l.members) source
