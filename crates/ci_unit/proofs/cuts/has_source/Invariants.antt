use Rattle.std.proofs.Common.{◌≡◌, false, take}
use Rattle.std.specs.List.{list_any}
use Rattle.ci_cut.specs.FlowGraph.{is_source}
use Rattle.ci_unit.proofs.cuts.has_source.Given as goal

abbrev pub invariant-loop-other : goal.invariant-loop-other
invariant-loop-other l = list_any (is_source l.source) (take l.other-index l.sources) ≡ false
