use Rattle.std.proofs.Common.{◌≡◌, false, take}
use Rattle.std.specs.List.{list_any}
use Rattle.ci_vemit.specs.Templates.{takes_further}
use Rattle.ci_vemit.proofs.building.take_further.Given as goal

abbrev pub invariant-loop-op : goal.invariant-loop-op
invariant-loop-op l = list_any takes_further (take l.op-index l.ops) ≡ false
