use Rattle.std.proofs.Common.{◌≡◌, take}
use Rattle.std.specs.List.{sum_by}
use Rattle.ci_select.proofs.TakenSavings.{cycles_by}
use Rattle.ci_select.proofs.savings.saved_by.Given as goal

abbrev pub invariant-loop-taken : goal.invariant-loop-taken
invariant-loop-taken l = l.saved ≡ sum_by (cycles_by l.unit) (take l.taken-index l.takes)
