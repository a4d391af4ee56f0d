-- So many are counted so far.
use Rattle.std.proofs.Common.{◌≡◌, ◌≤◌, filter, length, take}
use Rattle.ci_select.specs.Histories.{is_take}
use Rattle.ci_find.proofs.find.takes.Given as goal

abbrev pub invariant-loop-entry : goal.invariant-loop-entry
invariant-loop-entry l = record {
  counted : l.takes ≡ length (filter is_take (take l.entry-index l.entries));
  few : l.takes ≤ l.entry-index;
}
