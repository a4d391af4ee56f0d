-- So many are counted so far.
use Rattle.std.proofs.Common.{◌≡◌, ◌≤◌, filter, length, take}
use Rattle.ci_find.specs.FindCommand.{is_spent}
use Rattle.ci_find.proofs.find.skips.Given as goal

abbrev pub invariant-loop-entry : goal.invariant-loop-entry
invariant-loop-entry l = record {
  counted : l.skips ≡ length (filter is_spent (take l.entry-index l.entries));
  few : l.skips ≤ l.entry-index;
}
