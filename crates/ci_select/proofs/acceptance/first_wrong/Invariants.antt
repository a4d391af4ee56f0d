use Rattle.std.proofs.Common.{◌≡◌, reverse, take}
use Rattle.ci_select.specs.private.Followed.{Follows, instance_in}
use Rattle.ci_select.proofs.acceptance.first_wrong.Given as goal

abbrev pub invariant-loop-entry : goal.invariant-loop-entry
invariant-loop-entry l = record {
  follows : Follows (reverse (take l.entry-index l.book.entries)) l.rounds;
  instance : instance_in l.rounds ≡ instance_in l.fn.rounds;
}
