use Rattle.std.proofs.Common.{◌≡◌, reverse}
use Rattle.std.specs.List.{AllByRecursion}
use Rattle.ci_select.specs.LegalBooks.{HasShortLog}
use Rattle.ci_select.specs.GivenUp.{GivesUpByNeed}
use Rattle.ci_select.specs.Takes.{AreTaken}
use Rattle.ci_select.specs.private.Followed.{Follows, instance_in, steps_left}
use Rattle.ci_select.proofs.choosing.book_of.Given as goal

abbrev pub invariant-loop-leader : goal.invariant-loop-leader
invariant-loop-leader l = record {
  follows : Follows (reverse l.entries.items) l.rounds;
  same : instance_in l.rounds ≡ instance_in l.fn.rounds;
  budget : l.region.capacity ≡ (instance_in l.fn.rounds).plan.budget;
  taken : AreTaken (instance_in l.fn.rounds) (reverse l.entries.items) (reverse l.takes.items);
  short : AllByRecursion HasShortLog l.entries.items;
  given_up : GivesUpByNeed (instance_in l.fn.rounds) (reverse l.entries.items);
}

abbrev pub decreases-loop-leader : goal.decreases-loop-leader
decreases-loop-leader l = steps_left l.rounds
