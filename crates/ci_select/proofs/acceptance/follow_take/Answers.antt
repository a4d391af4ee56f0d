use Rattle.std.proofs.Common.{◌≡◌}
use Rattle.ci_log.specs.declared.book.Entry.TheVariants.{Take}
use Rattle.ci_select.specs.WrongPlaces.{entry as part_of, no_take}
use Rattle.ci_select.proofs.acceptance.follow_take.Goals as goal
use Rattle.ci_select.proofs.acceptance.follow_take.Goals.{in_default-via-in-Take+then-l-leader+else-k-unit}
use Rattle.ci_select.proofs.acceptance.follow_take.Goals.{in_default-via-in-Take+else-l-leader}
use Rattle.ci_select.proofs.acceptance.follow_take.Goals.{in_default-via-in_default}

-- the entry isn't the take that is due
not_take : (c : goal.After-another) → ¬ (part_of c.args.entry.now ≡ part_of (Take c.args.leader c.args.unit))
not_take c same =
    let is : c.args.entry.now ≡ Take c.args.leader c.args.unit = (cc) in
    elim c.in_default.branch [
      | in_default-via-in-Take+then-l-leader+else-k-unit w ↦ let taken = w.in-Take.is in w.if-k-unit.false (cc)
      | in_default-via-in-Take+else-l-leader w ↦ let taken = w.in-Take.is in w.if-l-leader.false (cc)
      | in_default-via-in_default w ↦ w.in_default.not-Take c.args.leader c.args.unit is
    ]

pub returns-in_default-clause-judged : goal.returns-in_default-clause-judged
returns-in_default-clause-judged c = λ history follows.
    (rw c.another.ensures (no_take (c.requires.due history follows) (not_take c)), follows)
