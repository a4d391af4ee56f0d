use Rattle.std.proofs.Common.{◌≡◌, ◌<◌, ◌≤◌, sym, subst, length, reverse, get_or}
use Rattle.ci_select.specs.private.Followed.{Follows}
use Rattle.ci_select.specs.private.Judged.{IsJudged}
use Rattle.ci_select.proofs.JudgeLaws.{follows_all, if_none, judged_end, wrong_followed}
use Rattle.ci_select.proofs.acceptance.first_wrong.Goals as goal

pub returns-in-Some-clause-wrong : goal.returns-in-Some-clause-wrong
returns-in-Some-clause-wrong c =
    let entries = c.entries-entry-items.ensures.entries in
    rw (sym c.loop-entry.invariant.instance)
    (wrong_followed c.args.book.now c.loop-entry.rounds c.follow.new.rounds c.loop-entry.entry-index c.entry-item.result
    c.in-Some.wrong
    (subst (λ es. c.loop-entry.entry-index < length es) entries c.loop-entry-test.true)
    (subst (λ es. c.entry-item.result ≡ get_or es c.loop-entry.entry-index c.entry-item.result) entries c.entry-item.is)
    c.loop-entry.invariant.follows
    (subst (IsJudged c.loop-entry.rounds c.follow.new.rounds c.entry-item.result) c.in-Some.is c.in_ok-wrong.ensures.judged))

-- at the loop's end all entries were followed
followed : (c : goal.After-wrong_end) → Follows (reverse c.args.book.now.entries) c.loop-entry.rounds
followed c =
    follows_all c.args.book.now.entries c.loop-entry.entry-index c.loop-entry.rounds c.loop-entry.invariant.follows
    (subst (λ entries. length entries ≤ c.loop-entry.entry-index) c.entries-entry-items.ensures.entries c.loop-entry-test.false)

pub returns-clause-wrong : goal.returns-clause-wrong
returns-clause-wrong c =
    rw (sym c.loop-entry.invariant.instance)
    (judged_end c.args.book.now c.loop-entry.rounds c.due.result c.finish.result c.wrong_end.result (followed c)
    (c.due.ensures _ (followed c)) c.finish.ensures c.wrong_end.ensures)

pub returns-clause-followed : goal.returns-clause-followed
returns-clause-followed c = if_none c.wrong_end.result (followed c)
