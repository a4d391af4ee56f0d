use Rattle.ci_select.proofs.JudgeLaws.{right_there, wrong_there}
use Rattle.ci_select.proofs.acceptance.follow_search.Goals as goal

pub returns-in-Some-clause-judged : goal.returns-in-Some-clause-judged
returns-in-Some-clause-judged c = λ history follows. (
  wrong_there c.args.entry.now follows (c.requires.due history follows) c.in_ok-graph.ensures c.plan.ensures c.in-Some.wrong c.in-Some.ensures,
  follows,
)

pub follow_search-requires-clause-right : goal.follow_search-requires-clause-right
follow_search-requires-clause-right c =
    let (history, follows) = c.requires.follows in
    let right = right_there c.args.entry.now follows (c.requires.due history follows) c.in_ok-graph.ensures c.plan.ensures c.in_default.ensures in
    (history, follows, right.0, right.1)

pub returns-clause-judged : goal.returns-clause-judged
returns-clause-judged c = λ history follows.
    let right = right_there c.args.entry.now follows (c.requires.due history follows) c.in_ok-graph.ensures c.plan.ensures c.in_default.ensures in
    (right.0, c.in_ok-follow_search.ensures.followed history follows right.0)
