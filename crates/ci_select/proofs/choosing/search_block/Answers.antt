use Rattle.ci_select.proofs.DueBlocks.{gives_up_by_need, search_is_right, search_is_no_take}
use Rattle.ci_select.proofs.choosing.search_block.Goals as goal

pub follow_search-requires-clause-right : goal.follow_search-requires-clause-right
follow_search-requires-clause-right c =
    let due = c.requires.due in
    let is = c.in_ok-entry.ensures in
    let graph = c.in_ok-graph.graph in
    let plan = c.plan.result.now in (
      due.0,
      due.1,
      search_is_right due.1 graph plan c.in_ok-entry.entry c.in_ok-graph.ensures c.plan.ensures is.leader due.2 is.searched,
      search_is_no_take graph plan c.in_ok-entry.entry is.searched,
    )

pub returns-clause-followed : goal.returns-clause-followed
returns-clause-followed c history follows what =
    let is = c.in_ok-entry.ensures in
    c.in_ok-follow_search.ensures.followed history follows
    (search_is_right follows c.in_ok-graph.graph c.plan.result.now c.in_ok-entry.entry c.in_ok-graph.ensures c.plan.ensures is.leader what is.searched)

pub returns-clause-given_up : goal.returns-clause-given_up
returns-clause-given_up c history follows what =
    let is = c.in_ok-entry.ensures in
    gives_up_by_need follows c.in_ok-graph.graph c.plan.result.now c.in_ok-entry.entry c.in_ok-graph.ensures c.plan.ensures is.leader what is.given_up

pub returns-clause-search : goal.returns-clause-search
returns-clause-search c =
    search_is_no_take c.in_ok-graph.graph c.plan.result.now c.in_ok-entry.entry c.in_ok-entry.ensures.searched
