use Rattle.std.proofs.Common.{◌-◌, ◌<◌, length, arith, sym, ◌∙◌}
use Rattle.ci_cut.proofs.BestOfTries.{improved_for_one, better_without, better_with, eligible_read, decided_with}
use Rattle.ci_cut.proofs.choice.+try_below.Goals as goal

pub returns-then-undecided-eq0 : goal.returns-then-undecided-eq0
returns-then-undecided-eq0 t c = rw c.if-undecided-eq0.true (improved_for_one _ _ _ _ _ c.improved.ensures)

pub returns-then-not-nodes-node : goal.returns-then-not-nodes-node
returns-then-not-nodes-node t c =
    let below : c.args.undecided - 1 < length c.args.graph.now.nodes = omega arith in
    better_without c.args.graph.now c.args.limits.now _ _ _ _ (omega arith) c.requires.decided _ _
    (sym (eligible_read c.args.graph.now _ _ _ c.nodes.ensures.value below) ∙ c.if-not-nodes-node.true) c.try_below.ensures

pub try_below-reached-requires : goal.try_below-reached-requires
try_below-reached-requires t c =
    (omega arith, (omega arith, rw c.insert.ensures (decided_with _ _ _ _ (omega arith) c.requires.are_nodes c.requires.decided)))

pub returns : goal.returns
returns t c =
    better_with c.args.graph.now c.args.limits.now _ _ _ _ (omega arith) c.requires.decided _ _ _ _
    c.insert.ensures c.try_below-reached.ensures c.try_below-2.ensures
