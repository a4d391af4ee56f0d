use Rattle.std.proofs.Common.{ap, ◌∙◌, arith, length}
use Rattle.ci_cut.specs.Prefixes.{is_eligible}
use Rattle.ci_cut.proofs.NodeLaws.{node_there}
use Rattle.ci_cut.proofs.PrefixLaws.{eligible_below}
use Rattle.ci_cut.proofs.FilledRows.{filled_none, filled_in, filled_out, filled_all}
use Rattle.ci_cut.proofs.graph_rows.eligible_nodes.Goals as goal
use Rattle.ci_cut.proofs.graph_rows.eligible_nodes.Goals.{then-node, else-node}

pub loop-k-init : goal.loop-k-init
loop-k-init c = filled_none (is_eligible c.args.graph.now) _ c.empty-row.ensures

pub loop-k-preserved : goal.loop-k-preserved
loop-k-preserved c j =
    let test = is_eligible c.args.graph.now in
    let here = ap (λ node. node.eligible) (node_there c.args.graph.now _ c.loop-k.k _ c.nodes-node-items.ensures.value c.loop-k-test.true c.node-item.is) in
    elim c.if-node.branch [
      | then-node w ↦ rw (w.row-is, w.insert.ensures) (filled_in test c.loop-k.row c.loop-k.k j (c.loop-k.invariant j) (here ∙ w.if-node.true))
      | else-node w ↦ rw w.row-is (filled_out test c.loop-k.row c.loop-k.k j (c.loop-k.invariant j) (here ∙ w.if-node.false))
    ]

pub returns : goal.returns
returns c =
    filled_all (is_eligible c.args.graph.now) c.loop-k.k
    (λ j passes. omega (arith, eligible_below c.args.graph.now j passes, ap length c.nodes-node-items.ensures.value)) c.loop-k.row c.loop-k.invariant
