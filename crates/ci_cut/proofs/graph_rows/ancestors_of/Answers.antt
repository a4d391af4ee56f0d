use Rattle.std.proofs.Common.{◌<◌, ◌↔◌, IsTrue, ap, ◌∙◌, length, arith, subst}
use Rattle.std.specs.Ordering.{nat_cmp}
use Rattle.std.specs.FinSet as set
use Rattle.std.proofs.lemmas.List.{get_or_default}
use Rattle.ci_cut.specs.Walks.{Walk}
use Rattle.ci_cut.proofs.NodeLaws.{node_there}
use Rattle.ci_cut.proofs.SetLaws.{fewer_left_without}
use Rattle.ci_cut.proofs.WholeRows.{leads_start, leads_more, leads_all}
use Rattle.ci_cut.proofs.graph_rows.ancestors_of.Goals as goal

pub loop-last-init : goal.loop-last-init
loop-last-init c =
    let graph = c.args.graph.now in
    let below : c.args.node < length c.nodes.result.now = omega (arith, c.requires.node, ap length c.nodes.ensures.value) in
    leads_start graph c.args.node _
    (ap (λ n. n.before) (node_there graph _ c.args.node _ c.nodes.ensures.value below c.index-nodes-node.is ∙ c.index-nodes-node.is))

pub loop-last-smaller : goal.loop-last-smaller
loop-last-smaller c =
    rw (c.minus-rest.ensures.value, c.remove.ensures)
    (fewer_left_without c.loop-last.rest _ c.in-Some.last c.args.node
    (λ j waits. c.nodes.ensures.kept.arcs_rise j c.args.node (c.loop-last.invariant.arcs j waits)) c.in-Some.ensures.0)

pub loop-last-preserved : goal.loop-last-preserved
loop-last-preserved c =
    let graph = c.args.graph.now in
    let last = c.in-Some.last in
    let below : last < c.args.node =
    c.nodes.ensures.kept.arcs_rise last c.args.node (c.loop-last.invariant.arcs last c.in-Some.ensures.0) in
    rw (c.union-row.ensures.value, c.minus-rest.ensures.value, c.remove.ensures)
    (leads_more graph c.args.node c.loop-last.row c.loop-last.rest _ last c.loop-last.invariant c.in-Some.ensures.0
    (λ j. subst (λ (row : set.FinSet nat_cmp). IsTrue (set.contains row j) ↔ Walk graph j last)
    (get_or_default c.args.earlier.now last set.empty c.index-earlier-last.result
    (omega (arith, below, c.told-earlier, c.requires.node, c.nodes.ensures.kept.few)))
    (c.requires.earlier j last below)))

pub returns : goal.returns
returns c = leads_all c.args.graph.now c.args.node c.loop-last.row c.loop-last.rest c.loop-last.invariant c.in_default.ensures
