use Rattle.std.proofs.Common.{◌+◌, ◌<◌, None, refl, ap, ◌∙◌, arith, length, length-set}
use Rattle.ci_cut.specs.Representation.{IsLastBelow}
use Rattle.ci_cut.proofs.NodeLaws.{node_there}
use Rattle.ci_cut.proofs.WholeRows.{last_below_start, last_below_here, last_below_earlier, written_more}
use Rattle.ci_cut.proofs.graph_rows.hold_last_below.Goals as goal
use Rattle.ci_cut.proofs.graph_rows.hold_last_below.Goals.{then-node, else-node}

pub loop-k-init : goal.loop-k-init
loop-k-init c = record {
  size = length-set c.args.last.now 0 None ∙ c.told-last;
  told = last_below_start c.args.graph.now c.args.last.now (omega (arith, c.told-last));
}

pub loop-k-preserved : goal.loop-k-preserved
loop-k-preserved c =
    let graph = c.args.graph.now in
    let k = c.loop-k.k in
    let eligible = ap (λ node. node.eligible) (node_there graph _ k _ c.nodes-node-items.ensures.value c.loop-k-test.true c.node-item.is) in
    let room : k + 1 < 257 = omega (arith, c.nodes-node-items.ensures.kept.few, ap length c.nodes-node-items.ensures.value) in
    let here = elim c.if-node.branch as (λ _. IsLastBelow graph (k + 1) c.if-node.last) [
      | then-node w ↦ rw w.last-is (last_below_here graph k (eligible ∙ w.if-node.true))
      | else-node w ↦ rw w.last-is (last_below_earlier graph k _ (eligible ∙ w.if-node.false) (c.loop-k.invariant.told k (omega arith)))
    ] in
    record {
      size = length-set c.loop-k.last (k + 1) c.if-node.last ∙ c.loop-k.invariant.size;
      told = λ place within.
          written_more (IsLastBelow graph) None c.loop-k.last (k + 1) c.if-node.last (omega (arith, room, c.loop-k.invariant.size))
          (λ j below. c.loop-k.invariant.told j (omega arith)) here place (omega arith);
    }
