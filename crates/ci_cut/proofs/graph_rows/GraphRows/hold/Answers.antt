use Rattle.std.proofs.Common.{◌↔◌, IsTrue, ℕ, ◌<◌, refl, sym, ap, ◌∙◌, arith, length, length-set}
use Rattle.std.specs.List.{list_any}
use Rattle.std.specs.FinSet as set
use Rattle.ci_cut.specs.declared.graph.Source.TheVariants.{Made}
use Rattle.ci_cut.specs.FlowGraph.{node_at, is_source, reads}
use Rattle.ci_cut.specs.Walks.{Walk}
use Rattle.ci_cut.specs.Representation.{row_at}
use Rattle.ci_cut.proofs.NodeLaws.{node_there}
use Rattle.ci_cut.proofs.FilledRows.{all_filled_none, all_filled_more, filled_all}
use Rattle.ci_cut.proofs.WholeRows.{written_more, arc_below, reader_below}
use Rattle.ci_cut.proofs.graph_rows.GraphRows.hold.Goals as goal

pub loop-k-init : goal.loop-k-init
loop-k-init c =
    let graph = c.args.graph.now in
    record {
      size = omega arith;
      successors =
          all_filled_none (λ j m. set.contains (node_at graph m).before j) _ _
          (λ j below. c.clear.ensures j (omega (arith, below, ap length c.nodes-size.ensures.value)));
      ancestors = λ j k below. absurd (omega arith);
      readers =
          all_filled_none (λ j m. reads graph m (Made j)) _ _
          (λ j below. c.clear-2.ensures j (omega (arith, below, ap length c.nodes-size.ensures.value)));
    }

pub loop-k-preserved : goal.loop-k-preserved
loop-k-preserved c =
    let graph = c.args.graph.now in
    let k = c.loop-k.k in
    let so_far = c.loop-k.invariant in
    let room : k < 256 = omega (arith, c.loop-k-test.true, c.nodes-node-items.ensures.kept.few, ap length c.nodes-node-items.ensures.value) in
    let here = node_there graph _ k _ c.nodes-node-items.ensures.value c.loop-k-test.true c.node-item.is in
    record {
      size = length-set c.loop-k.self.ancestors k _ ∙ so_far.size;
      successors =
          all_filled_more (λ j m. set.contains (node_at graph m).before j) _ c.loop-k.self.successors _ _ k
          (λ j. ap (λ node. set.contains node.before j) (sym here))
          c.add_at_members.ensures
          so_far.successors;
      ancestors = λ other j below.
          written_more (λ i row. (m : ℕ) → IsTrue (set.contains row m) ↔ Walk graph m i) set.empty c.loop-k.self.ancestors k _
          (omega (arith, room, so_far.size)) (λ i less m. so_far.ancestors m i less) c.ancestors_of.ensures j below other;
      readers =
          all_filled_more (λ j m. reads graph m (Made j)) _ c.loop-k.self.readers _ _ k
          (λ j. ap (list_any (is_source (Made j))) c.as_slice.ensures ∙ ap (λ node. list_any (is_source (Made j)) node.sources) (sym here))
          c.add_at_makers.ensures
          so_far.readers;
    }

pub returns : goal.returns
returns c =
    let graph = c.args.graph.now in
    let few = c.nodes-node-items.ensures.kept.few in
    let same = ap length c.nodes-node-items.ensures.value in
    let so_far = c.loop-k.invariant in
    record {
      successors = λ j k below.
          filled_all (λ m. set.contains (node_at graph m).before j) c.loop-k.k
          (λ m arc. omega (arith, arc_below graph j m arc)) (row_at c.loop-k.self.successors j)
          (λ m. so_far.successors j m (omega (arith, below, few))) k;
      ancestors = λ j k below. so_far.ancestors j k (omega arith);
      readers = λ j k below.
          filled_all (λ m. reads graph m (Made j)) c.loop-k.k
          (λ m read. omega (arith, reader_below graph j m read)) (row_at c.loop-k.self.readers j)
          (λ m. so_far.readers j m (omega (arith, below, few))) k;
      last_below = c.hold_last_below.ensures;
    }
