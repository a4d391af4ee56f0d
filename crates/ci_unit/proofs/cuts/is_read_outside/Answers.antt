use Rattle.std.proofs.Common.{◌<◌, ◌&&◌, not, length, sym, ap, ◌∙◌, subst}
use Rattle.std.specs.FinSet as set
use Rattle.std.proofs.lemmas.Bool.{and_from, and_left, and_right}
use Rattle.ci_word.proofs.NumberLaws.{some_below-zero, some_below_iff}
use Rattle.ci_cut.specs.declared.graph.Source.TheVariants.{Made}
use Rattle.ci_cut.specs.FlowGraph.{reads}
use Rattle.ci_cut.proofs.NodeLaws.{node_there}
use Rattle.ci_unit.proofs.CountLaws.{none_more}
use Rattle.ci_unit.proofs.ReadingLaws.{reads_there}
use Rattle.ci_unit.proofs.cuts.is_read_outside.Goals as goal
use Rattle.ci_unit.proofs.cuts.is_read_outside.Goals.{else-not-has-via-then-not-has+else-has_source, else-not-has-via-else-not-has}

pub loop-j-init : goal.loop-j-init
loop-j-init c = some_below-zero _

pub returns-then-has_source : goal.returns-then-has_source
returns-then-has_source c =
    let graph = c.args.graph.now in
    let cut = set.contains c.args.cut.now in
    let j = c.loop-j.j in
    let read = node_there graph c.nodes-node-items.result.now j c.node-item.result c.nodes-node-items.ensures.value c.loop-j-test.true c.node-item.is in
    let reading = reads_there graph j c.node-item.result c.as_slice.result.now (Made c.args.k) read c.as_slice.ensures in
    let below : j < length graph.nodes = subst (λ n. j < n) (ap length c.nodes-node-items.ensures.value) c.loop-j-test.true in
    sym ((some_below_iff (length graph.nodes) (λ i. not (cut i) && reads graph i (Made c.args.k))).1 (
      j,
      below,
      and_from (not (cut j)) (reads graph j (Made c.args.k))
          (ap not (sym c.has.ensures.value ∙ c.if-not-has.true)) (reading ∙ sym c.has_source.ensures ∙ c.if-has_source.true),
    ))

pub loop-j-preserved : goal.loop-j-preserved
loop-j-preserved c =
    let graph = c.args.graph.now in
    let cut = set.contains c.args.cut.now in
    let j = c.loop-j.j in
    let read = node_there graph c.nodes-node-items.result.now j c.node-item.result c.nodes-node-items.ensures.value c.loop-j-test.true c.node-item.is in
    none_more (λ i. not (cut i) && reads graph i (Made c.args.k)) j c.loop-j.invariant
    (elim c.else-not-has.branch [
      | else-not-has-via-then-not-has+else-has_source w ↦
          and_right (not (cut j)) (reads graph j (Made c.args.k))
          (reads_there graph j c.node-item.result w.as_slice.result.now (Made c.args.k) read w.as_slice.ensures
          ∙ sym w.has_source.ensures ∙ w.if-has_source.false)
      | else-not-has-via-else-not-has w ↦
          and_left (not (cut j)) (reads graph j (Made c.args.k)) (ap not (sym c.has.ensures.value ∙ w.if-not-has.false))
    ])
