use Rattle.std.proofs.Common.{◌≡◌, ◌||◌, sym, ap, ◌∙◌, arith, length}
use Rattle.std.proofs.Math.Bool.{and-false}
use Rattle.std.specs.FinSet as set
use Rattle.ci_word.proofs.NumberLaws.{count_below-zero, count_below-le}
use Rattle.ci_cut.specs.declared.graph.Source.TheVariants.{Made}
use Rattle.ci_cut.specs.Ports.{is_output}
use Rattle.ci_cut.proofs.NodeLaws.{node_there}
use Rattle.ci_cut.proofs.PortLaws.{counted, not_counted, is_output-at}
use Rattle.ci_cut.proofs.ports.outputs.Goals as goal
use Rattle.ci_cut.proofs.ports.outputs.Goals.{then-node, else-node, then-wanted+then-has, else-wanted}
use Rattle.ci_cut.proofs.ports.outputs.Goals.{else-wanted-via-then-wanted+else-has, else-wanted-via-else-wanted}

pub loop-k-init : goal.loop-k-init
loop-k-init c = sym (count_below-zero _)

pub overflow_add-count : goal.overflow_add-count
overflow_add-count c =
    let few = c.nodes-node-items.ensures.kept.few in
    let same = ap length c.nodes-node-items.ensures.value in
    omega (arith, c.loop-k.invariant, count_below-le c.loop-k.k (is_output c.args.graph.now (set.contains c.args.cut.now)))

pub loop-k-preserved : goal.loop-k-preserved
loop-k-preserved c =
    let here = node_there c.args.graph.now _ c.loop-k.k _ c.nodes-node-items.ensures.value c.loop-k-test.true c.node-item.is in
    let wanted : c.if-node.wanted ≡ (c.node-item.result.live || set.contains c.read_by-read.result.nodes c.loop-k.k) = elim c.if-node.branch [
      | then-node w ↦ rw (w.wanted-is, w.if-node.true)
      | else-node w ↦ rw (w.wanted-is, w.if-node.false, w.has-wanted.ensures.value)
    ] in
    let value = is_output-at c.args.graph.now (set.contains c.args.cut.now) c.loop-k.k _ _ _ here (c.read_by-read.ensures (Made c.loop-k.k)) wanted in
    elim c.if-wanted.branch [
      | then-wanted+then-has w ↦ rw w.count-is (counted c.loop-k.k _ _ c.loop-k.invariant (value ∙ rw (← w.has.ensures.value, w.if-has.true, w.if-wanted.true)))
      | else-wanted w ↦ rw w.count-is (not_counted c.loop-k.k _ _ c.loop-k.invariant (value ∙ elim w.else-wanted.branch [
        | else-wanted-via-then-wanted+else-has w' ↦ rw (← w'.has.ensures.value, w'.if-has.false)
        | else-wanted-via-else-wanted w' ↦ rw w'.if-wanted.false (and-false _)
      ]))
    ]
