use Rattle.std.proofs.Common.{sym, ap, ◌∙◌, subst, All}
use Rattle.std.specs.FinSet as set
use Rattle.std.proofs.lemmas.List.Elements.{All-nil}
use Rattle.ci_cut.proofs.NodeLaws.{node_there}
use Rattle.ci_unit.specs.private.Reading.{with_inputs, IsSmall}
use Rattle.ci_unit.proofs.ReadingLaws.{inputs_more, inputs_kept, inputs_below-zero}
use Rattle.ci_unit.proofs.cuts.inputs_of.Goals as goal
use Rattle.ci_unit.proofs.cuts.inputs_of.Goals.{then-has+in_ok-push_inputs, else-has}

pub loop-k-init : goal.loop-k-init
loop-k-init c = (
  c.new-inputs.ensures ∙ sym (inputs_below-zero c.args.graph.now (set.contains c.args.cut.now)),
  subst (All IsSmall) (sym c.new-inputs.ensures) (All-nil IsSmall),
)

pub loop-k-preserved : goal.loop-k-preserved
loop-k-preserved c =
    let graph = c.args.graph.now in
    let cut = set.contains c.args.cut.now in
    let k = c.loop-k.k in
    let read = node_there graph c.nodes-node-items.result.now k c.node-item.result c.nodes-node-items.ensures.value c.loop-k-test.true c.node-item.is in
    elim c.if-has.branch [
      | then-has+in_ok-push_inputs w ↦
          let sources = w.as_slice.ensures ∙ ap (λ node. node.sources) (sym read) in (
            w.inputs-is ∙ w.in_ok-push_inputs.ensures.value ∙ (λ i. with_inputs cut (c.loop-k.invariant.0 i) (sources i))
                ∙ inputs_more graph cut k (sym c.has.ensures.value ∙ w.if-has.true),
            subst (All IsSmall) (sym w.inputs-is) (w.in_ok-push_inputs.ensures.small c.loop-k.invariant.1),
          )
      | else-has w ↦ (
        w.inputs-is ∙ c.loop-k.invariant.0 ∙ inputs_kept graph cut k (sym c.has.ensures.value ∙ w.if-has.false),
        subst (All IsSmall) (sym w.inputs-is) c.loop-k.invariant.1,
      )
    ]
