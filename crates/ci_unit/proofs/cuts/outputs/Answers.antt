use Rattle.std.proofs.Common.{length, sym, ap, ◌∙◌, arith, map}
use Rattle.std.specs.FinSet as set
use Rattle.ci_word.specs.Numbers.{count_below}
use Rattle.ci_word.proofs.NumberLaws.{count_below-zero, count_below-le, numbers_below-zero}
use Rattle.ci_cut.proofs.PortLaws.{counted, not_counted}
use Rattle.ci_cut.specs.Ports.{is_output}
use Rattle.ci_unit.proofs.CountLaws.{made_here, not_made}
use Rattle.ci_unit.proofs.cuts.outputs.Goals as goal
use Rattle.ci_unit.proofs.cuts.outputs.Goals.{then-has, else-has, then-is_output+in_ok-push, else-is_output}

pub loop-k-init : goal.loop-k-init
loop-k-init c = (
  sym (count_below-zero (set.contains c.args.cut.now)),
  c.new-outputs.ensures.items ∙ sym (ap (map _) (numbers_below-zero (is_output c.args.graph.now (set.contains c.args.cut.now)))),
)

pub overflow_cast-number : goal.overflow_cast-number
overflow_cast-number c =
    omega (
      arith,
      c.loop-k.invariant.0,
      count_below-le c.loop-k.k (set.contains c.args.cut.now),
      c.loop-k-test.true,
      ap length c.nodes-k-end.ensures.value,
      c.nodes-k-end.ensures.kept.few,
    )

pub overflow_add-number : goal.overflow_add-number
overflow_add-number c =
    omega (
      arith,
      c.loop-k.invariant.0,
      count_below-le c.loop-k.k (set.contains c.args.cut.now),
      c.loop-k-test.true,
      ap length c.nodes-k-end.ensures.value,
      c.nodes-k-end.ensures.kept.few,
    )

pub loop-k-preserved : goal.loop-k-preserved
loop-k-preserved c =
    let graph = c.args.graph.now in
    let cut = set.contains c.args.cut.now in
    let k = c.loop-k.k in (
      elim c.if-has.branch [
        | then-has w ↦ w.number-is ∙ counted k cut c.loop-k.number c.loop-k.invariant.0 (sym c.has.ensures.value ∙ w.if-has.true)
        | else-has w ↦ w.number-is ∙ not_counted k cut c.loop-k.number c.loop-k.invariant.0 (sym c.has.ensures.value ∙ w.if-has.false)
      ],
      elim c.if-is_output.branch [
        | then-is_output+in_ok-push w ↦
            ap (λ outputs. outputs.items) w.outputs-is ∙ w.in_ok-push.ensures.ok
            ∙ made_here (is_output graph cut) (λ j. count_below j cut) k c.loop-k.outputs.items c.loop-k.invariant.1 c.loop-k.number
            (sym c.is_output.ensures ∙ w.if-is_output.true) c.loop-k.invariant.0
        | else-is_output w ↦
            ap (λ outputs. outputs.items) w.outputs-is
            ∙ not_made (is_output graph cut) (λ j. count_below j cut) k c.loop-k.outputs.items c.loop-k.invariant.1
            (sym c.is_output.ensures ∙ w.if-is_output.false)
      ],
    )
