use Rattle.std.proofs.Common.{◌≡◌, ◌<◌, length, sym, ap, ◌∙◌, subst, map, All, arith}
use Rattle.std.specs.FinSet as set
use Rattle.std.proofs.lemmas.List.{get_or_read}
use Rattle.std.proofs.lemmas.List.Elements.{All-nil, All-push}
use Rattle.ci_word.proofs.NumberLaws.{numbers_below-zero}
use Rattle.ci_isa.specs.declared.instruction.Insn.TheVariants.{Ebreak}
use Rattle.ci_isa.specs.Effects.{operands}
use Rattle.ci_cut.proofs.NodeLaws.{node_there}
use Rattle.ci_unit.specs.private.Reading.{HasWords}
use Rattle.ci_unit.specs.Units.{op_of, operation_of, args_from}
use Rattle.ci_unit.proofs.CountLaws.{made_here, not_made}
use Rattle.ci_unit.proofs.cuts.operations.Goals as goal
use Rattle.ci_unit.proofs.cuts.operations.Goals.{then-has+in_ok-push, else-has}

pub loop-k-init : goal.loop-k-init
loop-k-init c = (
  subst (All HasWords) (sym c.new-ops.ensures.items) (All-nil HasWords),
  c.new-ops.ensures.items ∙ sym (ap (map _) (numbers_below-zero (set.contains c.args.cut.now))),
)

pub loop-k-preserved : goal.loop-k-preserved
loop-k-preserved c =
    let graph = c.args.graph.now in
    let cut = set.contains c.args.cut.now in
    let insns = c.args.insns.now in
    let inputs = c.args.inputs.now in
    let k = c.loop-k.k in
    let read = node_there graph c.nodes-node-items.result.now k c.node-item.result c.nodes-node-items.ensures.value c.loop-k-test.true c.node-item.is in
    elim c.if-has.branch [
      | then-has+in_ok-push w ↦
          let sources = w.as_slice.ensures ∙ ap (λ node. node.sources) (sym read) in
          let below : k < length insns = omega (arith, c.loop-k-test.true, ap length c.nodes-node-items.ensures.value, c.requires.same_length) in
          let insn = get_or_read insns k w.index-insns-k.result below w.index-insns-k.is Ebreak in
          let value : w.operation.result ≡ op_of insns graph cut inputs k =
          w.operation.ensures.value ∙ (λ i. operation_of (insn i) (args_from cut inputs (operands (insn i)) (sources i))) in
          let pushed = ap (λ ops. ops.items) w.ops-is ∙ w.in_ok-push.ensures.items in (
            subst (All HasWords) (sym pushed) (All-push HasWords c.loop-k.ops.items w.operation.result c.loop-k.invariant.0 w.operation.ensures.words),
            pushed ∙ made_here cut (op_of insns graph cut inputs) k c.loop-k.ops.items c.loop-k.invariant.1 w.operation.result
                (sym c.has.ensures.value ∙ w.if-has.true) value,
          )
      | else-has w ↦ (
        subst (λ ops. All HasWords ops.items) (sym w.ops-is) c.loop-k.invariant.0,
        ap (λ ops. ops.items) w.ops-is
            ∙ not_made cut (op_of insns graph cut inputs) k c.loop-k.ops.items c.loop-k.invariant.1 (sym c.has.ensures.value ∙ w.if-has.false),
      )
    ]
