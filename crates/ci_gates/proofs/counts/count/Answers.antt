use Rattle.std.proofs.Common.{◌+◌, ◌<◌, length, take, sym, subst, ap, ◌∙◌, arith}
use Rattle.std.specs.List.{slice_index_or}
use Rattle.std.proofs.lemmas.List.{take_all}
use Rattle.ci_verilog.specs.Modules.{WireList, known_by}
use Rattle.ci_verilog.specs.private.Held.{ExprFits}
use Rattle.ci_gates.specs.Counts.{HasGates, HaveGates}
use Rattle.ci_gates.specs.private.Wired.{values_of}
use Rattle.ci_gates.proofs.WiredLaws.{wire_expr}
use Rattle.ci_gates.proofs.CountLaws.{wires_have_more}
use Rattle.ci_gates.proofs.ModuleLaws.{whole_count}
use Rattle.ci_gates.proofs.counts.count.Goals as goal

pub loop-wire-init : goal.loop-wire-init
loop-wire-init c = record { gates = HaveGates.none; few = omega arith }

pub expr_gates-sum-requires : goal.expr_gates-sum-requires
expr_gates-sum-requires c =
    let k = c.loop-wire.wire-index in
    let wire = c.wire-item.result in
    let same = c.as_slice-list.ensures.value ∙ ap (λ (w : WireList). w.list) c.wires-wires.ensures.value in
    let below : k < length c.args.module.now.wires.list = subst (λ ws. k < length ws) same (omega arith) in
    let found = c.wire-item.is ∙ ap (λ ws. slice_index_or ws k wire) same in
    subst (λ ws. ExprFits ws wire.value) (sym c.wires-wires.ensures.value)
    (wire.width, wire_expr c.args.module.now c.wires-wires.ensures.kept k wire below found)

pub loop-wire-preserved : goal.loop-wire-preserved
loop-wire-preserved c =
    let m = c.args.module.now in
    let k = c.loop-wire.wire-index in
    let wire = c.wire-item.result in
    let same = c.as_slice-list.ensures.value ∙ ap (λ (w : WireList). w.list) c.wires-wires.ensures.value in
    let below : k < length m.wires.list = subst (λ ws. k < length ws) same (omega arith) in
    let found = c.wire-item.is ∙ ap (λ ws. slice_index_or ws k wire) same in
    let before = subst (λ ws. HaveGates (known_by m.wires) (values_of (take k ws)) c.loop-wire.sum) same c.loop-wire.invariant.gates in
    let has = subst (λ ws. HasGates (known_by ws) wire.value c.expr_gates-sum.result) c.wires-wires.ensures.value c.expr_gates-sum.ensures.value in
    record {
      gates =
          subst (λ ws. HaveGates (known_by m.wires) (values_of (take (k + 1) ws)) (c.loop-wire.sum + c.expr_gates-sum.result)) (sym same)
          (wires_have_more (known_by m.wires) m.wires.list k wire c.loop-wire.sum c.expr_gates-sum.result below found before has);
      few = omega (arith, c.loop-wire.invariant.few, c.expr_gates-sum.ensures.most);
    }

pub returns : goal.returns
returns c =
    let m = c.args.module.now in
    let kind = c.wires-wires.ensures.value in
    let same = c.as_slice-list.ensures.value ∙ ap (λ (w : WireList). w.list) kind in
    let all = take_all c.loop-wire.wire-index c.as_slice-list.result.now (omega arith) ∙ same in
    record {
      value =
          whole_count m c.wires-wires.ensures.kept c.loop-wire.sum c.expr_gates.result c.expr_gates-2.result c.expr_gates-3.result
          (subst (λ ws. HaveGates (known_by m.wires) (values_of ws) c.loop-wire.sum) all c.loop-wire.invariant.gates)
          (subst (λ e. HasGates (known_by m.wires) e c.expr_gates.result) c.y.ensures
          (subst (λ ws. HasGates (known_by ws) c.y.result.now c.expr_gates.result) kind c.expr_gates.ensures.value))
          (subst (λ e. HasGates (known_by m.wires) e c.expr_gates-2.result) c.z.ensures
          (subst (λ ws. HasGates (known_by ws) c.z.result.now c.expr_gates-2.result) kind c.expr_gates-2.ensures.value))
          (subst (λ e. HasGates (known_by m.wires) e c.expr_gates-3.result) c.x.ensures
          (subst (λ ws. HasGates (known_by ws) c.x.result.now c.expr_gates-3.result) kind c.expr_gates-3.ensures.value));
      most =
          let few = c.wires-wires.ensures.kept.few in
          let many = ap length same in
          omega (
            arith,
            few,
            many,
            c.loop-wire.invariant.few,
            c.expr_gates.ensures.most,
            c.expr_gates-2.ensures.most,
            c.expr_gates-3.ensures.most,
          );
    }
