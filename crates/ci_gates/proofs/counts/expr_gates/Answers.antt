use Rattle.std.proofs.Common.{◌*◌, sym, subst}
use Rattle.ci_verilog.specs.Modules.{known_by}
use Rattle.ci_gates.specs.Counts.{HasGates}
use Rattle.ci_gates.proofs.counts.expr_gates.Goals as goal

pub returns-in-One-clause-value : goal.returns-in-One-clause-value
returns-in-One-clause-value c = subst (λ e. HasGates (known_by c.args.wires.now) e 0) (sym c.in-One.is) HasGates.one

pub returns-in-Two-clause-value : goal.returns-in-Two-clause-value
returns-in-Two-clause-value c =
    let known = known_by c.args.wires.now in
    subst (λ e. HasGates known e c.operator_gates.result) (sym c.in-Two.is)
    (subst (HasGates known _) (sym c.operator_gates.ensures.value) (HasGates.two c.width.ensures.width c.width-in-Two.ensures.width))

pub returns-in-Choose-clause-value : goal.returns-in-Choose-clause-value
returns-in-Choose-clause-value c =
    subst (λ e. HasGates (known_by c.args.wires.now) e (3 * c.width-in-Choose.result)) (sym c.in-Choose.is)
    (HasGates.choose c.width-in-Choose.ensures.width)
