use Rattle.std.proofs.Common.{sym, subst, ap, ◌∙◌}
use Rattle.std.proofs.lemmas.Result.{IfOk-weaker}
use Rattle.ci_verilog.specs.Values.{expr_value}
use Rattle.ci_verilog.specs.Modules.{wires_of, known_by, IsExpr}
use Rattle.ci_gates.specs.Counts.{HasGates}
use Rattle.ci_gates.proofs.ExpressionLaws.{one_makes}
use Rattle.ci_gates.proofs.scopes.Scope.expr.Goals as goal

pub returns-in-One-clause-makes : goal.returns-in-One-clause-makes
returns-in-One-clause-makes c =
    let wires = wires_of c.args.self.now.wide c.args.self.now.wires.now in
    IfOk-weaker c.term.result _ _
    (λ v stands n w has is.
    one_makes wires c.args.self.now.words.now v.items c.in-One.term c.args.builder.now n w c.requires.held stands c.requires.words_are
    (subst (λ e. HasGates (known_by wires) e n) c.in-One.is has) (subst (λ e. IsExpr (known_by wires) e w) c.in-One.is is))
    c.term.ensures

pub returns-in-One-clause-value : goal.returns-in-One-clause-value
returns-in-One-clause-value c =
    IfOk-weaker c.term.result _ _
    (λ v stands arguments gives names settled holds.
    ap (λ u. u.value) (stands.value arguments gives names holds) ∙ ap (expr_value names) (sym c.in-One.is))
    c.term.ensures
