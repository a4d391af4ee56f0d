use Rattle.std.proofs.Common.{subst, sym}
use Rattle.ci_verilog.specs.Values.{expr_value}
use Rattle.ci_plan.specs.private.Drafts.{Stands}
use Rattle.ci_plan.proofs.names.Scope.expr.Goals as goal

pub returns-in_ok-one-in-One-clause-stands : goal.returns-in_ok-one-in-One-clause-stands
returns-in_ok-one-in-One-clause-stands c =
    subst (λ e. Stands c.args.self.now.module.now c.term.new.draft c.in_ok-one-in-One.one.place (λ names. expr_value names e)) (sym c.in-One.is)
    c.in_ok-one-in-One.ensures.found.stands
