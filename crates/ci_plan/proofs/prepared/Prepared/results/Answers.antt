use Rattle.std.proofs.Common.{[], ◌∷◌, ◌<◌, ◌^◌, All, rules, subst}
use Rattle.ci_verilog.specs.Values.{IsValueOf}
use Rattle.ci_plan.proofs.PlanLaws.{run_value, plan_there}
use Rattle.ci_plan.proofs.prepared.Prepared.results.Goals as goal

pub returns-in-Some-clause-value : goal.returns-in-Some-clause-value
returns-in-Some-clause-value c =
    let m = c.self.inside.module.now in
    let arguments = c.args.a ∷ c.args.b ∷ c.args.c ∷ c.args.d ∷ c.args.e ∷ [] in
    let words : All (λ n. n < 2 ^ 32) arguments = search rules in
    subst (λ of. IsValueOf of arguments (c.run.result.0 ∷ c.run.result.1 ∷ c.run.result.2 ∷ [])) c.self.view_is
    (run_value m c.in-Some.plan arguments c.run.result c.wires-wires.ensures.kept
    (plan_there m c.self.inside.plan c.in-Some.plan c.in-Some.is c.self.invariant) words c.run.ensures)
