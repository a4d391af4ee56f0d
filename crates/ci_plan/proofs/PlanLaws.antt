-- What a run of a plan gives.
use Rattle.std.specs.Prelude.{◌≡◌, ℕ, ◌%◌, ◌^◌, ◌<◌, List, [], ◌∷◌, map, All, IfSome, Option, Some}
use Rattle.std.proofs.Common.{refl, ap, ◌∙◌, subst, arith}
use Rattle.std.proofs.Math.Nat.{mod-eq_of_lt}
use Rattle.ci_verilog.specs.Modules.{Module, IsModule}
use Rattle.ci_verilog.specs.Values.{expr_value, results_of, IsValueOf}
use Rattle.ci_verilog.proofs.ValueLaws.{settled_for, values_are_words}
use Rattle.ci_plan.specs.declared.plans.Plan.{Plan}
use Rattle.ci_plan.specs.private.Drafts.{Run}
use Rattle.ci_plan.specs.private.Plans.{IsPlanOf, IsRun}

pub run_value : (m : Module) (plan : Plan) (arguments : List ℕ) (results : ℕ × ℕ × ℕ) → IsModule m → IsPlanOf m plan
    → All (λ n. n < 2 ^ 32) arguments → IsRun plan arguments results
    → IsValueOf m arguments (results.0 ∷ results.1 ∷ results.2 ∷ [])
run_value m plan arguments results is of are_words run =
    let (names, settled) = settled_for m is arguments in
    let whole : Run m plan.draft =
    record { arguments = arguments; words = run.words; names = names; opens = run.opens; are_words = are_words; settles = settled } in
    let due = map (expr_value names) (results_of m) in
    let words : All (λ n. n < 2 ^ 32) due =
    values_are_words m is arguments due are_words (record { names = names; settled = settled; results_are = refl }) in
    record {
      names = names;
      settled = settled;
      results_are =
          λ t. (run.y ∙ ap (λ n. n % 2 ^ 32) (of.y.is whole) ∙ mod-eq_of_lt (words 0 0 (omega arith))) t
          ∷ (run.z ∙ ap (λ n. n % 2 ^ 32) (of.z.is whole) ∙ mod-eq_of_lt (words 1 0 (omega arith))) t
          ∷ (run.x ∙ ap (λ n. n % 2 ^ 32) (of.x.is whole) ∙ mod-eq_of_lt (words 2 0 (omega arith))) t ∷ [];
    }

-- of the plan that is there
pub plan_there : (m : Module) (o : Option Plan) (plan : Plan) → o ≡ Some plan → IfSome o (IsPlanOf m) → IsPlanOf m plan
plan_there m o plan there is = subst (λ p. IfSome p (IsPlanOf m)) there is
