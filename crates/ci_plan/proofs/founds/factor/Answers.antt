use Rattle.std.proofs.Common.{◌+◌, ◌*◌, ◌%◌, ◌^◌, ◌∙◌, ap}
use Rattle.ci_plan.proofs.StepLaws.{factor_next}
use Rattle.ci_plan.proofs.founds.factor.Goals as goal

pub loop-k-preserved : goal.loop-k-preserved
loop-k-preserved c =
    let sum = c.loop-k.sum in
    ap (λ n. (sum + n) % 2 ^ 64) c.shifted_left-sum.ensures
    ∙ ap (λ n. (sum + 1 * 2 ^ n % 2 ^ 64) % 2 ^ 64) c.from.ensures
    ∙ factor_next c.loop-k.k c.args.width sum c.loop-k.invariant
