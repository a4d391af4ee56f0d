use Rattle.std.proofs.Common.{ℕ, ◌<◌, slice_index_or}
use Rattle.ci_plan.specs.declared.steps.Step.{Step}
use Rattle.ci_plan.specs.private.Steps.{IsStep}
use Rattle.ci_plan.proofs.plans.are_within.Given as goal

abbrev pub invariant-loop-step : goal.invariant-loop-step
invariant-loop-step l = (k : ℕ) (d : Step) → k < l.step-index → IsStep l.fn.top (slice_index_or l.steps k d)
