use Rattle.std.proofs.Common.{◌≡◌, ℕ, ◌<◌, ◌≤◌, slice_index}
use Rattle.ci_plan.proofs.plans.are_zeros_from.Given as goal

abbrev pub invariant-loop-place : goal.invariant-loop-place
invariant-loop-place l = (p : ℕ) → l.fn.first ≤ p → p < l.place → slice_index l.words p ≡ 0
