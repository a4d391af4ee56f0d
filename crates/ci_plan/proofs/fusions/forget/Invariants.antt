use Rattle.std.proofs.Common.{◌≡◌, ℕ, ◌<◌, ◌≤◌, length, Option, slice_index_or}
use Rattle.ci_plan.specs.declared.founds.Found.{Found}
use Rattle.ci_plan.specs.private.Fusions.{IsLeft}
use Rattle.ci_plan.proofs.fusions.forget.Given as goal

abbrev pub invariant-loop-k : goal.invariant-loop-k
invariant-loop-k l = record {
  room : length l.found ≡ length l.fn.found;
  before : (j : ℕ) (d : Option Found) → j < l.k → IsLeft l.fn.first l.fn.end (slice_index_or l.fn.found j d) (slice_index_or l.found j d);
  behind : (j : ℕ) (d : Option Found) → l.k ≤ j → slice_index_or l.found j d ≡ slice_index_or l.fn.found j d;
}
