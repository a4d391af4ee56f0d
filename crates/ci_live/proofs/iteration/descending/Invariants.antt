use Rattle.std.proofs.Common.{ℕ, ◌<◌, ◌≤◌}
use Rattle.std.specs.List.{All, Contains}
use Rattle.ci_live.proofs.iteration.descending.Given as goal

abbrev pub invariant-loop-number : goal.invariant-loop-number
invariant-loop-number l = record {
  below : All (λ k. k < l.count) l.numbers.items;
  all : (k : ℕ) → l.number ≤ k → k < l.count → Contains l.numbers.items k;
}
