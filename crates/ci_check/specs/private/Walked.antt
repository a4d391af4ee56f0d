-- For private contracts: what a walk over the prefixes has found.
use Rattle.std.specs.Prelude.{◌≡◌, ℕ, ◌+◌, ◌≤◌}
use Rattle.ci_cut.specs.declared.graph.Limits.{Limits}
use Rattle.ci_cut.specs.FlowGraph.{FlowGraph}
use Rattle.ci_cut.specs.ListCounts.{AtLeast}
use Rattle.ci_cut.specs.Prefixes.{Prefix}
use Rattle.ci_cut.specs.Need.{IsOpen, continuations}
use Rattle.ci_cut.specs.private.Reached.{IsReachedBehind}
use Rattle.ci_check.specs.declared.need.Walked.{Walked}

-- The walk from a prefix on, with so many nodes undecided: it found open prefixes, and all of them, and what is reached
-- behind it, unless there are more than the budget.
pub record IsWalked (graph : FlowGraph) (limits : Limits) (budget undecided : ℕ) (prefix : Prefix)
    (before after : Walked) : Type 0 where
  pub count : ℕ
  pub is_open : after.open ≡ before.open + count
  pub found : AtLeast (IsOpen graph limits) count (continuations undecided prefix)
  pub all : after.open ≤ budget → (n : ℕ) → AtLeast (IsOpen graph limits) n (continuations undecided prefix) → n ≤ count
  pub reached : after.open ≤ budget → IsReachedBehind graph limits prefix after.reached
