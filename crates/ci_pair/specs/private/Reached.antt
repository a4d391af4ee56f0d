-- For private contracts: the gain that a walk over the prefixes of pairs has reached.
use Rattle.std.specs.Prelude.{◌≡◌, ℕ, ℤ, pos, ◌≤ℤ◌, ◌⊎◌, IsTrue}
use Rattle.ci_cut.specs.declared.graph.Limits.{Limits}
use Rattle.ci_cut.specs.FlowGraph.{FlowGraph}
use Rattle.ci_cut.specs.private.Reached as one
use Rattle.ci_pair.specs.Pairs.{NodePair, FitTogether, pair_gain, First, Second}
use Rattle.ci_pair.specs.Prefixes.{PairPrefix, choices, IsBefore}

-- the sets have what is labelled so, no node that is labelled otherwise, and no node in common
pub record Completes (graph : FlowGraph) (prefix : PairPrefix) (pair : NodePair) : Type 0 where
  pub first : one.Completes graph (choices First prefix) pair.first
  pub second : one.Completes graph (choices Second prefix) pair.second
  pub disjoint : (k : ℕ) → IsTrue (pair.first k) → ¬ IsTrue (pair.second k)

-- the greatest among 0 and the gains of these pairs
pub record IsReached (graph : FlowGraph) (limits : Limits) (Among : NodePair → Type 0) (reached : ℤ) : Type 0 where
  pub least : pos 0 ≤ℤ reached
  pub most : (pair : NodePair) → FitTogether graph limits pair → Among pair → pair_gain graph pair ≤ℤ reached
  pub found : (reached ≡ pos 0)
      ⊎ ((pair : NodePair) × FitTogether graph limits pair × Among pair × (pair_gain graph pair ≡ reached))

-- what the pairs before a prefix reach, and with them those that go on from it
abbrev pub IsReachedBefore : FlowGraph → Limits → PairPrefix → ℤ → Type 0
IsReachedBefore graph limits prefix reached = IsReached graph limits (λ pair. IsBefore graph pair prefix) reached

abbrev pub IsReachedBehind : FlowGraph → Limits → PairPrefix → ℤ → Type 0
IsReachedBehind graph limits prefix reached =
    IsReached graph limits (λ pair. IsBefore graph pair prefix ⊎ Completes graph prefix pair) reached
