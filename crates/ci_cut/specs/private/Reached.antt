-- For private contracts: the sets that go on from a prefix, and the gain that a walk over the prefixes has reached.
use Rattle.std.specs.Prelude.{◌≡◌, ℕ, ◌≤◌, Bool, ℤ, pos, ◌≤ℤ◌, ◌⊎◌, IsTrue}
use Rattle.ci_cut.specs.declared.graph.Limits.{Limits}
use Rattle.ci_cut.specs.FlowGraph.{FlowGraph}
use Rattle.ci_cut.specs.Walks.{IsConvex}
use Rattle.ci_cut.specs.Ports.{outputs}
use Rattle.ci_cut.specs.Gain.{Fits, gain}
use Rattle.ci_cut.specs.Prefixes.{Prefix, taken, possible, settled_inputs, IsBefore}

-- the set has what the prefix takes in, and eligible nodes that it doesn't leave out
pub record Completes (graph : FlowGraph) (prefix : Prefix) (cut : ℕ → Bool) : Type 0 where
  pub has : (k : ℕ) → IsTrue (taken graph prefix k) → IsTrue (cut k)
  pub within : (k : ℕ) → IsTrue (cut k) → IsTrue (possible graph prefix k)

-- the set that the prefix takes in is convex, and its outputs and settled inputs are within the limits
pub record IsBounded (graph : FlowGraph) (limits : Limits) (prefix : Prefix) : Type 0 where
  pub convex : IsConvex graph (taken graph prefix)
  pub outputs_within : outputs graph (taken graph prefix) ≤ limits.outputs
  pub inputs_within : settled_inputs graph prefix ≤ limits.inputs

-- the greatest among 0 and the gains of these sets that fit
pub record IsReached (graph : FlowGraph) (limits : Limits) (Among : (ℕ → Bool) → Type 0) (reached : ℤ) : Type 0 where
  pub least : pos 0 ≤ℤ reached
  pub most : (cut : ℕ → Bool) → Fits graph limits cut → Among cut → gain graph cut ≤ℤ reached
  pub found : (reached ≡ pos 0) ⊎ ((cut : ℕ → Bool) × Fits graph limits cut × Among cut × (gain graph cut ≡ reached))

-- what the sets before a prefix reach, and with them those that go on from it
abbrev pub IsReachedBefore : FlowGraph → Limits → Prefix → ℤ → Type 0
IsReachedBefore graph limits prefix reached = IsReached graph limits (λ cut. IsBefore graph cut prefix) reached

abbrev pub IsReachedBehind : FlowGraph → Limits → Prefix → ℤ → Type 0
IsReachedBehind graph limits prefix reached =
    IsReached graph limits (λ cut. IsBefore graph cut prefix ⊎ Completes graph prefix cut) reached

-- one set more is looked at
pub record IsReachedWith (graph : FlowGraph) (limits : Limits) (cut : ℕ → Bool) (before reached : ℤ) : Type 0 where
  pub kept : before ≤ℤ reached
  pub most : Fits graph limits cut → gain graph cut ≤ℤ reached
  pub found : (reached ≡ before) ⊎ (Fits graph limits cut × (gain graph cut ≡ reached))
