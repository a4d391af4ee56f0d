-- Open prefixes, and how many of them leave a node undecided.
use Rattle.std.specs.Prelude.{ℕ, zero, suc, ◌≤◌, Bool, true, false, pos, ◌<ℤ◌, List, [], ◌∷◌, ◌++◌}
use Rattle.ci_cut.specs.declared.graph.Limits.{Limits}
use Rattle.ci_cut.specs.FlowGraph.{FlowGraph}
use Rattle.ci_cut.specs.Walks.{IsConvex}
use Rattle.ci_cut.specs.Ports.{outputs}
use Rattle.ci_cut.specs.Gain.{Fits, gain}
use Rattle.ci_cut.specs.ListCounts.{AtLeast, AreJust}
use Rattle.ci_cut.specs.Prefixes.{Prefix, eligible_nodes, taken, settled_inputs, bound, IsBefore}

-- the bound is greater than the reached gain, the greatest among 0 and the gains of the sets that fit and come before
pub record IsAboveReached (graph : FlowGraph) (limits : Limits) (prefix : Prefix) : Type 0 where
  pub above_none : pos 0 <ℤ bound graph prefix
  pub above_each : (cut : ℕ → Bool) → Fits graph limits cut → IsBefore graph cut prefix →
      gain graph cut <ℤ bound graph prefix

-- nothing rules out yet that a set that goes on from the prefix fits and gains more than what was reached
pub record IsOpen (graph : FlowGraph) (limits : Limits) (prefix : Prefix) : Type 0 where
  pub convex : IsConvex graph (taken graph prefix)
  pub outputs_within : outputs graph (taken graph prefix) ≤ limits.outputs
  pub inputs_within : settled_inputs graph prefix ≤ limits.inputs
  pub above_reached : IsAboveReached graph limits prefix

-- ---- their number

-- all prefixes that go on from this one, itself among them, by fewer decisions than there are nodes undecided
unfoldable pub continuations : ℕ → Prefix → List Prefix
continuations zero prefix = []
continuations (suc undecided) prefix =
    prefix ∷ (continuations undecided (true ∷ prefix) ++ continuations undecided (false ∷ prefix))

-- all prefixes that leave a node undecided
abbrev pub unfinished_prefixes : FlowGraph → List Prefix
unfinished_prefixes graph = continuations (eligible_nodes graph) []

-- the need of the graph: so many of them are open, and no more
abbrev pub IsNeed : FlowGraph → Limits → ℕ → Type 0
IsNeed graph limits need = AreJust (IsOpen graph limits) need (unfinished_prefixes graph)

-- the need of the graph is greater than this
abbrev pub NeedExceeds : FlowGraph → Limits → ℕ → Type 0
NeedExceeds graph limits budget = AtLeast (IsOpen graph limits) (suc budget) (unfinished_prefixes graph)
