-- The best cut of a block, among all sets of its nodes.
use Rattle.std.specs.Prelude.{◌≡◌, ℕ, ◌<◌, ◌≤◌, Bool, true, false, pos, ◌<ℤ◌, ◌≤ℤ◌, ◌⊎◌}
use Rattle.ci_cut.specs.declared.graph.Limits.{Limits}
use Rattle.ci_cut.specs.FlowGraph.{FlowGraph}
use Rattle.ci_cut.specs.Gain.{Fits, gain}

-- sets compared from the last node to the first, with "in" before "out": at the greatest number in which they differ,
-- the first has it
pub record ComesBefore (first second : ℕ → Bool) : Type 0 where
  pub place : ℕ
  pub in_first : first place ≡ true
  pub not_in_second : second place ≡ false
  pub same_above : (k : ℕ) → place < k → first k ≡ second k

-- the same, where sets are compared down to a number alone
abbrev pub ComesBeforeFrom : ℕ → (ℕ → Bool) → (ℕ → Bool) → Type 0
ComesBeforeFrom from first second = (before : ComesBefore first second) × (from ≤ before.place)

abbrev pub IsSameSet : (ℕ → Bool) → (ℕ → Bool) → Type 0
IsSameSet s t = (k : ℕ) → s k ≡ t k

-- no other set that fits gains more, and none of those that gain as much comes before
pub record IsBest (graph : FlowGraph) (limits : Limits) (cut : ℕ → Bool) : Type 0 where
  pub fits : Fits graph limits cut
  pub positive : pos 0 <ℤ gain graph cut
  pub best : (other : ℕ → Bool) → Fits graph limits other →
      (gain graph other <ℤ gain graph cut)
      ⊎ ((gain graph other ≡ gain graph cut) × (IsSameSet cut other ⊎ ComesBefore cut other))

-- no set that fits has a positive gain
abbrev pub HasNoCut : FlowGraph → Limits → Type 0
HasNoCut graph limits = (cut : ℕ → Bool) → Fits graph limits cut → gain graph cut ≤ℤ pos 0
