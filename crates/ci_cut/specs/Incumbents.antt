-- For the contracts of searches: the best cut so far, and one set more.
use Rattle.std.specs.Prelude.{◌≡◌, ◌≤ℤ◌, ◌<ℤ◌, ◌⊎◌, Some}
use Rattle.std.specs.Ordering.{nat_cmp}
use Rattle.std.specs.FinSet as set
use Rattle.ci_cut.specs.declared.graph.Limits.{Limits}
use Rattle.ci_cut.specs.declared.incumbent.Incumbent.{Incumbent}
use Rattle.ci_cut.specs.FlowGraph.{FlowGraph}
use Rattle.ci_cut.specs.Gain.{Fits, gain}

-- the set where it fits and gains more, and else the best cut so far
abbrev pub IsImproved : FlowGraph → Limits → Incumbent → set.FinSet nat_cmp → Incumbent → Type 0
IsImproved graph limits before cut after =
    ((after ≡ before) × (Fits graph limits (set.contains cut) → gain graph (set.contains cut) ≤ℤ before.gain))
    ⊎ ((after.cut ≡ Some cut) × Fits graph limits (set.contains cut) × (after.gain ≡ gain graph (set.contains cut))
    × (before.gain <ℤ after.gain))
