-- For private contracts: what one loop of the hardware time finds: the maximum of the delays at the nodes among an
-- instruction's sources.
use Rattle.std.specs.Prelude.{◌≡◌, ℕ, ◌≤◌, ◌⊎◌, List, slice_index, IsTrue}
use Rattle.std.specs.List.{list_any}
use Rattle.ci_cut.specs.declared.graph.Source.{Source}
use Rattle.ci_cut.specs.declared.graph.Source.TheVariants.{Made}
use Rattle.ci_cut.specs.FlowGraph.{is_source}

-- node k is among the sources
abbrev pub HasMaker : List Source → ℕ → Type 0
HasMaker sources k = IsTrue (list_any (is_source (Made k)) sources)

-- the number is the maximum at the nodes among the sources, and 0 where there is none
pub record IsMaximumAt (delays : List ℕ) (sources : List Source) (most : ℕ) : Type 0 where
  pub bound : (k : ℕ) → HasMaker sources k → slice_index delays k ≤ most
  pub reached : (most ≡ 0) ⊎ ((k : ℕ) × HasMaker sources k × (slice_index delays k ≡ most))
