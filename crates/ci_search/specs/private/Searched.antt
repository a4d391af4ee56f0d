-- For private contracts: what a search has found at a prefix.
use Rattle.std.specs.Prelude.{◌≡◌, ℕ, suc, ◌-◌, ◌<ℤ◌, ◌⊎◌, List, length, Option, Some, None}
use Rattle.std.specs.List.{AllByRecursion}
use Rattle.std.specs.FinSet as set
use Rattle.ci_region.specs.BoundedMap.{BoundedMap}
use Rattle.ci_cut.specs.declared.graph.Limits.{Limits}
use Rattle.ci_cut.specs.FlowGraph.{FlowGraph}
use Rattle.ci_log.specs.declared.log.Item.{Item}
use Rattle.ci_log.specs.declared.log.Item.TheVariants.{B, O, C, I, G, F}
use Rattle.ci_log.specs.declared.flattening.LogNode.{LogNode}
use Rattle.ci_log.specs.Trees.{IsTree}
use Rattle.ci_cut.specs.declared.prefix.PrefixTerms.{PrefixTerms}
use Rattle.ci_cut.specs.declared.incumbent.Incumbent.{Incumbent}
use Rattle.ci_cut.specs.Prefixes.{Prefix, eligible_nodes, IsBefore}
use Rattle.ci_cut.specs.ListCounts.{AtLeast}
use Rattle.ci_cut.specs.Need.{IsOpen, NeedExceeds, continuations}
use Rattle.ci_check.specs.Rules.{Given, best_gain, IsAfterBest, IsRight, stations, IsRightAt}
use Rattle.ci_cut.specs.Representation.{Represents}
use Rattle.ci_check.specs.Representation.{IsMeasured}
use Rattle.ci_cut.specs.private.Reached.{Completes, IsReachedBefore}
use Rattle.ci_search.specs.Answered.{free}

-- how many nodes are undecided
abbrev pub undecided : FlowGraph → Prefix → ℕ
undecided graph prefix = eligible_nodes graph - length prefix

-- the terms and delays represent the prefix, and the best cut so far is that of the sets before it
pub record IsReady (graph : FlowGraph) (limits : Limits) (terms : PrefixTerms) (delays : List ℕ) (best : Incumbent)
    (prefix : Prefix) : Type 0 where
  pub represents : Represents graph prefix terms delays
  pub after_best : IsAfterBest graph best.cut prefix
  pub reached : IsReachedBefore graph limits prefix best.gain

-- ---- leaves

-- an item that rules out each set that goes on from a prefix where nodes are undecided
abbrev pub Prunes : Item → Type 0
Prunes B = ⊥
Prunes O = Unit {0}
Prunes C = Unit {0}
Prunes I = Unit {0}
Prunes G = Unit {0}
Prunes F = ⊥

-- the item that is found is right at the prefix; where none is found, none is
abbrev pub IsPruning : FlowGraph → Limits → Given → Prefix → Option Item → Type 0
IsPruning graph limits best prefix None = (item : Item) → Prunes item → ¬ IsRight graph limits best prefix item
IsPruning graph limits best prefix (Some item) = Prunes item × IsRight graph limits best prefix item

-- ---- the log of a prefix

-- this is the best cut so far, or a later one that gains more
abbrev pub IsLater : FlowGraph → Incumbent → Given → Type 0
IsLater graph best later = (later ≡ best.cut) ⊎ (best.gain <ℤ best_gain graph later)

-- the best cut comes before the prefix, or goes on from it
abbrev pub IsPassed : FlowGraph → Prefix → Given → Type 0
IsPassed graph prefix None = Unit {0}
IsPassed graph prefix (Some cut) =
    IsBefore graph (set.contains cut) prefix ⊎ Completes graph prefix (set.contains cut)

-- From one best cut to another the sets that go on from the prefix were passed. The items are right for the latter, and
-- for each that gains more.
pub record IsLogged (graph : FlowGraph) (limits : Limits) (prefix : Prefix) (before after : Incumbent)
    (items : List Item)
    : Type 0 where
  pub measured : IsMeasured graph limits after
  pub grows : (after ≡ before) ⊎ (before.gain <ℤ after.gain)
  pub passed : IsPassed graph prefix after.cut
  pub tree : IsTree items
  pub right : (later : Given) → IsLater graph after later →
      AllByRecursion (IsRightAt graph limits later) (stations tree prefix)

-- more prefixes are open from this one on than slots were free
abbrev pub IsSpentAt : FlowGraph → Limits → Prefix → BoundedMap LogNode → BoundedMap LogNode → Type 0
IsSpentAt graph limits prefix before after =
    (after.capacity ≡ before.capacity)
    × AtLeast (IsOpen graph limits) (suc (free before)) (continuations (undecided graph prefix) prefix)

-- more prefixes are open than slots were free, and the region holds what it held
abbrev pub IsGivenUp : FlowGraph → Limits → BoundedMap LogNode → BoundedMap LogNode → Type 0
IsGivenUp graph limits before after = (after ≡ before) × NeedExceeds graph limits (free before)
