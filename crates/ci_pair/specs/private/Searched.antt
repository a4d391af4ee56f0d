-- For private contracts: what a search for pairs has found at a prefix.
use Rattle.std.specs.Prelude.{◌≡◌, ◌<ℤ◌, ◌≤ℤ◌, ◌⊎◌, List, Option, Some, None}
use Rattle.std.specs.List.{AllByRecursion}
use Rattle.ci_cut.specs.declared.graph.Limits.{Limits}
use Rattle.ci_cut.specs.FlowGraph.{FlowGraph}
use Rattle.ci_pair.specs.declared.log.PairItem.{PairItem}
use Rattle.ci_pair.specs.declared.log.PairItem.TheVariants.{B, O, C, I, X, M, G, F}
use Rattle.ci_pair.specs.declared.pair.Pair.{Pair}
use Rattle.ci_pair.specs.declared.rules.PairIncumbent.{PairIncumbent}
use Rattle.ci_pair.specs.Pairs.{FitTogether, pair_gain}
use Rattle.ci_pair.specs.Prefixes.{PairPrefix, IsBefore}
use Rattle.ci_pair.specs.private.Reached.{Completes}
use Rattle.ci_pair.specs.PairSets.{sets, given}
use Rattle.ci_pair.specs.Trees.{IsTree}
use Rattle.ci_pair.specs.private.Judged.{IsMeasured}
use Rattle.ci_pair.specs.Rules.{Given, best_gain, IsRight, stations, IsRightAt}

-- an item that rules out each pair that goes on from a prefix where nodes are undecided
abbrev pub Prunes : PairItem → Type 0
Prunes B = ⊥
Prunes O = Unit {0}
Prunes C = Unit {0}
Prunes I = Unit {0}
Prunes X = Unit {0}
Prunes M = Unit {0}
Prunes G = Unit {0}
Prunes F = ⊥

-- the item that is found is right at the prefix; where none is found, none is
abbrev pub IsPruning : FlowGraph → Limits → Given → PairPrefix → Option PairItem → Type 0
IsPruning graph limits best prefix None = (item : PairItem) → Prunes item → ¬ IsRight graph limits best prefix item
IsPruning graph limits best prefix (Some item) = Prunes item × IsRight graph limits best prefix item

-- what is labelled so is within the outputs and convex in each set, and walks lead one way at most
pub record IsUnclosed (graph : FlowGraph) (limits : Limits) (prefix : PairPrefix) : Type 0 where
  pub outputs : ¬ IsRight graph limits None prefix O
  pub convex : ¬ IsRight graph limits None prefix C
  pub one_way : ¬ IsRight graph limits None prefix X

-- this is the best pair so far, or a later one that gains more
abbrev pub IsLater : FlowGraph → PairIncumbent → Given → Type 0
IsLater graph best later = (later ≡ given best.pair) ⊎ (best.gain <ℤ best_gain graph later)

-- the best pair comes before the prefix, or goes on from it
abbrev pub IsPassed : FlowGraph → PairPrefix → Given → Type 0
IsPassed graph prefix None = Unit {0}
IsPassed graph prefix (Some pair) = IsBefore graph pair prefix ⊎ Completes graph prefix pair

-- From one best pair to another the pairs that go on from the prefix were passed. The items are right for the latter,
-- and for each that gains more.
pub record IsLogged (graph : FlowGraph) (limits : Limits) (prefix : PairPrefix) (before after : PairIncumbent)
    (items : List PairItem) : Type 0 where
  pub measured : IsMeasured graph limits after
  pub grows : (after ≡ before) ⊎ (before.gain <ℤ after.gain)
  pub passed : IsPassed graph prefix (given after.pair)
  pub tree : IsTree items
  pub right : (later : Given) → IsLater graph after later →
      AllByRecursion (IsRightAt graph limits later) (stations tree prefix)

-- the pair where it fits together and gains more, and else the best pair so far
abbrev pub IsImproved : FlowGraph → Limits → PairIncumbent → Pair → PairIncumbent → Type 0
IsImproved graph limits before pair after =
    ((after ≡ before) × (FitTogether graph limits (sets pair) → pair_gain graph (sets pair) ≤ℤ before.gain))
    ⊎ ((after.pair ≡ Some pair) × FitTogether graph limits (sets pair) × (after.gain ≡ pair_gain graph (sets pair))
    × (before.gain <ℤ after.gain))
