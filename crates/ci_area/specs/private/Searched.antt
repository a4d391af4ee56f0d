-- For private contracts: what a search has found at a prefix.
use Rattle.std.specs.Prelude.{◌≡◌, ℕ, suc, ◌+◌, ◌<◌, ◌≤◌, Bool, ◌⊎◌, List, ◌∷◌, ◌++◌, Option, Some, None}
use Rattle.std.specs.Prelude.{MatchOption}
use Rattle.std.specs.List.{AllByRecursion}
use Rattle.std.specs.FinSet as set
use Rattle.ci_region.specs.BoundedMap.{BoundedMap, used}
use Rattle.ci_cut.specs.Best.{ComesBefore, IsSameSet}
use Rattle.ci_cut.specs.ListCounts.{AtLeast}
use Rattle.ci_area.specs.declared.flattening.AreaChild.{AreaChild}
use Rattle.ci_area.specs.declared.flattening.AreaNode.{AreaNode}
use Rattle.ci_area.specs.declared.log.AreaItem.{AreaItem}
use Rattle.ci_area.specs.declared.log.AreaItem.TheVariants.{B, A, G, F}
use Rattle.ci_area.specs.declared.piece.Piece.{Piece}
use Rattle.ci_area.specs.declared.rules.Incumbent.{Incumbent}
use Rattle.ci_area.specs.Pieces.{area, gain}
use Rattle.ci_area.specs.AreaPrefixes.{Prefix, undecided, taken, IsRate}
use Rattle.ci_area.specs.AreaNeed.{IsOpen, continuations}
use Rattle.ci_area.specs.AreaAnswered.{free}
use Rattle.ci_area.specs.AreaRegionTrees.{Slots, IsTreeIn, LiesIn}
use Rattle.ci_area.specs.AreaRules.{IsBetter, IsRight, GainsTooLittle, stations, IsRightAt}
use Rattle.ci_area.specs.AreaTrees.{IsTree}
use Rattle.ci_area.specs.Representation.{IsMeasured}

-- ---- leaves

-- an item that rules out each set that goes on from a prefix where pieces are undecided
abbrev pub Prunes : AreaItem → Type 0
Prunes B = ⊥
Prunes A = Unit {0}
Prunes (G num den) = Unit {0}
Prunes F = ⊥

-- the item that is found is right at the prefix; where none is found, the prefix is within the limit, and by no rate
-- too little is gained
abbrev pub IsPruning : List Piece → ℕ → (ℕ → Bool) → Prefix → Option AreaItem → Type 0
IsPruning pieces limit best prefix None =
    (area pieces (taken pieces prefix) ≤ limit)
    × ((num den : ℕ) → IsRate pieces num den → ¬ GainsTooLittle pieces limit best prefix num den)
IsPruning pieces limit best prefix (Some item) = Prunes item × IsRight pieces limit best prefix item

-- the later set is the same, or gains more, or as much and comes first
abbrev pub IsNoWorse : List Piece → (ℕ → Bool) → (ℕ → Bool) → Type 0
IsNoWorse pieces earlier later =
    (gain pieces earlier < gain pieces later)
    ⊎ ((gain pieces earlier ≡ gain pieces later) × (IsSameSet later earlier ⊎ ComesBefore later earlier))

-- ---- the log of a prefix

-- From one best set to another the sets that go on from the prefix were passed. The items are right for the latter, and
-- for each that is no worse.
pub record IsLogged (pieces : List Piece) (limit : ℕ) (prefix : Prefix) (before after : Incumbent)
    (items : List AreaItem) : Type 0 where
  pub measured : IsMeasured pieces limit after
  pub grows : IsNoWorse pieces (set.contains before.set) (set.contains after.set)
  pub tree : IsTree items
  pub right : (later : ℕ → Bool) → IsNoWorse pieces (set.contains after.set) later
      → AllByRecursion (IsRightAt pieces limit later) (stations tree prefix)

-- The tree is new in the region, its items are the log of the prefix, and its slots are no more than the open prefixes
-- from this one on. This is the best set before the search of the prefix, and `later` the one behind it.
pub record IsSearched (pieces : List Piece) (limit : ℕ) (prefix : Prefix) (best later : Incumbent)
    (before after : BoundedMap AreaNode) (root : AreaChild) : Type 0 where
  pub items : List AreaItem
  pub tree : IsTreeIn after.values root items before.values
  pub same_capacity : after.capacity ≡ before.capacity
  pub within : used after ≤ after.capacity
  pub logged : IsLogged pieces limit prefix best later items
  pub count : ℕ
  pub is_used : used after ≡ used before + count
  pub found : AtLeast (IsOpen pieces limit) count (continuations (undecided pieces prefix) prefix)

-- more prefixes are open from this one on than slots were free, and the region holds what it held
abbrev pub IsSpentAt : List Piece → ℕ → Prefix → BoundedMap AreaNode → BoundedMap AreaNode → Type 0
IsSpentAt pieces limit prefix before after =
    (after ≡ before)
    × AtLeast (IsOpen pieces limit) (suc (free before)) (continuations (undecided pieces prefix) prefix)

-- what the search of a prefix answers: its tree, or none where slots are wanting
abbrev pub IsSearchOf : List Piece → ℕ → Prefix → Incumbent → Incumbent → BoundedMap AreaNode → BoundedMap AreaNode
    → Option AreaChild → Type 0
IsSearchOf pieces limit prefix best later before after root =
    MatchOption root (IsSpentAt pieces limit prefix before after)
    (IsSearched pieces limit prefix best later before after)

-- ---- a branch

-- two trees that lie beside each other are below one root, in one slot more
pub record IsBranch (before after : BoundedMap AreaNode) (first second root : AreaChild) : Type 0 where
  pub one_more : used after ≡ used before + 1
  pub was_free : used before + 1 ≤ before.capacity
  pub same_capacity : after.capacity ≡ before.capacity
  pub tree : (firsts seconds : List AreaItem) (between rest : Slots) → IsTreeIn before.values second seconds between
      → IsTreeIn between first firsts rest → IsTreeIn after.values root (B ∷ (firsts ++ seconds)) rest

-- a tree was given back: what it lies beside stays
abbrev pub IsGivenBack : BoundedMap AreaNode → BoundedMap AreaNode → AreaChild → Type 0
IsGivenBack before after root =
    (items : List AreaItem) (rest : Slots) → IsTreeIn before.values root items rest
    → after ≡ record { values = rest; capacity = before.capacity }

-- the first tree lies in the region, behind the second one where it was found
abbrev pub CanBeJoined : BoundedMap AreaNode → AreaChild → Option AreaChild → Type 0
CanBeJoined region taken None = LiesIn region taken
CanBeJoined region taken (Some left_out) =
    (items : List AreaItem) × (between : Slots) × IsTreeIn region.values left_out items between
    × LiesIn (record { values = between; capacity = region.capacity }) taken

-- What is answered where two trees are to be joined: their branch, or none where the second wasn't found or no slot is
-- free. Then both were given back.
abbrev pub IsJoined : BoundedMap AreaNode → BoundedMap AreaNode → AreaChild → Option AreaChild → Option AreaChild
    → Type 0
IsJoined before after taken None root = (root ≡ None) × IsGivenBack before after taken
IsJoined before after taken (Some left_out) root =
    MatchOption root
    ((used before ≡ before.capacity)
    × ((seconds firsts : List AreaItem) (between rest : Slots) → IsTreeIn before.values left_out seconds between
    → IsTreeIn between taken firsts rest → after ≡ record { values = rest; capacity = before.capacity }))
    (IsBranch before after taken left_out)

-- ---- the best set so far

-- a set was compared with the best set so far: what is left is no worse, and the set is no better than that
pub record IsImproved (pieces : List Piece) (limit : ℕ) (before : Incumbent) (chosen : ℕ → Bool) (after : Incumbent)
    : Type 0 where
  pub measured : IsMeasured pieces limit after
  pub grows : IsNoWorse pieces (set.contains before.set) (set.contains after.set)
  pub not_better : ¬ IsBetter pieces limit (set.contains after.set) chosen
