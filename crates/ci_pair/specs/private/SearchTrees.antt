-- For private contracts: the tree that a search for pairs has made at a prefix.
use Rattle.std.specs.Prelude.{◌≡◌, ℕ, suc, ◌+◌, ◌-◌, ◌≤◌, List, ◌∷◌, ◌++◌, length, Option, Some, None, MatchOption}
use Rattle.std.specs.Prelude.{IsTrue}
use Rattle.ci_region.specs.BoundedMap.{BoundedMap, used}
use Rattle.ci_cut.specs.declared.graph.Limits.{Limits}
use Rattle.ci_cut.specs.FlowGraph.{FlowGraph}
use Rattle.ci_cut.specs.Prefixes.{eligible_nodes, is_next}
use Rattle.ci_cut.specs.ListCounts.{AtLeast}
use Rattle.ci_pair.specs.declared.log.PairItem.{PairItem}
use Rattle.ci_pair.specs.declared.log.PairItem.TheVariants.{B}
use Rattle.ci_pair.specs.declared.flattening.PairChild.{PairChild}
use Rattle.ci_pair.specs.declared.flattening.PairNode.{PairNode}
use Rattle.ci_pair.specs.declared.rules.PairIncumbent.{PairIncumbent}
use Rattle.ci_pair.specs.declared.terms.PairTerms.{PairTerms}
use Rattle.ci_pair.specs.declared.terms.PairDelays.{PairDelays}
use Rattle.ci_pair.specs.declared.pair.Pair.{Pair}
use Rattle.ci_pair.specs.declared.searching.PairFound.{PairFound}
use Rattle.ci_pair.specs.declared.searching.PairFound.TheVariants as variants
use Rattle.ci_pair.specs.Answered.{free}
use Rattle.ci_pair.specs.Pairs.{Label, First}
use Rattle.ci_pair.specs.Prefixes.{PairPrefix, choices, IsMirrored, IsOpen, NeedExceeds, continuations}
use Rattle.ci_pair.specs.RegionTrees.{Slots, IsTreeIn}
use Rattle.ci_pair.specs.private.Reached.{IsReachedBefore, IsReachedBehind}
use Rattle.ci_pair.specs.PairSets.{given}
use Rattle.ci_pair.specs.private.States.{Represents}
use Rattle.ci_pair.specs.private.Searched.{IsLogged}
use Rattle.ci_pair.specs.Rules.{IsAfterBest}

-- how many nodes are undecided
abbrev pub left : FlowGraph → PairPrefix → ℕ
left graph prefix = eligible_nodes graph - length prefix

-- the terms and delays represent the prefix, and the best pair so far is that of the pairs before it
pub record IsReady (graph : FlowGraph) (limits : Limits) (terms : PairTerms) (delays : PairDelays)
    (best : PairIncumbent) (prefix : PairPrefix) : Type 0 where
  pub represents : Represents graph prefix terms delays
  pub not_mirrored : ¬ IsMirrored graph prefix
  pub after_best : IsAfterBest graph (given best.pair) prefix
  pub reached : IsReachedBefore graph limits prefix best.gain

-- The terms represent a prefix of which the node is the next, and the best pair so far is that of the pairs before the
-- prefix that goes on with this label.
pub record IsReadyFor (graph : FlowGraph) (limits : Limits) (label : Label) (terms : PairTerms) (delays : PairDelays)
    (best : PairIncumbent) (node : ℕ) (prefix : PairPrefix) : Type 0 where
  pub represents : Represents graph prefix terms delays
  pub not_mirrored : ¬ IsMirrored graph prefix
  pub next : IsTrue (is_next graph (choices First prefix) node)
  pub after_best : IsAfterBest graph (given best.pair) (label ∷ prefix)
  pub reached : IsReachedBefore graph limits (label ∷ prefix) best.gain

-- The tree is new in the region, its items are the log of the prefix, and its slots are no more than the open prefixes
-- from this one on. This is the best pair before the search of the prefix, and `later` the one behind it.
pub record IsSearched (graph : FlowGraph) (limits : Limits) (prefix : PairPrefix) (best later : PairIncumbent)
    (before after : BoundedMap PairNode) (root : PairChild) : Type 0 where
  pub items : List PairItem
  pub tree : IsTreeIn after.values root items before.values
  pub same_capacity : after.capacity ≡ before.capacity
  pub within : used after ≤ after.capacity
  pub logged : IsLogged graph limits prefix best later items
  pub reached : IsReachedBehind graph limits prefix later.gain
  pub count : ℕ
  pub is_used : used after ≡ used before + count
  pub found : AtLeast (IsOpen graph limits) count (continuations (left graph prefix) prefix)

-- more prefixes are open from this one on than slots were free, and the region holds what it held
abbrev pub IsSpentAt : FlowGraph → Limits → PairPrefix → BoundedMap PairNode → BoundedMap PairNode → Type 0
IsSpentAt graph limits prefix before after =
    (after ≡ before) × AtLeast (IsOpen graph limits) (suc (free before)) (continuations (left graph prefix) prefix)

-- the same from the start on
abbrev pub IsGivenUp : FlowGraph → Limits → BoundedMap PairNode → BoundedMap PairNode → Type 0
IsGivenUp graph limits before after = (after ≡ before) × NeedExceeds graph limits (free before)

-- what the search of a prefix answers: its tree, or none where slots are wanting
abbrev pub IsSearchOf : FlowGraph → Limits → PairPrefix → PairIncumbent → PairIncumbent → BoundedMap PairNode
    → BoundedMap PairNode → Option PairChild → Type 0
IsSearchOf graph limits prefix best later before after root =
    MatchOption root (IsSpentAt graph limits prefix before after)
    (IsSearched graph limits prefix best later before after)

-- at each prefix of which the node is the next, what the search answers where the node has this label
abbrev pub IsSearchWith : FlowGraph → Limits → Label → PairTerms → PairDelays → ℕ → PairIncumbent → PairIncumbent
    → BoundedMap PairNode → BoundedMap PairNode → Option PairChild → Type 0
IsSearchWith graph limits label terms delays node best later before after root =
    (prefix : PairPrefix) → IsReadyFor graph limits label terms delays best node prefix
    → IsSearchOf graph limits (label ∷ prefix) best later before after root

-- what is answered with a best pair, or none, and with a tree
abbrev pub found_at : Option Pair → PairChild → PairFound
found_at (Some pair) root = variants.Best pair root
found_at None root = variants.NoPair root

abbrev pub answer_of : Option PairChild → Option Pair → ℕ → PairFound
answer_of (Some root) best budget = found_at best root
answer_of None best budget = variants.Spent budget

-- ---- trees in the region

-- the slots of a tree are free again
abbrev pub IsGivenBack : BoundedMap PairNode → PairChild → BoundedMap PairNode → Type 0
IsGivenBack before root after =
    (items : List PairItem) (rest : Slots) → IsTreeIn before.values root items rest
    → after ≡ record { values = rest; capacity = before.capacity }

-- three trees that lie beside each other, and what the slots hold besides
pub record AreTreesOf (slots : Slots) (first second out : PairChild) (firsts seconds outs : List PairItem)
    (rest : Slots) : Type 0 where
  pub behind : Slots
  pub between : Slots
  pub out_tree : IsTreeIn slots out outs behind
  pub second_tree : IsTreeIn behind second seconds between
  pub first_tree : IsTreeIn between first firsts rest

abbrev pub AreBeside : BoundedMap PairNode → PairChild → PairChild → PairChild → Type 0
AreBeside region first second out =
    (firsts seconds outs : List PairItem) × (rest : Slots)
    × AreTreesOf region.values first second out firsts seconds outs rest

-- the slots of all three are free again
abbrev pub AreGivenBack : BoundedMap PairNode → PairChild → PairChild → PairChild → BoundedMap PairNode → Type 0
AreGivenBack before first second out after =
    (firsts seconds outs : List PairItem) (rest : Slots)
    → AreTreesOf before.values first second out firsts seconds outs rest
    → after ≡ record { values = rest; capacity = before.capacity }

-- all three are below one root, in one slot more
pub record IsBranch (before after : BoundedMap PairNode) (first second out root : PairChild) : Type 0 where
  pub one_more : used after ≡ used before + 1
  pub was_free : used before + 1 ≤ before.capacity
  pub same_capacity : after.capacity ≡ before.capacity
  pub tree : (firsts seconds outs : List PairItem) (rest : Slots)
      → AreTreesOf before.values first second out firsts seconds outs rest
      → IsTreeIn after.values root (B ∷ (firsts ++ (seconds ++ outs))) rest
