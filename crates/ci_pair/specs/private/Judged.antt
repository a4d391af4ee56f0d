-- For private contracts: what the code holds of the best pair and of a log.
use Rattle.std.specs.Prelude.{ℤ, ◌<ℤ◌}
use Rattle.std.specs.Prelude.{◌≡◌, ℕ, ◌+◌, ◌<◌, ◌⊎◌, List, ◌∷◌, ◌++◌, drop, length, Option, None, Some, Result, Ok, Err}
use Rattle.std.specs.Prelude.{IsTrue}
use Rattle.std.specs.List.{AllByRecursion}
use Rattle.ci_word.specs.Numbers.{count_below}
use Rattle.ci_cut.specs.declared.graph.Limits.{Limits}
use Rattle.ci_cut.specs.FlowGraph.{FlowGraph}
use Rattle.ci_cut.specs.Walks.{IsConvex}
use Rattle.ci_cut.specs.Ports.{outputs}
use Rattle.ci_cut.specs.Prefixes.{Prefix, is_eligible, is_next, taken}
use Rattle.ci_cut.specs.Representation.{IsNextBelow}
use Rattle.ci_pair.specs.declared.log.PairItem.{PairItem}
use Rattle.ci_pair.specs.declared.log.PairItem.TheVariants.{B, O, C, I, X, M, G, F}
use Rattle.ci_pair.specs.declared.checking.PairWrong.{PairWrong}
use Rattle.ci_pair.specs.declared.rules.PairIncumbent.{PairIncumbent}
use Rattle.ci_pair.specs.Trees.{IsLeaf, IsTree}
use Rattle.ci_pair.specs.declared.terms.PairTerms.{PairTerms}
use Rattle.ci_pair.specs.declared.terms.PairDelays.{PairDelays}
use Rattle.ci_pair.specs.Pairs.{Label, First}
use Rattle.ci_pair.specs.Prefixes.{PairPrefix, choices}
use Rattle.ci_pair.specs.private.States.{Represents}
use Rattle.ci_pair.specs.PairSets.{given}
use Rattle.ci_pair.specs.Rules.{Given, best_gain, IsAfterBest, IsGood, Station, stations, IsRightAt, IsFirstWrongIn}

-- a good best pair, or none, with its gain
pub record IsMeasured (graph : FlowGraph) (limits : Limits) (best : PairIncumbent) : Type 0 where
  pub good : IsGood graph limits (given best.pair)
  pub gain_is : best.gain ≡ best_gain graph (given best.pair)

-- a tree of items begins at a place
pub record IsTreeAt (items : List PairItem) (place : ℕ) : Type 0 where
  pub one : List PairItem
  pub rest : List PairItem
  pub is_split : drop place items ≡ one ++ rest
  pub tree : IsTree one

-- the items are right, and end there, or one of them is the first that is wrong
abbrev pub IsJudged : FlowGraph → Limits → Given → List Station → ℕ → Result ℕ PairWrong → Type 0
IsJudged graph limits best all place (Ok end) =
    AllByRecursion (IsRightAt graph limits best) all × (end ≡ place + length all)
IsJudged graph limits best all place (Err wrong) =
    (number : ℕ) × IsFirstWrongIn graph limits best all number wrong.reason × (wrong.item ≡ place + number)

-- at each prefix of which the node is the next, what is found of a tree at this place where the node has this label
abbrev pub IsJudgedWith : FlowGraph → Limits → PairIncumbent → Label → PairTerms → PairDelays → ℕ → List PairItem → ℕ
    → Result ℕ PairWrong → Type 0
IsJudgedWith graph limits best label terms delays node items place result =
    (prefix : PairPrefix) (one rest : List PairItem) (tree : IsTree one) → Represents graph prefix terms delays
    → IsTrue (is_next graph (choices First prefix) node) → drop place items ≡ one ++ rest
    → IsJudged graph limits (given best.pair) (stations tree (label ∷ prefix)) place result

-- a bound of the pairs that go on from a prefix is too small for a better pair
abbrev pub IsTooLittle : FlowGraph → Given → PairPrefix → ℤ → Type 0
IsTooLittle graph best prefix bound =
    (bound <ℤ best_gain graph best) ⊎ ((bound ≡ best_gain graph best) × IsAfterBest graph best prefix)

-- one set alone shows that the item is right, where these are its choices
abbrev pub IsClosedBy : FlowGraph → Limits → Prefix → PairItem → Type 0
IsClosedBy graph limits prefix O = limits.outputs < outputs graph (taken graph prefix)
IsClosedBy graph limits prefix C = ¬ IsConvex graph (taken graph prefix)
IsClosedBy graph limits prefix B = ⊥
IsClosedBy graph limits prefix I = ⊥
IsClosedBy graph limits prefix X = ⊥
IsClosedBy graph limits prefix M = ⊥
IsClosedBy graph limits prefix G = ⊥
IsClosedBy graph limits prefix F = ⊥

-- the node that an item branches on, or none
abbrev pub IsBranchOn : FlowGraph → ℕ → PairItem → Option ℕ → Type 0
IsBranchOn graph place item None = IsLeaf item ⊎ (count_below place (is_eligible graph) ≡ 0)
IsBranchOn graph place item (Some node) = (item ≡ B) × IsNextBelow graph place node
