-- For the contracts of checker and search: what the code holds of the best cut and of a log.
use Rattle.std.specs.Prelude.{◌≡◌, ℕ, ◌+◌, ◌⊎◌, List, ◌++◌, drop, length, Option, None}
use Rattle.std.specs.Prelude.{Some, Result, Ok, Err}
use Rattle.std.specs.List.{AllByRecursion}
use Rattle.ci_word.specs.Numbers.{count_below}
use Rattle.ci_cut.specs.FlowGraph.{FlowGraph}
use Rattle.ci_cut.specs.declared.graph.Limits.{Limits}
use Rattle.ci_log.specs.declared.log.Item.{Item}
use Rattle.ci_log.specs.declared.log.Item.TheVariants.{B}
use Rattle.ci_log.specs.Trees.{IsLeaf, IsTree}
use Rattle.ci_cut.specs.declared.incumbent.Incumbent.{Incumbent}
use Rattle.ci_check.specs.declared.checking.Wrong.{Wrong}
use Rattle.ci_check.specs.Rules.{Given, best_gain, IsGood, Station, IsRightAt, IsFirstWrongIn}
use Rattle.ci_cut.specs.Prefixes.{is_eligible}
use Rattle.ci_cut.specs.Representation.{IsNextBelow}

-- ---- the best cut

-- a good best cut, or none, with its gain
pub record IsMeasured (graph : FlowGraph) (limits : Limits) (best : Incumbent) : Type 0 where
  pub good : IsGood graph limits best.cut
  pub gain_is : best.gain ≡ best_gain graph best.cut

-- ---- trees

-- a tree of items begins at a place
pub record IsTreeAt (items : List Item) (place : ℕ) : Type 0 where
  pub one : List Item
  pub rest : List Item
  pub is_split : drop place items ≡ one ++ rest
  pub tree : IsTree one

-- the items are right, and end there, or one of them is the first that is wrong
abbrev pub IsJudged : FlowGraph → Limits → Given → List Station → ℕ → Result ℕ Wrong → Type 0
IsJudged graph limits best all place (Ok end) =
    AllByRecursion (IsRightAt graph limits best) all × (end ≡ place + length all)
IsJudged graph limits best all place (Err wrong) =
    (number : ℕ) × IsFirstWrongIn graph limits best all number wrong.reason × (wrong.item ≡ place + number)

-- the node that an item branches on, or none
abbrev pub IsBranchOn : FlowGraph → ℕ → Item → Option ℕ → Type 0
IsBranchOn graph place item None = IsLeaf item ⊎ (count_below place (is_eligible graph) ≡ 0)
IsBranchOn graph place item (Some node) = (item ≡ B) × IsNextBelow graph place node
