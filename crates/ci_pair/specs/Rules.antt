-- The rules of the items of a log of pairs, and when a log is accepted for a best pair, or for none.
use Rattle.std.specs.Prelude.{◌≡◌, ℕ, ◌≤◌, ◌<◌, ℤ, pos, ◌<ℤ◌, ◌⊎◌, List, [], ◌∷◌, ◌++◌, length, Option, Some, None}
use Rattle.std.specs.List.{AllByRecursion}
use Rattle.ci_cut.specs.declared.graph.Limits.{Limits}
use Rattle.ci_cut.specs.FlowGraph.{FlowGraph}
use Rattle.ci_cut.specs.Walks.{IsConvex}
use Rattle.ci_cut.specs.Ports.{outputs}
use Rattle.ci_cut.specs.Prefixes.{eligible_nodes, settled_inputs}
use Rattle.ci_cut.specs.FirstWrong as first_wrong
use Rattle.ci_pair.specs.declared.log.PairItem.{PairItem}
use Rattle.ci_pair.specs.declared.log.PairItem.TheVariants.{B, O, C, I, X, M, G, F}
use Rattle.ci_pair.specs.declared.checking.PairWrong.{PairWrong}
use Rattle.ci_pair.specs.Pairs.{NodePair, FitTogether, pair_gain, ComesBefore, First, Second, Out}
use Rattle.ci_pair.specs.Prefixes.{PairPrefix, choices, labelled, chosen, bound, IsMirrored, IsCrossing, IsBefore}
use Rattle.ci_pair.specs.Trees.{IsTree, leaf, branch}

-- ---- the best pair that is given, or none

abbrev pub Given : Type 0
Given = Option NodePair

-- without a best pair its gain counts as 0
abbrev pub best_gain : FlowGraph → Given → ℤ
best_gain graph None = pos 0
best_gain graph (Some best) = pair_gain graph best

-- a best pair that is given fits together and has a positive gain
abbrev pub IsGood : FlowGraph → Limits → Given → Type 0
IsGood graph limits None = Unit {0}
IsGood graph limits (Some best) = FitTogether graph limits best × (pos 0 <ℤ pair_gain graph best)

-- the prefix comes after the best pair; without one each does
abbrev pub IsAfterBest : FlowGraph → Given → PairPrefix → Type 0
IsAfterBest graph None prefix = Unit {0}
IsAfterBest graph (Some best) prefix = IsBefore graph best prefix

-- the pair comes before the best pair; without one none does
abbrev pub IsBeforeBest : Given → NodePair → Type 0
IsBeforeBest None pair = ⊥
IsBeforeBest (Some best) pair = ComesBefore pair best

-- the pair is better: it fits together, and it gains more, or as much and comes first
pub record IsBetter (graph : FlowGraph) (limits : Limits) (best : Given) (pair : NodePair) : Type 0 where
  pub fit : FitTogether graph limits pair
  pub more : (best_gain graph best <ℤ pair_gain graph pair)
      ⊎ ((best_gain graph best ≡ pair_gain graph pair) × IsBeforeBest best pair)

-- ---- the rule of each item

-- no pair that goes on from the prefix is better, since none gains enough
abbrev pub GainsTooLittle : FlowGraph → Given → PairPrefix → Type 0
GainsTooLittle graph best prefix =
    (bound graph prefix <ℤ best_gain graph best)
    ⊎ ((bound graph prefix ≡ best_gain graph best) × IsAfterBest graph best prefix)

-- the item is right at the prefix
abbrev pub IsRight : FlowGraph → Limits → Given → PairPrefix → PairItem → Type 0
IsRight graph limits best prefix O =
    (limits.outputs < outputs graph (labelled graph First prefix))
    ⊎ (limits.outputs < outputs graph (labelled graph Second prefix))
IsRight graph limits best prefix C =
    ¬ (IsConvex graph (labelled graph First prefix) × IsConvex graph (labelled graph Second prefix))
IsRight graph limits best prefix I =
    (limits.inputs < settled_inputs graph (choices First prefix))
    ⊎ (limits.inputs < settled_inputs graph (choices Second prefix))
IsRight graph limits best prefix X = IsCrossing graph prefix
IsRight graph limits best prefix M = IsMirrored graph prefix
IsRight graph limits best prefix G = GainsTooLittle graph best prefix
IsRight graph limits best prefix F =
    (eligible_nodes graph ≤ length prefix) × (¬ IsBetter graph limits best (chosen graph prefix))
IsRight graph limits best prefix B = length prefix < eligible_nodes graph

-- the reason that is given where the item isn't right
abbrev pub reason_of : PairItem → ℕ
reason_of O = 1
reason_of C = 2
reason_of I = 3
reason_of G = 4
reason_of F = 5
reason_of B = 6
reason_of X = 8
reason_of M = 9

-- ---- whole logs

pub record Station : Type 0 where
  pub prefix : PairPrefix
  pub item : PairItem

-- The items of a tree in preorder, each with its prefix, where the tree's first item has this one. The children of a
-- branch label the next node first, second and out.
abbrev pub stations : {items : List PairItem} → IsTree items → PairPrefix → List Station
stations (leaf {item = item} is) prefix = record { prefix = prefix; item = item } ∷ []
stations (branch first second out) prefix =
    record { prefix = prefix; item = B } ∷ (stations first (First ∷ prefix)
    ++ (stations second (Second ∷ prefix) ++ stations out (Out ∷ prefix)))

abbrev pub reason_at : Station → ℕ
reason_at station = reason_of station.item

abbrev pub IsRightAt : FlowGraph → Limits → Given → Station → Type 0
IsRightAt graph limits best station = IsRight graph limits best station.prefix station.item

-- the log is accepted for the best pair, or for none: it is a tree, and each of its items is right
pub record IsAccepted (graph : FlowGraph) (limits : Limits) (best : Given) (items : List PairItem) : Type 0 where
  pub good : IsGood graph limits best
  pub tree : IsTree items
  pub right : AllByRecursion (IsRightAt graph limits best) (stations tree [])

-- this station is the first that isn't right, behind so many that are
abbrev pub IsFirstWrongIn : FlowGraph → Limits → Given → List Station → ℕ → ℕ → Type 0
IsFirstWrongIn graph limits best all number reason =
    first_wrong.IsFirstWrongIn (IsRightAt graph limits best) reason_at all number reason

-- the first item that is wrong, and why: the first one for reason 7 where the best pair that is given isn't good
abbrev pub IsFirstWrong : FlowGraph → Limits → Given → List PairItem → PairWrong → Type 0
IsFirstWrong graph limits best items wrong =
    ((¬ IsGood graph limits best) × (wrong ≡ record { item = 0; reason = 7 }))
    ⊎ (IsGood graph limits best
    × ((tree : IsTree items) × IsFirstWrongIn graph limits best (stations tree []) wrong.item wrong.reason))
