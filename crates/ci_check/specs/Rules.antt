-- The rules of the items of a log, and when a log is accepted for a best cut, or for none.
use Rattle.std.specs.Prelude.{◌≡◌, ℕ, ◌≤◌, ◌<◌, Bool, true, false, ℤ, pos, ◌<ℤ◌, ◌⊎◌, List, [], ◌∷◌, ◌++◌, length}
use Rattle.std.specs.Prelude.{Option, Some, None}
use Rattle.std.specs.List.{AllByRecursion}
use Rattle.std.specs.Ordering.{nat_cmp}
use Rattle.std.specs.FinSet as set
use Rattle.ci_cut.specs.declared.graph.Limits.{Limits}
use Rattle.ci_cut.specs.FlowGraph.{FlowGraph}
use Rattle.ci_cut.specs.Walks.{IsConvex}
use Rattle.ci_cut.specs.Ports.{outputs}
use Rattle.ci_cut.specs.Gain.{Fits, gain}
use Rattle.ci_cut.specs.Best.{ComesBefore}
use Rattle.ci_cut.specs.FirstWrong as first_wrong
use Rattle.ci_log.specs.declared.log.Item.{Item}
use Rattle.ci_log.specs.declared.log.Item.TheVariants.{B, O, C, I, G, F}
use Rattle.ci_log.specs.Trees.{IsTree, leaf, branch}
use Rattle.ci_check.specs.declared.checking.Wrong.{Wrong}
use Rattle.ci_cut.specs.Prefixes.{Prefix, eligible_nodes, taken, settled_inputs, bound, IsBefore}

-- ---- the best cut that is given, or none

abbrev pub Given : Type 0
Given = Option (set.FinSet nat_cmp)

-- without a best cut its gain counts as 0
abbrev pub best_gain : FlowGraph → Given → ℤ
best_gain graph None = pos 0
best_gain graph (Some best) = gain graph (set.contains best)

-- a best cut that is given fits and has a positive gain
abbrev pub IsGood : FlowGraph → Limits → Given → Type 0
IsGood graph limits None = Unit {0}
IsGood graph limits (Some best) = Fits graph limits (set.contains best) × (pos 0 <ℤ gain graph (set.contains best))

-- the prefix comes after the best cut; without one each does
abbrev pub IsAfterBest : FlowGraph → Given → Prefix → Type 0
IsAfterBest graph None prefix = Unit {0}
IsAfterBest graph (Some best) prefix = IsBefore graph (set.contains best) prefix

-- the set comes before the best cut; without one none does
abbrev pub IsBeforeBest : Given → (ℕ → Bool) → Type 0
IsBeforeBest None cut = ⊥
IsBeforeBest (Some best) cut = ComesBefore cut (set.contains best)

-- the set is a better cut: it fits, and it gains more, or as much and comes first
pub record IsBetter (graph : FlowGraph) (limits : Limits) (best : Given) (cut : ℕ → Bool) : Type 0 where
  pub fits : Fits graph limits cut
  pub more : (best_gain graph best <ℤ gain graph cut)
      ⊎ ((best_gain graph best ≡ gain graph cut) × IsBeforeBest best cut)

-- ---- the rule of each item

-- no set that goes on from the prefix is better, since none gains enough
abbrev pub GainsTooLittle : FlowGraph → Given → Prefix → Type 0
GainsTooLittle graph best prefix =
    (bound graph prefix <ℤ best_gain graph best)
    ⊎ ((bound graph prefix ≡ best_gain graph best) × IsAfterBest graph best prefix)

-- the item is right at the prefix
abbrev pub IsRight : FlowGraph → Limits → Given → Prefix → Item → Type 0
IsRight graph limits best prefix O = limits.outputs < outputs graph (taken graph prefix)
IsRight graph limits best prefix C = ¬ IsConvex graph (taken graph prefix)
IsRight graph limits best prefix I = limits.inputs < settled_inputs graph prefix
IsRight graph limits best prefix G = GainsTooLittle graph best prefix
IsRight graph limits best prefix F =
    (eligible_nodes graph ≤ length prefix) × (¬ IsBetter graph limits best (taken graph prefix))
IsRight graph limits best prefix B = length prefix < eligible_nodes graph

-- the reason that is given where the item isn't right
abbrev pub reason_of : Item → ℕ
reason_of O = 1
reason_of C = 2
reason_of I = 3
reason_of G = 4
reason_of F = 5
reason_of B = 6

-- ---- whole logs

pub record Station : Type 0 where
  pub prefix : Prefix
  pub item : Item

-- The items of a tree in preorder, each with its prefix, where the tree's first item has this one. The first child of a
-- branch takes the next node in, the second leaves it out.
abbrev pub stations : {items : List Item} → IsTree items → Prefix → List Station
stations (leaf {item = item} is) prefix = record { prefix = prefix; item = item } ∷ []
stations (branch in_tree out_tree) prefix =
    record { prefix = prefix; item = B } ∷ (stations in_tree (true ∷ prefix) ++ stations out_tree (false ∷ prefix))

abbrev pub reason_at : Station → ℕ
reason_at station = reason_of station.item

abbrev pub IsRightAt : FlowGraph → Limits → Given → Station → Type 0
IsRightAt graph limits best station = IsRight graph limits best station.prefix station.item

-- the log is accepted for the best cut, or for none: it is a tree, and each of its items is right
pub record IsAccepted (graph : FlowGraph) (limits : Limits) (best : Given) (items : List Item) : Type 0 where
  pub good : IsGood graph limits best
  pub tree : IsTree items
  pub right : AllByRecursion (IsRightAt graph limits best) (stations tree [])

-- this station is the first that isn't right, behind so many that are
abbrev pub IsFirstWrongIn : FlowGraph → Limits → Given → List Station → ℕ → ℕ → Type 0
IsFirstWrongIn graph limits best all number reason =
    first_wrong.IsFirstWrongIn (IsRightAt graph limits best) reason_at all number reason

-- the first item that is wrong, and why: the first one for reason 7 where the best cut that is given isn't good
abbrev pub IsFirstWrong : FlowGraph → Limits → Given → List Item → Wrong → Type 0
IsFirstWrong graph limits best items wrong =
    ((¬ IsGood graph limits best) × (wrong ≡ record { item = 0; reason = 7 }))
    ⊎ (IsGood graph limits best
    × ((tree : IsTree items) × IsFirstWrongIn graph limits best (stations tree []) wrong.item wrong.reason))
