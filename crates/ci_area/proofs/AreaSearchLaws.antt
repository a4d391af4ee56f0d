-- What a search has found at a prefix, from what it has found behind it.
use Rattle.std.proofs.Common.{◌≡◌, ℕ, suc, ◌+◌, ◌^◌, ◌<◌, ◌≤◌, Bool, true, false, inl, inr, List, [], ◌∷◌, ◌++◌, length, Option, Some, None}
use Rattle.std.proofs.Common.{refl, sym, ap, ◌∙◌, subst, arith}
use Rattle.std.proofs.lemmas.Bool.{cases_order}
use Rattle.std.specs.FinMap as map
use Rattle.std.specs.FinSet as set
use Rattle.ci_region.specs.BoundedMap.{BoundedMap, used}
use Rattle.ci_region.proofs.TreeLaws.{rest_is_kept}
use Rattle.ci_cut.specs.ListCounts.{AtLeast, none, counted, passed}
use Rattle.ci_cut.proofs.ListCountLaws.{AtLeast-left, AtLeast-both, AtLeast-fewer}
use Rattle.ci_cut.proofs.FirstWrongLaws.{all_both}
use Rattle.ci_area.specs.declared.flattening.AreaChild.{AreaChild}
use Rattle.ci_area.specs.declared.flattening.AreaChild.TheVariants.{Leaf}
use Rattle.ci_area.specs.declared.flattening.AreaNode.{AreaNode}
use Rattle.ci_area.specs.declared.log.AreaItem.{AreaItem}
use Rattle.ci_area.specs.declared.log.AreaItem.TheVariants.{B, A, G, F}
use Rattle.ci_area.specs.declared.piece.Piece.{Piece}
use Rattle.ci_area.specs.declared.rules.Incumbent.{Incumbent}
use Rattle.ci_area.specs.AreaAnswered.{free, HasLog}
use Rattle.ci_area.specs.AreaNeed.{ReachesGreedy, IsOpen, continuations}
use Rattle.ci_area.specs.AreaPrefixes.{Prefix, undecided, taken, bound, IsRate, no_price, of_piece}
use Rattle.ci_area.specs.AreaRegionTrees.{IsTreeIn}
use Rattle.ci_area.specs.AreaRules.{IsBetter, IsRight, GainsTooLittle, stations, IsRightAt}
use Rattle.ci_area.specs.AreaTrees.{IsLeaf, leaf, branch}
use Rattle.ci_area.specs.Pieces.{ArePieces, area, area_at, gain_at}
use Rattle.ci_area.specs.Representation.{IsMeasured}
use Rattle.ci_area.specs.private.Searched.{Prunes, IsPruning, IsNoWorse, IsSearched, IsSpentAt, IsSearchOf, IsBranch, IsGivenBack, CanBeJoined, IsJoined, IsImproved}
use Rattle.ci_area.proofs.AreaOrder.{no_worse_itself, no_worse_through, no_less_gain, better_through, too_little_later}
use Rattle.ci_area.proofs.AreaRegionLaws.{at_leaf}
use Rattle.ci_area.proofs.PieceSums.{gain_fits, area_fits}

continuations-more : (most fewer : ℕ) (prefix : Prefix) → most ≡ suc fewer
    → continuations most prefix ≡ (prefix ∷ (continuations fewer (true ∷ prefix) ++ continuations fewer (false ∷ prefix)))
unfolding continuations
continuations-more most fewer prefix one_less = ap (λ (n : ℕ). continuations n prefix) one_less

-- ---- leaves

prunes_is_leaf : (item : AreaItem) → Prunes item → IsLeaf item
prunes_is_leaf B is = is
prunes_is_leaf A is = tt
prunes_is_leaf (G num den) is = tt
prunes_is_leaf F is = absurd is

module _ (pieces : List Piece) (limit : ℕ) (prefix : Prefix) where
  right_later : (item : AreaItem) → Prunes item → (best later : ℕ → Bool) → IsRight pieces limit best prefix item
      → IsNoWorse pieces best later → IsRight pieces limit later prefix item
  right_later B is best later right no_worse = absurd is
  right_later A is best later right no_worse = right
  right_later (G num den) is best later right no_worse = too_little_later pieces limit best later prefix num den right no_worse
  right_later F is best later right no_worse = absurd is

  module _ (best : Incumbent) (region : BoundedMap AreaNode) (within : used region ≤ region.capacity) where
    pub searched_whole : length pieces ≤ length prefix → (chosen : ℕ → Bool) → chosen ≡ taken pieces prefix → (later : Incumbent)
        → IsImproved pieces limit best chosen later → IsSearched pieces limit prefix best later region region (Leaf F)
    searched_whole whole chosen same later better = record {
      items = F ∷ [];
      tree = at_leaf tt;
      same_capacity = refl;
      within = within;
      logged = record {
        measured = better.measured;
        grows = better.grows;
        tree = leaf tt;
        right = λ last no_worse. (
          (
            whole,
            λ is_better. better.not_better (better_through pieces limit (set.contains later.set) last chosen no_worse
                (subst (λ (s : ℕ → Bool). IsBetter pieces limit last s) (sym same) is_better)),
          ),
          tt,
        );
      };
      count = 0;
      is_used = omega arith;
      found = none;
    }

    pub searched_bar : IsMeasured pieces limit best → (item : AreaItem) → Prunes item
        → IsRight pieces limit (set.contains best.set) prefix item → IsSearched pieces limit prefix best best region region (Leaf item)
    searched_bar measured item bar right = record {
      items = item ∷ [];
      tree = at_leaf (prunes_is_leaf item bar);
      same_capacity = refl;
      within = within;
      logged = record {
        measured = measured;
        grows = no_worse_itself pieces (set.contains best.set);
        tree = leaf (prunes_is_leaf item bar);
        right = λ last no_worse. (right_later item bar (set.contains best.set) last right no_worse, tt);
      };
      count = 0;
      is_used = omega arith;
      found = none;
    }

-- ---- open prefixes

not_above : {m n : ℕ} → ¬ (n < m) → m ≤ n
not_above {m = m} {n = n} not_more = elim (cases_order m n) [
  | inl same ↦ omega (arith, same)
  | inr (inl less) ↦ omega (arith, less)
  | inr (inr more) ↦ absurd (not_more more)
]

-- no item prunes where what is taken in is within the limit, and neither no price nor the rate of a piece gains too little
pub none_prunes : (pieces : List Piece) (limit : ℕ) (best : ℕ → Bool) (prefix : Prefix) → ¬ (limit < area pieces (taken pieces prefix))
    → ¬ GainsTooLittle pieces limit best prefix 0 1
    → ((k : ℕ) → k < length pieces → ¬ GainsTooLittle pieces limit best prefix (gain_at pieces k) (area_at pieces k))
    → IsPruning pieces limit best prefix None
none_prunes pieces limit best prefix not_more unpriced each = (not_above not_more, by_rate)
  where
    by_rate : (num den : ℕ) → IsRate pieces num den → ¬ GainsTooLittle pieces limit best prefix num den
    by_rate num den no_price = unpriced
    by_rate num den (of_piece k below some) = each k below

reached_more : (pieces : List Piece) (limit less more : ℕ) → less ≤ more → ReachesGreedy pieces limit less → ReachesGreedy pieces limit more
reached_more pieces limit less more rises is = record { greedy = is.greedy; is_greedy = is.is_greedy; most = omega (arith, is.most, rises) }

pub reached_later : (pieces : List Piece) (limit : ℕ) (best later : Incumbent) → IsMeasured pieces limit best → IsMeasured pieces limit later
    → IsNoWorse pieces (set.contains best.set) (set.contains later.set) → ReachesGreedy pieces limit best.gain → ReachesGreedy pieces limit later.gain
reached_later pieces limit best later first second no_worse =
    reached_more pieces limit best.gain later.gain (omega (arith, first.gain_is, second.gain_is, no_less_gain pieces _ _ no_worse))

-- a prefix by which no rate gains too little is open
pub open_unless_pruned : (pieces : List Piece) (are : ArePieces pieces) (limit : ℕ) (prefix : Prefix) (best : Incumbent)
    → IsMeasured pieces limit best → ReachesGreedy pieces limit best.gain
    → IsPruning pieces limit (set.contains best.set) prefix None → IsOpen pieces limit prefix
open_unless_pruned pieces are limit prefix best measured reached (fits, not_little) = record {
  fits = fits;
  above_greedy = λ num den rate. reached_more pieces limit best.gain (bound pieces limit num den prefix)
      (enough num den rate (few_rate num den rate)) reached;
}
  where
    FewRate : ℕ → ℕ → Type 0
    FewRate num den = (1 ≤ den) × (num < 2 ^ 63) × (den < 2 ^ 63)

    few_rate : (num den : ℕ) → IsRate pieces num den → FewRate num den
    few_rate num den no_price = (omega arith, omega arith, omega arith)
    few_rate num den (of_piece k below some) = (omega (arith, some), gain_fits pieces are k below, area_fits pieces are k below)

    enough : (num den : ℕ) → IsRate pieces num den → FewRate num den → best.gain ≤ bound pieces limit num den prefix
    enough num den rate (some, few_num, few_den) = elim (cases_order (bound pieces limit num den prefix) best.gain) [
      | inl same ↦ omega (arith, same)
      | inr (inl less) ↦ absurd (not_little num den rate (record {
        some = some;
        few_num = few_num;
        few_den = few_den;
        fits = fits;
        less = inl (omega (arith, less, measured.gain_is));
      }))
      | inr (inr more) ↦ omega (arith, more)
    ]

-- ---- a branch

-- where slots are wanting for the first child
pub spent_first : (pieces : List Piece) (limit : ℕ) (prefix : Prefix) → length prefix < length pieces → (region after : BoundedMap AreaNode)
    → IsSpentAt pieces limit (true ∷ prefix) region after → IsSpentAt pieces limit prefix region after
spent_first pieces limit prefix some region after (same, found) = (
  same,
  subst (AtLeast (IsOpen pieces limit) (suc (free region)))
      (sym (continuations-more (undecided pieces prefix) (undecided pieces (true ∷ prefix)) prefix (omega (arith, some))))
      (passed (AtLeast-left (IsOpen pieces limit) found _)),
)

module _ (pieces : List Piece) (limit : ℕ) (prefix : Prefix) (some : length prefix < length pieces)
    (best one : Incumbent) (region between : BoundedMap AreaNode) (first_root : AreaChild)
    (first : IsSearched pieces limit (true ∷ prefix) best one region between first_root) where
  abbrev under : ℕ
  under = undecided pieces (true ∷ prefix)

  more_open : (n : ℕ) → AtLeast (IsOpen pieces limit) n (prefix ∷ (continuations under (true ∷ prefix) ++ continuations under (false ∷ prefix)))
      → AtLeast (IsOpen pieces limit) n (continuations (undecided pieces prefix) prefix)
  more_open n = subst (AtLeast (IsOpen pieces limit) n) (sym (continuations-more (undecided pieces prefix) under prefix (omega (arith, some))))

  spent_second : IsOpen pieces limit prefix → (two : Incumbent) (after last : BoundedMap AreaNode)
      → IsSpentAt pieces limit (false ∷ prefix) between after → IsGivenBack after last first_root → IsSpentAt pieces limit prefix region last
  spent_second is_open two after last (same, found) given = (
    given first.items region.values (subst (λ (m : BoundedMap AreaNode). IsTreeIn m.values first_root first.items region.values) (sym same) first.tree)
        ∙ (λ i. record { values = region.values; capacity = (ap (λ (m : BoundedMap AreaNode). m.capacity) same ∙ first.same_capacity) i }),
    more_open _ (passed (AtLeast-fewer (IsOpen pieces limit) (AtLeast-both (IsOpen pieces limit) _ first.found found)
        (suc (free region)) (omega (arith, first.is_used, first.same_capacity, first.within)))),
  )

  module _ (two : Incumbent) (after : BoundedMap AreaNode) (second_root : AreaChild)
      (second : IsSearched pieces limit (false ∷ prefix) one two between after second_root) (is_open : IsOpen pieces limit prefix) where
    spent_here : used after ≡ after.capacity → (last : BoundedMap AreaNode) → last ≡ record { values = region.values; capacity = after.capacity }
        → IsSpentAt pieces limit prefix region last
    spent_here full last given = (
      given ∙ (λ i. record { values = region.values; capacity = (second.same_capacity ∙ first.same_capacity) i }),
      more_open _ (AtLeast-fewer (IsOpen pieces limit) (counted is_open (AtLeast-both (IsOpen pieces limit) _ first.found second.found))
          (suc (free region)) (omega (arith, first.is_used, first.same_capacity, second.is_used, second.same_capacity, full))),
    )

    searched_branch : (last : BoundedMap AreaNode) (root : AreaChild) → IsBranch after last first_root second_root root
        → IsSearched pieces limit prefix best two region last root
    searched_branch last root joined = record {
      items = B ∷ (first.items ++ second.items);
      tree = joined.tree first.items second.items between.values region.values second.tree first.tree;
      same_capacity = joined.same_capacity ∙ second.same_capacity ∙ first.same_capacity;
      within = omega (arith, joined.one_more, joined.was_free, joined.same_capacity);
      logged = record {
        measured = second.logged.measured;
        grows = no_worse_through pieces _ _ _ first.logged.grows second.logged.grows;
        tree = branch first.logged.tree second.logged.tree;
        right = λ later no_worse. (
          some,
          all_both (IsRightAt pieces limit later) (stations first.logged.tree (true ∷ prefix)) (stations second.logged.tree (false ∷ prefix))
              (first.logged.right later (no_worse_through pieces _ _ _ second.logged.grows no_worse))
              (second.logged.right later no_worse),
        );
      };
      count = suc (first.count + second.count);
      is_used = omega (arith, joined.one_more, second.is_used, first.is_used);
      found = more_open _ (counted is_open (AtLeast-both (IsOpen pieces limit) _ first.found second.found));
    }

  pub can_be_joined : (two : Incumbent) (after : BoundedMap AreaNode) (second : Option AreaChild)
      → IsSearchOf pieces limit (false ∷ prefix) one two between after second → CanBeJoined after first_root second
  can_be_joined two after None (same, found) =
      (first.items, region.values, subst (λ (m : BoundedMap AreaNode). IsTreeIn m.values first_root first.items region.values) (sym same) first.tree)
  can_be_joined two after (Some second_root) second =
      (second.items, between.values, second.tree, (first.items, region.values, first.tree))

  pub joined_search : IsOpen pieces limit prefix → (two : Incumbent) (after last : BoundedMap AreaNode) (second root : Option AreaChild)
      → IsSearchOf pieces limit (false ∷ prefix) one two between after second → IsJoined after last first_root second root
      → IsSearchOf pieces limit prefix best two region last root
  joined_search is_open two after last None None spent (nothing, given) = spent_second is_open two after last spent given
  joined_search is_open two after last None (Some root) spent (nothing, given) = absurd (cc)
  joined_search is_open two after last (Some second_root) None second (full, given) =
      spent_here two after second_root second is_open full last (given second.items first.items between.values region.values second.tree first.tree)
  joined_search is_open two after last (Some second_root) (Some root) second joined =
      searched_branch two after second_root second is_open last root joined

-- ---- the whole search

pub log_of : (pieces : List Piece) (limit : ℕ) (first best : Incumbent) (before after : BoundedMap AreaNode) (root : AreaChild)
    → IsSearched pieces limit [] first best before after root → HasLog pieces limit (set.contains best.set) before after root
log_of pieces limit first best before after root is = record {
  items = is.items;
  tree = is.tree;
  accepted = record {
    good = is.logged.measured.good;
    tree = is.logged.tree;
    right = is.logged.right (set.contains best.set) (no_worse_itself pieces (set.contains best.set));
  };
}

pub kept_beside : (before after : BoundedMap AreaNode) (root : AreaChild) (items : List AreaItem) → IsTreeIn after.values root items before.values
    → (slot : ℕ) (node : AreaNode) → map.get before.values slot ≡ Some node → map.get after.values slot ≡ Some node
kept_beside before after root items tree = rest_is_kept tree
