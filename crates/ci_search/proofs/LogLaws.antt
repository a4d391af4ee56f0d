-- Logs that grow, and what their items show.
use Rattle.std.proofs.Common.{◌≡◌, ℕ, ◌<◌, ◌≤◌, Bool, true, false, true≢false, ◌⊎◌, inl, inr, IsTrue, List, [], ◌∷◌}
use Rattle.std.proofs.Common.{◌++◌, length, Some, None, refl, sym, ap, ◌∙◌, subst, arith, ℤ, pos, ◌≤ℤ◌, ◌<ℤ◌}
use Rattle.std.proofs.lemmas.Bool.{cases_lt, cases_order}
use Rattle.std.proofs.lemmas.Int.{ints}
use Rattle.std.specs.Ordering.{nat_cmp}
use Rattle.std.specs.FinSet as set
use Rattle.ci_cut.specs.declared.graph.Limits.{Limits}
use Rattle.ci_cut.specs.FlowGraph.{FlowGraph}
use Rattle.ci_cut.specs.GraphRules.{IsFlowGraph}
use Rattle.ci_cut.specs.Gain.{gain}
use Rattle.ci_cut.specs.Best.{ComesBefore}
use Rattle.ci_log.specs.declared.log.Item.{Item}
use Rattle.ci_log.specs.declared.log.Item.TheVariants.{B, O, C, I, G, F}
use Rattle.ci_log.specs.Trees.{IsLeaf, leaf, branch}
use Rattle.ci_cut.specs.declared.incumbent.Incumbent.{Incumbent}
use Rattle.ci_cut.specs.Prefixes.{Prefix, eligible_nodes, is_next, taken, bound}
use Rattle.ci_cut.specs.Need.{IsOpen}
use Rattle.ci_check.specs.Rules.{Given, best_gain, IsGood, IsAfterBest, IsBeforeBest, IsBetter, IsRight, stations, IsRightAt}
use Rattle.ci_check.specs.Representation.{IsMeasured}
use Rattle.ci_cut.specs.private.Reached.{Completes, IsReachedBefore, IsReachedWith}
use Rattle.ci_cut.proofs.PrefixLaws.{completes_earlier, taken_completes}
use Rattle.ci_cut.proofs.BoundLaws.{before_more, before_in, before_out, before_by_next}
use Rattle.ci_cut.proofs.NeedLaws.{compare_gains}
use Rattle.ci_cut.proofs.NeedLaws.{open_by_bound, bound_of_open}
use Rattle.ci_cut.proofs.FirstWrongLaws.{all_both}
use Rattle.ci_check.proofs.Acceptance.{before_completions}
use Rattle.ci_cut.specs.Incumbents.{IsImproved}
use Rattle.ci_search.specs.private.Searched.{Prunes, IsPruning, IsLater, IsPassed, IsLogged}

-- ---- orders

-- of two sets one comes first
pub one_first : {first second : ℕ → Bool} → ComesBefore first second → ComesBefore second first → ⊥
one_first {first = s} {second = t} a b = elim (cases_order a.place b.place) [
  | inl same ↦ true≢false (sym b.in_first ∙ ap t (sym same) ∙ a.not_in_second)
  | inr (inl below) ↦ true≢false (sym b.in_first ∙ sym (a.same_above b.place below) ∙ b.not_in_second)
  | inr (inr above) ↦ true≢false (sym a.in_first ∙ sym (b.same_above a.place above) ∙ a.not_in_second)
]

less_le : {a b c : ℤ} → a <ℤ b → b ≤ℤ c → a <ℤ c
less_le h k = omega (arith, ints)

le_less : {a b c : ℤ} → a ≤ℤ b → b <ℤ c → a <ℤ c
le_less h k = omega (arith, ints)

less_less : {a b c : ℤ} → a <ℤ b → b <ℤ c → a <ℤ c
less_less h k = omega (arith, ints)

le_of_less : {a b : ℤ} → a <ℤ b → a ≤ℤ b
le_of_less h = omega (arith, ints)

not_less_le : {a b : ℤ} → a <ℤ b → b ≤ℤ a → ⊥
not_less_le h k = omega (arith, ints)

le_same : {a b : ℤ} → a ≡ b → a ≤ℤ b
le_same h = omega (arith, ints)

at_most : (m n : ℕ) → ¬ (n < m) → m ≤ n
at_most m n not_less = elim (cases_lt n m) [ inl less ↦ absurd (not_less less) | inr most ↦ most ]

module _ (graph : FlowGraph) (flows : IsFlowGraph graph) (limits : Limits) where
  -- ---- the best cut so far, and later ones

  pub gain_least : (best : Incumbent) → IsMeasured graph limits best → pos 0 ≤ℤ best.gain
  gain_least best is = by_cut best.cut is.good is.gain_is
    where
      by_cut : (cut : Given) → IsGood graph limits cut → best.gain ≡ best_gain graph cut → pos 0 ≤ℤ best.gain
      by_cut None good gains = le_same (sym gains)
      by_cut (Some cut) good gains = subst (λ (z : ℤ). pos 0 ≤ℤ z) (sym gains) (le_of_less good.1)

  -- a later best cut gains no less
  pub later_gain : (best : Incumbent) → IsMeasured graph limits best → (later : Given) → IsLater graph best later → best.gain ≤ℤ best_gain graph later
  later_gain best is later (inl same) = le_same (is.gain_is ∙ ap (best_gain graph) (sym same))
  later_gain best is later (inr more) = le_of_less more

  -- what is later than the second of two best cuts is later than the first
  pub later_earlier : (before after : Incumbent) → IsMeasured graph limits after → (after ≡ before) ⊎ (before.gain <ℤ after.gain) → (later : Given)
      → IsLater graph after later → IsLater graph before later
  later_earlier before after is (inl same) later later_is = subst (λ (b : Incumbent). IsLater graph b later) same later_is
  later_earlier before after is (inr more) later later_is = inr (less_le more (later_gain after is later later_is))

  -- ---- items that rule out what goes on

  module _ (best : Incumbent) (is : IsMeasured graph limits best) (prefix : Prefix) where
    pub pruning_right : (item : Item) → Prunes item → IsRight graph limits best.cut prefix item → (later : Given)
        → IsLater graph best later → IsRight graph limits later prefix item
    pruning_right B bar right later later_is = absurd bar
    pruning_right O bar right later later_is = right
    pruning_right C bar right later later_is = right
    pruning_right I bar right later later_is = right
    pruning_right G bar right later (inl same) = subst (λ (g : Given). IsRight graph limits g prefix G) (sym same) right
    pruning_right G bar (inl less) later (inr more) = inl (less_less (subst (λ (z : ℤ). bound graph prefix <ℤ z) (sym is.gain_is) less) more)
    pruning_right G bar (inr (same, after)) later (inr more) = inl (subst (λ (z : ℤ). z <ℤ best_gain graph later) (is.gain_is ∙ sym same) more)
    pruning_right F bar right later later_is = absurd bar

    module _ (reached : IsReachedBefore graph limits prefix best.gain) where
      pub bar_closes : (item : Item) → Prunes item → IsRight graph limits best.cut prefix item → ¬ IsOpen graph limits prefix
      bar_closes B bar right is_open = absurd bar
      bar_closes O bar right is_open = absurd (omega (arith, is_open.outputs_within, right))
      bar_closes C bar right is_open = right is_open.convex
      bar_closes I bar right is_open = absurd (omega (arith, is_open.inputs_within, right))
      bar_closes G bar (inl less) is_open =
          not_less_le (bound_of_open graph flows limits prefix best.gain reached is_open)
          (le_of_less (subst (λ (z : ℤ). bound graph prefix <ℤ z) (sym is.gain_is) less))
      bar_closes G bar (inr (same, after)) is_open =
          not_less_le (bound_of_open graph flows limits prefix best.gain reached is_open) (le_same (same ∙ sym is.gain_is))
      bar_closes F bar right is_open = absurd bar

      pub open_unless_pruned : IsAfterBest graph best.cut prefix → IsPruning graph limits best.cut prefix None → IsOpen graph limits prefix
      open_unless_pruned after none = open_by_bound graph flows limits prefix best.gain reached
          (record {
            convex = λ a b c in_a to_b out_b to_c in_c. none C tt (λ convex. convex a b c in_a to_b out_b to_c in_c);
            outputs_within = at_most _ _ (none O tt);
            inputs_within = at_most _ _ (none I tt);
          })
          (elim (compare_gains (bound graph prefix) best.gain) [
            | inl less ↦ absurd (none G tt (inl (subst (λ (z : ℤ). bound graph prefix <ℤ z) is.gain_is less)))
            | inr (inl same) ↦ absurd (none G tt (inr (same ∙ is.gain_is, after)))
            | inr (inr more) ↦ more
          ])

    pub bar_is_leaf : (item : Item) → Prunes item → IsLeaf item
    bar_is_leaf B bar = bar
    bar_is_leaf O bar = tt
    bar_is_leaf C bar = tt
    bar_is_leaf I bar = tt
    bar_is_leaf G bar = tt
    bar_is_leaf F bar = tt

    pub logged_bar : IsAfterBest graph best.cut prefix → (item : Item) → Prunes item
        → IsRight graph limits best.cut prefix item → IsLogged graph limits prefix best best (item ∷ [])
    logged_bar after item bar right = record {
      measured = is;
      grows = inl refl;
      passed = passed_of best.cut after;
      tree = leaf (bar_is_leaf item bar);
      right = λ later later_is. (pruning_right item bar right later later_is, tt);
    }
      where
        passed_of : (cut : Given) → IsAfterBest graph cut prefix → IsPassed graph prefix cut
        passed_of None after = tt
        passed_of (Some cut) after = inl after

  -- ---- whole choices

  module _ (before after : Incumbent) (is : IsMeasured graph limits before) (cut : set.FinSet nat_cmp) (prefix : Prefix)
      (same_included : set.contains cut ≡ taken graph prefix) (after_before : IsAfterBest graph before.cut prefix) where
    -- a set that comes behind the best cut so far isn't before it
    not_before : (best : Given) → IsAfterBest graph best prefix → IsBeforeBest best (set.contains cut) → ⊥
    not_before None behind first = first
    not_before (Some best) behind first =
        one_first first (before_completions graph flows limits (set.contains best) (set.contains cut) prefix behind
        (subst (Completes graph prefix) (sym same_included) (taken_completes graph prefix)))

    -- the set is no better than a best cut that gains as much, and no less than the set
    no_better : (later : Given) → gain graph (set.contains cut) ≤ℤ best_gain graph later → ¬ IsBeforeBest later (set.contains cut)
        → ¬ IsBetter graph limits later (set.contains cut)
    no_better later most not_first better = elim better.more [
      | inl more ↦ not_less_le more most
      | inr (same, first) ↦ not_first first
    ]

    gains_less : (later : Given) → gain graph (set.contains cut) <ℤ best_gain graph later → ¬ IsBetter graph limits later (set.contains cut)
    gains_less later less better = elim better.more [
      | inl more ↦ not_less_le more (le_of_less less)
      | inr (same, first) ↦ not_less_le less (le_same same)
    ]

    whole_right : IsImproved graph limits before cut after → (later : Given) → IsLater graph after later → ¬ IsBetter graph limits later (set.contains cut)
    whole_right (inl (same, most)) later later_is better =
        by_later (subst (λ (b : Incumbent). IsLater graph b later) same later_is)
      where
        by_later : IsLater graph before later → ⊥
        by_later (inl is_same) =
            no_better later (subst (λ (z : ℤ). gain graph (set.contains cut) ≤ℤ z) (is.gain_is ∙ ap (best_gain graph) (sym is_same)) (most better.fits))
            (λ first. not_before before.cut after_before (subst (λ (g : Given). IsBeforeBest g (set.contains cut)) is_same first)) better
        by_later (inr more) = gains_less later (le_less (most better.fits) more) better
    whole_right (inr (is_cut, fits, gains, more)) later (inl is_same) better =
        let same : later ≡ Some cut = is_same ∙ is_cut in
        no_better later (le_same (ap (best_gain graph) (sym same)))
        (λ first. let self = subst (λ (g : Given). IsBeforeBest g (set.contains cut)) same first in one_first self self) better
    whole_right (inr (is_cut, fits, gains, more)) later (inr gains_more) better =
        gains_less later (subst (λ (z : ℤ). z <ℤ best_gain graph later) gains gains_more) better

    whole_measured : IsImproved graph limits before cut after → IsMeasured graph limits after
    whole_measured (inl (same, most)) = subst (IsMeasured graph limits) (sym same) is
    whole_measured (inr (is_cut, fits, gains, more)) = record {
      good = subst (IsGood graph limits) (sym is_cut) (fits, subst (λ (z : ℤ). pos 0 <ℤ z) gains (le_less (gain_least before is) more));
      gain_is = gains ∙ ap (best_gain graph) (sym is_cut);
    }

    whole_grows : IsImproved graph limits before cut after → (after ≡ before) ⊎ (before.gain <ℤ after.gain)
    whole_grows (inl (same, most)) = inl same
    whole_grows (inr (is_cut, fits, gains, more)) = inr more

    passed_before : (best : Given) → IsAfterBest graph best prefix → IsPassed graph prefix best
    passed_before None behind = tt
    passed_before (Some best) behind = inl behind

    whole_passed : IsImproved graph limits before cut after → IsPassed graph prefix after.cut
    whole_passed (inl (same, most)) = subst (λ (b : Incumbent). IsPassed graph prefix b.cut) (sym same) (passed_before before.cut after_before)
    whole_passed (inr (is_cut, fits, gains, more)) =
        subst (IsPassed graph prefix) (sym is_cut) (inr (subst (Completes graph prefix) (sym same_included) (taken_completes graph prefix)))

    pub logged_whole : eligible_nodes graph ≤ length prefix → IsImproved graph limits before cut after → IsLogged graph limits prefix before after (F ∷ [])
    logged_whole whole better = record {
      measured = whole_measured better;
      grows = whole_grows better;
      passed = whole_passed better;
      tree = leaf tt;
      right = λ later later_is. ((whole, subst (λ (s : ℕ → Bool). ¬ IsBetter graph limits later s) same_included (whole_right better later later_is)), tt);
    }

    pub reached_with_whole : IsImproved graph limits before cut after → IsReachedWith graph limits (taken graph prefix) before.gain after.gain
    reached_with_whole better = subst (λ (s : ℕ → Bool). IsReachedWith graph limits s before.gain after.gain) same_included (of better)
      where
        of : IsImproved graph limits before cut after → IsReachedWith graph limits (set.contains cut) before.gain after.gain
        of (inl (same, most)) =
            subst (λ (b : Incumbent). IsReachedWith graph limits (set.contains cut) before.gain b.gain) (sym same)
            (record { kept = le_same refl; most = most; found = inl refl })
        of (inr (is_cut, fits, gains, more)) = record { kept = le_of_less more; most = λ _. le_same (sym gains); found = inr (fits, sym gains) }

  -- ---- branches

  module _ (prefix : Prefix) (node : ℕ) (next : IsTrue (is_next graph prefix node)) where
    pub after_in : (best : Given) → IsAfterBest graph best prefix → IsAfterBest graph best (true ∷ prefix)
    after_in None after = tt
    after_in (Some best) after = before_more graph flows prefix true (set.contains best) after

    -- what was passed with the next node in comes before what leaves it out
    pub after_between : (best : Given) → IsPassed graph (true ∷ prefix) best → IsAfterBest graph best (false ∷ prefix)
    after_between None passed = tt
    after_between (Some best) (inl before) = before_more graph flows prefix false (set.contains best) (before_in graph flows prefix (set.contains best) before)
    after_between (Some best) (inr goes) = before_by_next graph flows prefix (set.contains best) node next goes

    passed_behind : (best : Given) → IsGood graph limits best → IsPassed graph (false ∷ prefix) best → IsPassed graph prefix best
    passed_behind None good passed = tt
    passed_behind (Some best) good (inl before) = elim (before_out graph flows prefix (set.contains best) good.0.eligible before) [
      | inl earlier ↦ inl earlier
      | inr goes ↦ inr (completes_earlier graph prefix (set.contains best) true goes)
    ]
    passed_behind (Some best) good (inr goes) = inr (completes_earlier graph prefix (set.contains best) false goes)

    module _ (before between after : Incumbent) (in_items out_items : List Item) (first : IsLogged graph limits (true ∷ prefix) before between in_items)
        (second : IsLogged graph limits (false ∷ prefix) between after out_items) where
      both_grow : (after ≡ before) ⊎ (before.gain <ℤ after.gain)
      both_grow = elim first.grows [
        | inl same ↦ elim second.grows [
          | inl same_too ↦ inl (same_too ∙ same)
          | inr more ↦ inr (subst (λ (b : Incumbent). b.gain <ℤ after.gain) same more)
        ]
        | inr more ↦ inr (elim second.grows [
          | inl same ↦ subst (λ (b : Incumbent). before.gain <ℤ b.gain) (sym same) more
          | inr more_too ↦ less_less more more_too
        ])
      ]

      pub logged_branch : length prefix < eligible_nodes graph → IsLogged graph limits prefix before after (B ∷ (in_items ++ out_items))
      logged_branch some = record {
        measured = second.measured;
        grows = both_grow;
        passed = passed_behind after.cut second.measured.good second.passed;
        tree = branch first.tree second.tree;
        right = λ later later_is. (
          some,
          all_both (IsRightAt graph limits later) (stations first.tree (true ∷ prefix)) (stations second.tree (false ∷ prefix))
              (first.right later (later_earlier between after second.measured second.grows later later_is)) (second.right later later_is),
        );
      }
