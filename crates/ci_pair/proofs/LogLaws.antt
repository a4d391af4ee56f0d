-- Logs of pairs that grow, and what their items show.
use Rattle.std.proofs.Common.{◌≡◌, ℕ, ◌<◌, ◌≤◌, ◌⊎◌, inl, inr, IsTrue, List, [], ◌∷◌}
use Rattle.std.proofs.Common.{◌++◌, length, Some, None, refl, sym, ap, ◌∙◌, subst, arith, ℤ, pos, ◌≤ℤ◌, ◌<ℤ◌}
use Rattle.std.proofs.lemmas.Bool.{cases_lt, cases_order}
use Rattle.std.proofs.lemmas.Int.{ints}
use Rattle.ci_cut.specs.declared.graph.Limits.{Limits}
use Rattle.ci_cut.specs.FlowGraph.{FlowGraph}
use Rattle.ci_cut.specs.GraphRules.{IsFlowGraph}
use Rattle.ci_cut.specs.Prefixes as cuts
use Rattle.ci_cut.proofs.NeedLaws.{compare_gains}
use Rattle.ci_pair.specs.declared.log.PairItem.{PairItem}
use Rattle.ci_pair.specs.declared.log.PairItem.TheVariants.{B, O, C, I, X, M, G, F}
use Rattle.ci_pair.specs.declared.pair.Pair.{Pair}
use Rattle.ci_pair.specs.declared.rules.PairIncumbent.{PairIncumbent}
use Rattle.ci_pair.specs.Pairs.{NodePair, pair_gain, ComesBefore, First, Second, Out, label, rank}
use Rattle.ci_pair.specs.Prefixes.{PairPrefix, choices, chosen, bound, IsOpen}
use Rattle.ci_pair.specs.private.Reached.{Completes, IsReachedBefore}
use Rattle.ci_pair.specs.PairSets.{sets, given}
use Rattle.ci_pair.specs.Trees.{IsLeaf, leaf, branch}
use Rattle.ci_pair.specs.private.Judged.{IsMeasured}
use Rattle.ci_pair.specs.private.Searched.{Prunes, IsPruning, IsLater, IsPassed, IsLogged, IsImproved}
use Rattle.ci_pair.specs.Rules.{Given, best_gain, IsGood, IsAfterBest, IsBeforeBest, IsBetter, IsRight, stations, IsRightAt}
use Rattle.ci_pair.proofs.PrefixLaws.{completes_earlier, chosen_completes, before_more, before_completions}
use Rattle.ci_pair.proofs.NeedLaws.{before_first, before_other, before_by_label, bound_of_open}
use Rattle.ci_cut.proofs.FirstWrongLaws.{all_both}

-- ---- orders

-- of two pairs one comes first
pub one_first : {p q : NodePair} → ComesBefore p q → ComesBefore q p → ⊥
one_first {p = p} {q = q} a b = elim (cases_order a.place b.place) [
  | inl same ↦ omega (arith, a.earlier, b.earlier, ap (λ k. rank (label p k)) same, ap (λ k. rank (label q k)) same)
  | inr (inl below) ↦ omega (arith, b.earlier, ap rank (a.same_above b.place below))
  | inr (inr above) ↦ omega (arith, a.earlier, ap rank (b.same_above a.place above))
]

less_le : {a b c : ℤ} → a <ℤ b → b ≤ℤ c → a <ℤ c
less_le h k = omega (arith, ints)

le_less : {a b c : ℤ} → a ≤ℤ b → b <ℤ c → a <ℤ c
le_less h k = omega (arith, ints)

less_less : {a b c : ℤ} → a <ℤ b → b <ℤ c → a <ℤ c
less_less h k = omega (arith, ints)

le_of_less : {a b : ℤ} → a <ℤ b → a ≤ℤ b
le_of_less h = omega (arith, ints)

not_less_le : {a b : ℤ} → a <ℤ b → b ≤ℤ a → ⊥
not_less_le h k = omega (arith, ints)

le_same : {a b : ℤ} → a ≡ b → a ≤ℤ b
le_same h = omega (arith, ints)

at_most : (m n : ℕ) → ¬ (n < m) → m ≤ n
at_most m n not_less = elim (cases_lt n m) [ inl less ↦ absurd (not_less less) | inr most ↦ most ]

module _ (graph : FlowGraph) (flows : IsFlowGraph graph) (limits : Limits) where
  -- ---- the best pair so far, and later ones

  pub gain_least : (best : PairIncumbent) → IsMeasured graph limits best → pos 0 ≤ℤ best.gain
  gain_least best is = by_pair (given best.pair) is.good is.gain_is
    where
      by_pair : (pair : Given) → IsGood graph limits pair → best.gain ≡ best_gain graph pair → pos 0 ≤ℤ best.gain
      by_pair None good gains = le_same (sym gains)
      by_pair (Some pair) good gains = subst (λ (z : ℤ). pos 0 ≤ℤ z) (sym gains) (le_of_less good.1)

  -- a later best pair gains no less
  pub later_gain : (best : PairIncumbent) → IsMeasured graph limits best → (later : Given) → IsLater graph best later → best.gain ≤ℤ best_gain graph later
  later_gain best is later (inl same) = le_same (is.gain_is ∙ ap (best_gain graph) (sym same))
  later_gain best is later (inr more) = le_of_less more

  -- what is later than the second of two best pairs is later than the first
  pub later_earlier : (before after : PairIncumbent) → IsMeasured graph limits after → (after ≡ before) ⊎ (before.gain <ℤ after.gain) → (later : Given)
      → IsLater graph after later → IsLater graph before later
  later_earlier before after is (inl same) later later_is = subst (λ (b : PairIncumbent). IsLater graph b later) same later_is
  later_earlier before after is (inr more) later later_is = inr (less_le more (later_gain after is later later_is))

  -- ---- items that rule out what goes on

  module _ (best : PairIncumbent) (is : IsMeasured graph limits best) (prefix : PairPrefix) where
    pub pruning_right : (item : PairItem) → Prunes item → IsRight graph limits (given best.pair) prefix item → (later : Given)
        → IsLater graph best later → IsRight graph limits later prefix item
    pruning_right B bar right later later_is = absurd bar
    pruning_right O bar right later later_is = right
    pruning_right C bar right later later_is = right
    pruning_right I bar right later later_is = right
    pruning_right X bar right later later_is = right
    pruning_right M bar right later later_is = right
    pruning_right G bar right later (inl same) = subst (λ (g : Given). IsRight graph limits g prefix G) (sym same) right
    pruning_right G bar (inl less) later (inr more) = inl (less_less (subst (λ (z : ℤ). bound graph prefix <ℤ z) (sym is.gain_is) less) more)
    pruning_right G bar (inr (same, after)) later (inr more) = inl (subst (λ (z : ℤ). z <ℤ best_gain graph later) (is.gain_is ∙ sym same) more)
    pruning_right F bar right later later_is = absurd bar

    module _ (reached : IsReachedBefore graph limits prefix best.gain) where
      pub bar_closes : (item : PairItem) → Prunes item → IsRight graph limits (given best.pair) prefix item → ¬ IsOpen graph limits prefix
      bar_closes B bar right is_open = absurd bar
      bar_closes O bar (inl first) is_open = absurd (omega (arith, is_open.first.outputs_within, first))
      bar_closes O bar (inr second) is_open = absurd (omega (arith, is_open.second.outputs_within, second))
      bar_closes C bar right is_open = right (is_open.first.convex, is_open.second.convex)
      bar_closes I bar (inl first) is_open = absurd (omega (arith, is_open.first.inputs_within, first))
      bar_closes I bar (inr second) is_open = absurd (omega (arith, is_open.second.inputs_within, second))
      bar_closes X bar right is_open = is_open.not_crossing right
      bar_closes M bar right is_open = is_open.not_mirrored right
      bar_closes G bar (inl less) is_open =
          not_less_le (bound_of_open graph flows limits prefix best.gain reached is_open)
          (le_of_less (subst (λ (z : ℤ). bound graph prefix <ℤ z) (sym is.gain_is) less))
      bar_closes G bar (inr (same, after)) is_open =
          not_less_le (bound_of_open graph flows limits prefix best.gain reached is_open) (le_same (same ∙ sym is.gain_is))
      bar_closes F bar right is_open = absurd bar

      -- a prefix at which no item rules out what goes on is open
      pub open_unless_pruned : IsAfterBest graph (given best.pair) prefix → IsPruning graph limits (given best.pair) prefix None → IsOpen graph limits prefix
      open_unless_pruned after none = record {
        not_mirrored = none M tt;
        not_crossing = none X tt;
        first = record {
          convex = λ a b c in_a to_b out_b to_c in_c. none C tt (λ (convex, _). convex a b c in_a to_b out_b to_c in_c);
          outputs_within = at_most _ _ (λ more. none O tt (inl more));
          inputs_within = at_most _ _ (λ more. none I tt (inl more));
        };
        second = record {
          convex = λ a b c in_a to_b out_b to_c in_c. none C tt (λ (_, convex). convex a b c in_a to_b out_b to_c in_c);
          outputs_within = at_most _ _ (λ more. none O tt (inr more));
          inputs_within = at_most _ _ (λ more. none I tt (inr more));
        };
        above_none = le_less reached.least more;
        above_each = λ pair fit before. le_less (reached.most pair fit before) more;
      }
        where
          more : best.gain <ℤ bound graph prefix
          more = elim (compare_gains (bound graph prefix) best.gain) [
            | inl less ↦ absurd (none G tt (inl (subst (λ (z : ℤ). bound graph prefix <ℤ z) is.gain_is less)))
            | inr (inl same) ↦ absurd (none G tt (inr (same ∙ is.gain_is, after)))
            | inr (inr above) ↦ above
          ]

    pub bar_is_leaf : (item : PairItem) → Prunes item → IsLeaf item
    bar_is_leaf B bar = bar
    bar_is_leaf O bar = tt
    bar_is_leaf C bar = tt
    bar_is_leaf I bar = tt
    bar_is_leaf X bar = tt
    bar_is_leaf M bar = tt
    bar_is_leaf G bar = tt
    bar_is_leaf F bar = tt

    passed_of : (pair : Given) → IsAfterBest graph pair prefix → IsPassed graph prefix pair
    passed_of None after = tt
    passed_of (Some pair) after = inl after

    pub logged_bar : IsAfterBest graph (given best.pair) prefix → (item : PairItem) → Prunes item
        → IsRight graph limits (given best.pair) prefix item → IsLogged graph limits prefix best best (item ∷ [])
    logged_bar after item bar right = record {
      measured = is;
      grows = inl refl;
      passed = passed_of (given best.pair) after;
      tree = leaf (bar_is_leaf item bar);
      right = λ later later_is. (pruning_right item bar right later later_is, tt);
    }

  -- ---- whole choices

  module _ (before after : PairIncumbent) (is : IsMeasured graph limits before) (pair : Pair) (prefix : PairPrefix)
      (same_pair : sets pair ≡ chosen graph prefix) (after_before : IsAfterBest graph (given before.pair) prefix) where
    -- a pair that comes behind the best so far isn't before it
    not_before : (best : Given) → IsAfterBest graph best prefix → IsBeforeBest best (sets pair) → ⊥
    not_before None behind first = first
    not_before (Some best) behind first =
        one_first first (before_completions graph prefix (sets pair) (subst (Completes graph prefix) (sym same_pair) (chosen_completes graph prefix)) best behind)

    -- the pair is no better than a best one that gains as much, and no less than the pair
    no_better : (later : Given) → pair_gain graph (sets pair) ≤ℤ best_gain graph later → ¬ IsBeforeBest later (sets pair)
        → ¬ IsBetter graph limits later (sets pair)
    no_better later most not_first better = elim better.more [
      | inl more ↦ not_less_le more most
      | inr (same, first) ↦ not_first first
    ]

    gains_less : (later : Given) → pair_gain graph (sets pair) <ℤ best_gain graph later → ¬ IsBetter graph limits later (sets pair)
    gains_less later less better = elim better.more [
      | inl more ↦ not_less_le more (le_of_less less)
      | inr (same, first) ↦ not_less_le less (le_same same)
    ]

    whole_right : IsImproved graph limits before pair after → (later : Given) → IsLater graph after later → ¬ IsBetter graph limits later (sets pair)
    whole_right (inl (same, most)) later later_is better =
        by_later (subst (λ (b : PairIncumbent). IsLater graph b later) same later_is)
      where
        by_later : IsLater graph before later → ⊥
        by_later (inl is_same) =
            no_better later (subst (λ (z : ℤ). pair_gain graph (sets pair) ≤ℤ z) (is.gain_is ∙ ap (best_gain graph) (sym is_same)) (most better.fit))
            (λ first. not_before (given before.pair) after_before (subst (λ (g : Given). IsBeforeBest g (sets pair)) is_same first)) better
        by_later (inr more) = gains_less later (le_less (most better.fit) more) better
    whole_right (inr (is_pair, fit, gains, more)) later (inl is_same) better =
        let same : later ≡ Some (sets pair) = is_same ∙ ap given is_pair in
        no_better later (le_same (ap (best_gain graph) (sym same)))
        (λ first. let self = subst (λ (g : Given). IsBeforeBest g (sets pair)) same first in one_first self self) better
    whole_right (inr (is_pair, fit, gains, more)) later (inr gains_more) better =
        gains_less later (subst (λ (z : ℤ). z <ℤ best_gain graph later) gains gains_more) better

    whole_measured : IsImproved graph limits before pair after → IsMeasured graph limits after
    whole_measured (inl (same, most)) = subst (IsMeasured graph limits) (sym same) is
    whole_measured (inr (is_pair, fit, gains, more)) = record {
      good = subst (λ p. IsGood graph limits (given p)) (sym is_pair) (fit, subst (λ (z : ℤ). pos 0 <ℤ z) gains (le_less (gain_least before is) more));
      gain_is = gains ∙ ap (λ p. best_gain graph (given p)) (sym is_pair);
    }

    whole_grows : IsImproved graph limits before pair after → (after ≡ before) ⊎ (before.gain <ℤ after.gain)
    whole_grows (inl (same, most)) = inl same
    whole_grows (inr (is_pair, fit, gains, more)) = inr more

    whole_passed : IsImproved graph limits before pair after → IsPassed graph prefix (given after.pair)
    whole_passed (inl (same, most)) = subst (λ (b : PairIncumbent). IsPassed graph prefix (given b.pair)) (sym same) (passed_of before is prefix (given before.pair) after_before)
    whole_passed (inr (is_pair, fit, gains, more)) =
        subst (λ p. IsPassed graph prefix (given p)) (sym is_pair) (inr (subst (Completes graph prefix) (sym same_pair) (chosen_completes graph prefix)))

    pub logged_whole : cuts.eligible_nodes graph ≤ length prefix → IsImproved graph limits before pair after → IsLogged graph limits prefix before after (F ∷ [])
    logged_whole whole better = record {
      measured = whole_measured better;
      grows = whole_grows better;
      passed = whole_passed better;
      tree = leaf tt;
      right = λ later later_is. ((whole, subst (λ (p : NodePair). ¬ IsBetter graph limits later p) same_pair (whole_right better later later_is)), tt);
    }

  -- ---- branches

  module _ (prefix : PairPrefix) (node : ℕ) (next : IsTrue (cuts.is_next graph (choices First prefix) node)) where
    pub after_first : (best : Given) → IsAfterBest graph best prefix → IsAfterBest graph best (First ∷ prefix)
    after_first None after = tt
    after_first (Some best) after = before_more graph prefix First best after

    -- what was passed with a label of the next node comes before what labels it later
    pub after_second : (best : Given) → IsPassed graph (First ∷ prefix) best → IsAfterBest graph best (Second ∷ prefix)
    after_second None passed = tt
    after_second (Some best) (inl before) = before_more graph prefix Second best (before_first graph prefix best before)
    after_second (Some best) (inr goes) = before_by_label graph prefix Second First best node next (omega arith) goes

    pub after_out : (best : Given) → IsGood graph limits best → IsPassed graph (Second ∷ prefix) best → IsAfterBest graph best (Out ∷ prefix)
    after_out None good passed = tt
    after_out (Some best) good (inl before) = elim (before_other graph prefix limits Second best good.0 before) [
      | inr earlier ↦ before_more graph prefix Out best earlier
      | inl (m, less, goes) ↦ before_by_label graph prefix Out m best node next (omega (arith, less)) goes
    ]
    after_out (Some best) good (inr goes) = before_by_label graph prefix Out Second best node next (omega arith) goes

    passed_behind : (best : Given) → IsGood graph limits best → IsPassed graph (Out ∷ prefix) best → IsPassed graph prefix best
    passed_behind None good passed = tt
    passed_behind (Some best) good (inl before) = elim (before_other graph prefix limits Out best good.0 before) [
      | inr earlier ↦ inl earlier
      | inl (m, less, goes) ↦ inr (completes_earlier graph prefix best m goes)
    ]
    passed_behind (Some best) good (inr goes) = inr (completes_earlier graph prefix best Out goes)

    grow_on : (a b c : PairIncumbent) → (b ≡ a) ⊎ (a.gain <ℤ b.gain) → (c ≡ b) ⊎ (b.gain <ℤ c.gain) → (c ≡ a) ⊎ (a.gain <ℤ c.gain)
    grow_on a b c first second = elim first [
      | inl same ↦ elim second [
        | inl same_too ↦ inl (same_too ∙ same)
        | inr more ↦ inr (subst (λ (i : PairIncumbent). i.gain <ℤ c.gain) same more)
      ]
      | inr more ↦ inr (elim second [
        | inl same ↦ subst (λ (i : PairIncumbent). a.gain <ℤ i.gain) (sym same) more
        | inr more_too ↦ less_less more more_too
      ])
    ]

    pub logged_branch : (before first_best second_best after : PairIncumbent) (firsts seconds outs : List PairItem)
        → IsLogged graph limits (First ∷ prefix) before first_best firsts → IsLogged graph limits (Second ∷ prefix) first_best second_best seconds
        → IsLogged graph limits (Out ∷ prefix) second_best after outs → length prefix < cuts.eligible_nodes graph
        → IsLogged graph limits prefix before after (B ∷ (firsts ++ (seconds ++ outs)))
    logged_branch before first_best second_best after firsts seconds outs first second out some = record {
      measured = out.measured;
      grows = grow_on before first_best after first.grows (grow_on first_best second_best after second.grows out.grows);
      passed = passed_behind (given after.pair) out.measured.good out.passed;
      tree = branch first.tree second.tree out.tree;
      right = λ later later_is.
          let for_second = later_earlier second_best after out.measured out.grows later later_is in
          let for_first = later_earlier first_best second_best second.measured second.grows later for_second in (
            some,
            all_both (IsRightAt graph limits later) (stations first.tree (First ∷ prefix)) (stations second.tree (Second ∷ prefix) ++ stations out.tree (Out ∷ prefix))
                (first.right later for_first)
                (all_both (IsRightAt graph limits later) (stations second.tree (Second ∷ prefix)) (stations out.tree (Out ∷ prefix))
                (second.right later for_second) (out.right later later_is)),
          );
    }
