-- What a search for pairs has found at a prefix, from what it has found behind it.
use Rattle.std.proofs.Common.{◌≡◌, ℕ, suc, ◌+◌, ◌<◌, ◌≤◌, IsTrue, [], ◌∷◌, ◌++◌, length, refl, sym, ap, ◌∙◌, subst, arith, ℤ, pos, List, Option, MatchOption, Some, None, true≢false, inl, inr, ◌⊎◌, ◌≤ℤ◌, ◌<ℤ◌}
use Rattle.std.proofs.lemmas.Int.{ints}
use Rattle.ci_region.specs.BoundedMap.{BoundedMap, used}
use Rattle.ci_cut.specs.declared.graph.Limits.{Limits}
use Rattle.ci_cut.specs.FlowGraph.{FlowGraph}
use Rattle.ci_cut.specs.GraphRules.{IsFlowGraph}
use Rattle.ci_cut.specs.Prefixes as cuts
use Rattle.ci_cut.specs.ListCounts.{AtLeast, none, counted, passed}
use Rattle.ci_cut.proofs.ListCountLaws.{AtLeast-left, AtLeast-both, AtLeast-fewer}
use Rattle.ci_cut.proofs.PrefixLaws.{is_decided-none}
use Rattle.ci_pair.specs.declared.log.PairItem.{PairItem}
use Rattle.ci_pair.specs.declared.log.PairItem.TheVariants.{B, F}
use Rattle.ci_pair.specs.declared.flattening.PairChild.{PairChild}
use Rattle.ci_pair.specs.declared.flattening.PairChild.TheVariants.{Leaf}
use Rattle.ci_pair.specs.declared.flattening.PairNode.{PairNode}
use Rattle.ci_pair.specs.declared.pair.Pair.{Pair}
use Rattle.ci_pair.specs.declared.rules.PairIncumbent.{PairIncumbent}
use Rattle.ci_pair.specs.declared.terms.PairTerms.{PairTerms}
use Rattle.ci_pair.specs.declared.terms.PairDelays.{PairDelays}
use Rattle.ci_pair.specs.Pairs.{NodePair, FitTogether, pair_gain, First, Second, Out}
use Rattle.ci_pair.specs.Prefixes.{PairPrefix, choices, chosen, IsBefore, IsOpen, continuations}
use Rattle.ci_pair.specs.private.Reached.{Completes, IsReachedBefore, IsReachedBehind}
use Rattle.ci_pair.specs.PairSets.{sets, given}
use Rattle.ci_pair.specs.private.States.{Represents}
use Rattle.ci_pair.specs.private.Judged.{IsMeasured}
use Rattle.ci_pair.specs.private.Searched.{Prunes, IsImproved}
use Rattle.ci_pair.specs.Answered.{free}
use Rattle.ci_pair.specs.private.SearchTrees.{left, IsReady, IsReadyFor, IsSearched, IsSpentAt, IsGivenBack, IsBranch}
use Rattle.ci_pair.specs.RegionTrees.{IsTreeIn, LiesIn}
use Rattle.ci_pair.specs.Rules.{IsAfterBest, IsRight}
use Rattle.ci_pair.proofs.PrefixLaws.{whole_pair, chosen_completes}
use Rattle.ci_pair.proofs.NeedLaws.{reached_closed, reached_first, reached_second, reached_out, reached_behind}
use Rattle.ci_pair.proofs.ClosedLaws.{not_mirrored_none}
use Rattle.ci_pair.proofs.RegionLaws.{at_leaf, moved}
use Rattle.ci_pair.proofs.LogLaws.{bar_closes, logged_bar, bar_is_leaf, logged_whole, logged_branch, after_first, after_second, after_out}

continuations-more : (most fewer : ℕ) (prefix : PairPrefix) → most ≡ suc fewer
    → continuations most prefix ≡ (prefix ∷ (continuations fewer (First ∷ prefix)
    ++ (continuations fewer (Second ∷ prefix) ++ continuations fewer (Out ∷ prefix))))
unfolding continuations
continuations-more most fewer prefix one_less = ap (λ (n : ℕ). continuations n prefix) one_less

-- ---- options

pub match_as : {X : Type 0} (o : Option X) {P P' : Type 0} {Q Q' : X → Type 0} → (P → P') → ((x : X) → Q x → Q' x) → MatchOption o P Q → MatchOption o P' Q'
match_as None first second is = first is
match_as (Some x) first second is = second x is

pub if_none : {X : Type 0} (o : Option X) (P : Type 0) (Q : X → Type 0) → o ≡ None → MatchOption o P Q → P
if_none None P Q same is = is
if_none (Some x) P Q same is = absurd (cc)

pub if_some : {X : Type 0} (o : Option X) (x : X) (P : Type 0) (Q : X → Type 0) → o ≡ Some x → MatchOption o P Q → Q x
if_some None x P Q same is = absurd (cc)
if_some (Some y) x P Q same is = let here : y ≡ x = cc in subst Q here is

pub match_both : {X : Type 0} (o : Option X) (P P' : Type 0) (Q Q' : X → Type 0) → MatchOption o P Q → MatchOption o P' Q' → MatchOption o (P × P') (λ x. Q x × Q' x)
match_both None P P' Q Q' first second = (first, second)
match_both (Some x) P P' Q Q' first second = (first, second)

-- ---- leaves

module _ (graph : FlowGraph) (flows : IsFlowGraph graph) (limits : Limits) (prefix : PairPrefix) (best : PairIncumbent)
    (is : IsMeasured graph limits best) (after_best : IsAfterBest graph (given best.pair) prefix) (reached : IsReachedBefore graph limits prefix best.gain)
    (region : BoundedMap PairNode) (within : used region ≤ region.capacity) where
  -- from a whole choice the one pair goes on that is labelled
  reached_whole : cuts.eligible_nodes graph ≤ length prefix → (pair : Pair) → sets pair ≡ chosen graph prefix → (later : PairIncumbent)
      → IsImproved graph limits best pair later → IsReachedBehind graph limits prefix later.gain
  reached_whole whole pair same later better = record {
    least = least_of better;
    most = λ other fit among. elim among [
      | inl before ↦ kept_of better (reached.most other fit before)
      | inr goes ↦
          let one = whole_pair graph prefix other whole goes ∙ sym same in
          subst (λ p. pair_gain graph p ≤ℤ later.gain) (sym one) (most_of better (subst (FitTogether graph limits) one fit))
    ];
    found = found_of better;
  }
    where
      grown : {a b : ℤ} → a ≤ℤ b → {c : ℤ} → b <ℤ c → a ≤ℤ c
      grown h k = omega (arith, ints)

      same_as : {a b : ℤ} → a ≡ b → b ≤ℤ a
      same_as e = omega (arith, ints)

      least_of : IsImproved graph limits best pair later → pos 0 ≤ℤ later.gain
      least_of (inl (is_same, most)) = subst (λ (b : PairIncumbent). pos 0 ≤ℤ b.gain) (sym is_same) reached.least
      least_of (inr (is_pair, fit, gains, more)) = grown reached.least more

      kept_of : IsImproved graph limits best pair later → {z : ℤ} → z ≤ℤ best.gain → z ≤ℤ later.gain
      kept_of (inl (is_same, most)) {z} h = subst (λ (b : PairIncumbent). z ≤ℤ b.gain) (sym is_same) h
      kept_of (inr (is_pair, fit, gains, more)) h = grown h more

      most_of : IsImproved graph limits best pair later → FitTogether graph limits (sets pair) → pair_gain graph (sets pair) ≤ℤ later.gain
      most_of (inl (is_same, most)) fit = subst (λ (b : PairIncumbent). pair_gain graph (sets pair) ≤ℤ b.gain) (sym is_same) (most fit)
      most_of (inr (is_pair, _, gains, more)) fit = same_as gains

      found_of : IsImproved graph limits best pair later → (later.gain ≡ pos 0)
          ⊎ ((other : NodePair) × FitTogether graph limits other × (IsBefore graph other prefix ⊎ Completes graph prefix other) × (pair_gain graph other ≡ later.gain))
      found_of (inl (is_same, most)) = elim reached.found [
        | inl zero_ ↦ inl (ap (λ (b : PairIncumbent). b.gain) is_same ∙ zero_)
        | inr (other, fit, before, gains) ↦ inr (other, fit, inl before, gains ∙ sym (ap (λ (b : PairIncumbent). b.gain) is_same))
      ]
      found_of (inr (is_pair, fit, gains, more)) =
          inr (sets pair, fit, inr (subst (Completes graph prefix) (sym same) (chosen_completes graph prefix)), sym gains)

  pub searched_whole : cuts.eligible_nodes graph ≤ length prefix → (pair : Pair) → sets pair ≡ chosen graph prefix → (later : PairIncumbent)
      → IsImproved graph limits best pair later → IsSearched graph limits prefix best later region region (Leaf F)
  searched_whole whole pair same later better = record {
    items = F ∷ [];
    tree = at_leaf tt;
    same_capacity = refl;
    within = within;
    logged = logged_whole graph flows limits best later is pair prefix same after_best whole better;
    reached = reached_whole whole pair same later better;
    count = 0;
    is_used = omega arith;
    found = none;
  }

  pub searched_bar : (item : PairItem) → Prunes item → IsRight graph limits (given best.pair) prefix item
      → IsSearched graph limits prefix best best region region (Leaf item)
  searched_bar item bar right = record {
    items = item ∷ [];
    tree = at_leaf (bar_is_leaf graph flows limits best is prefix item bar);
    same_capacity = refl;
    within = within;
    logged = logged_bar graph flows limits best is prefix after_best item bar right;
    reached = reached_closed graph flows limits prefix best.gain reached (bar_closes graph flows limits best is prefix reached item bar right);
    count = 0;
    is_used = omega arith;
    found = none;
  }

-- ---- a branch

module _ (graph : FlowGraph) (limits : Limits) (prefix : PairPrefix) (terms : PairTerms) (delays : PairDelays) (best : PairIncumbent)
    (ready : IsReady graph limits terms delays best prefix) (is : IsMeasured graph limits best)
    (region : BoundedMap PairNode) (node : ℕ) (next : IsTrue (cuts.is_next graph (choices First prefix) node))
    (some : length prefix < cuts.eligible_nodes graph) where
  flows : IsFlowGraph graph
  flows = ready.represents.first.kept

  abbrev under : ℕ
  under = left graph (First ∷ prefix)

  more_open : (n : ℕ) → AtLeast (IsOpen graph limits) n
      (prefix ∷ (continuations under (First ∷ prefix) ++ (continuations under (Second ∷ prefix) ++ continuations under (Out ∷ prefix))))
      → AtLeast (IsOpen graph limits) n (continuations (left graph prefix) prefix)
  more_open n = subst (AtLeast (IsOpen graph limits) n) (sym (continuations-more (left graph prefix) under prefix (omega arith)))

  pub ready_first : IsReadyFor graph limits First terms delays best node prefix
  ready_first = record {
    represents = ready.represents;
    not_mirrored = ready.not_mirrored;
    next = next;
    after_best = after_first graph flows limits prefix node next (given best.pair) ready.after_best;
    reached = reached_first graph flows limits prefix best.gain ready.reached;
  }

  pub spent_first : (after : BoundedMap PairNode) → IsSpentAt graph limits (First ∷ prefix) region after → IsSpentAt graph limits prefix region after
  spent_first after (same, found) = (same, more_open _ (passed (AtLeast-left (IsOpen graph limits) found _)))

  module _ (one : BoundedMap PairNode) (first_best : PairIncumbent) (first_root : PairChild)
      (first : IsSearched graph limits (First ∷ prefix) best first_best region one first_root) where
    pub ready_second : (later : PairDelays) → Represents graph prefix terms later
        → IsReadyFor graph limits Second terms later first_best node prefix
    ready_second later represents = record {
      represents = represents;
      not_mirrored = ready.not_mirrored;
      next = next;
      after_best = after_second graph flows limits prefix node next (given first_best.pair) first.logged.passed;
      reached = reached_second graph flows limits prefix first_best.gain node next first.reached;
    }

    pub found_second : AtLeast (IsOpen graph limits) (suc (free one)) (continuations under (Second ∷ prefix))
        → AtLeast (IsOpen graph limits) (suc (free region)) (continuations (left graph prefix) prefix)
    found_second found = more_open _ (passed (AtLeast-fewer (IsOpen graph limits)
        (AtLeast-both (IsOpen graph limits) _ first.found (AtLeast-left (IsOpen graph limits) found (continuations under (Out ∷ prefix))))
        (suc (free region)) (omega (arith, first.is_used, first.same_capacity, first.within))))

    module _ (two : BoundedMap PairNode) (second_best : PairIncumbent) (second_root : PairChild)
        (second : IsSearched graph limits (Second ∷ prefix) first_best second_best one two second_root) where
      pub ready_out : (later : PairDelays) → Represents graph prefix terms later
          → IsReadyFor graph limits Out terms later second_best node prefix
      ready_out later represents = record {
        represents = represents;
        not_mirrored = ready.not_mirrored;
        next = next;
        after_best = after_out graph flows limits prefix node next (given second_best.pair) second.logged.measured.good second.logged.passed;
        reached = reached_out graph flows limits prefix second_best.gain node next second.reached;
      }

      pub found_out : AtLeast (IsOpen graph limits) (suc (free two)) (continuations under (Out ∷ prefix))
          → AtLeast (IsOpen graph limits) (suc (free region)) (continuations (left graph prefix) prefix)
      found_out found = more_open _ (passed (AtLeast-fewer (IsOpen graph limits)
          (AtLeast-both (IsOpen graph limits) _ first.found (AtLeast-both (IsOpen graph limits) _ second.found found))
          (suc (free region)) (omega (arith, first.is_used, first.same_capacity, second.is_used, second.same_capacity, second.within))))

      module _ (three : BoundedMap PairNode) (out_best : PairIncumbent) (out_root : PairChild)
          (out : IsSearched graph limits (Out ∷ prefix) second_best out_best two three out_root) where
        pub found_here : IsOpen graph limits prefix → used three ≡ three.capacity
            → AtLeast (IsOpen graph limits) (suc (free region)) (continuations (left graph prefix) prefix)
        found_here is_open full = more_open _ (AtLeast-fewer (IsOpen graph limits)
            (counted is_open (AtLeast-both (IsOpen graph limits) _ first.found (AtLeast-both (IsOpen graph limits) _ second.found out.found)))
            (suc (free region))
            (omega (arith, first.is_used, first.same_capacity, second.is_used, second.same_capacity, out.is_used, out.same_capacity)))

        pub searched_branch : IsOpen graph limits prefix → (last : BoundedMap PairNode) (root : PairChild)
            → IsBranch three last first_root second_root out_root root → IsSearched graph limits prefix best out_best region last root
        searched_branch is_open last root joined = record {
          items = B ∷ (first.items ++ (second.items ++ out.items));
          tree = joined.tree first.items second.items out.items region.values (record {
            behind = two.values;
            between = one.values;
            out_tree = out.tree;
            second_tree = second.tree;
            first_tree = first.tree;
          });
          same_capacity = joined.same_capacity ∙ out.same_capacity ∙ second.same_capacity ∙ first.same_capacity;
          within = omega (arith, joined.one_more, joined.was_free, joined.same_capacity);
          logged = logged_branch graph flows limits prefix node next best first_best second_best out_best first.items second.items out.items
              first.logged second.logged out.logged some;
          reached = reached_behind graph flows limits prefix out_best.gain node next out.reached;
          count = suc (first.count + (second.count + out.count));
          is_used = omega (arith, joined.one_more, out.is_used, second.is_used, first.is_used);
          found = more_open _ (counted is_open (AtLeast-both (IsOpen graph limits) _ first.found (AtLeast-both (IsOpen graph limits) _ second.found out.found)));
        }

-- a region of which a new tree is given back holds what it held
back_to : (before region after : BoundedMap PairNode) (root : PairChild) (items : List PairItem)
    → IsTreeIn region.values root items before.values → region.capacity ≡ before.capacity → IsGivenBack region root after → after ≡ before
back_to before region after root items tree same back =
    back items before.values tree ∙ (λ i. record { values = before.values; capacity = same i })

module _ {graph : FlowGraph} {limits : Limits} {prefix : PairPrefix} {best later : PairIncumbent} {before held : BoundedMap PairNode} {root : PairChild}
    (is : IsSearched graph limits prefix best later before held root) (region : BoundedMap PairNode) (same : region ≡ held) where
  -- the tree that was found lies in the region while that is the same
  still : IsTreeIn region.values root is.items before.values
  still = moved held region root root is.items before.values same refl is.tree

  pub still_lies : LiesIn region root
  still_lies = (is.items, before.values, still)

  -- and once it is given back there is what was before
  pub given_back_before : (after : BoundedMap PairNode) → IsGivenBack region root after → after ≡ before
  given_back_before after = back_to before region after root is.items still (ap (λ (m : BoundedMap PairNode). m.capacity) same ∙ is.same_capacity)

-- before the first label nothing is reached
pub none_ready : (graph : FlowGraph) (limits : Limits) (terms : PairTerms) (delays : PairDelays) → Represents graph [] terms delays
    → IsReady graph limits terms delays (record { pair = None; gain = pos 0 }) []
none_ready graph limits terms delays represents = record {
  represents = represents;
  not_mirrored = not_mirrored_none graph;
  after_best = tt;
  reached = record {
    least = omega (arith, ints);
    most = λ pair fit before. absurd (true≢false (sym before.has_label ∙ is_decided-none graph (λ b. b) before.node));
    found = inl refl;
  };
}
