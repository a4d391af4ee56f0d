-- Open prefixes of pairs, and the gain that is reached before a prefix and behind it.
use Rattle.std.proofs.Common.{◌≡◌, ℕ, zero, suc, ◌<◌, Bool, not, ◌⊎◌, inl, inr, IsTrue, ◌∷◌, ◌++◌, refl, sym, ap, ◌∙◌, subst}
use Rattle.std.proofs.Common.{arith, ℤ, ◌≤ℤ◌, ◌<ℤ◌, true≢false}
use Rattle.std.proofs.lemmas.Int.{ints}
use Rattle.ci_cut.specs.declared.graph.Limits.{Limits}
use Rattle.ci_cut.specs.FlowGraph.{FlowGraph}
use Rattle.ci_cut.specs.GraphRules.{IsFlowGraph}
use Rattle.ci_cut.specs.Prefixes as cuts
use Rattle.ci_cut.specs.private.Reached as one
use Rattle.ci_cut.specs.ListCounts.{AtLeast}
use Rattle.ci_cut.proofs.ListCountLaws.{AtLeast-nil, AtLeast-cases, AtLeast-split}
use Rattle.ci_cut.proofs.NeedLaws.{compare_gains}
use Rattle.ci_cut.proofs.PrefixLaws.{same_test, decided_cases, decided_newest, decided_earlier, next_below, next_unique, above_next, not_both, possible_parts, possible_from}
use Rattle.ci_pair.specs.Pairs.{NodePair, FitTogether, Label, First, Second, Out, label_of, label, rank}
use Rattle.ci_pair.specs.Prefixes.{PairPrefix, is_label, choices, labelled, chosen, bound, IsBefore, IsOpen, continuations}
use Rattle.ci_pair.specs.private.Reached.{Completes, IsReached, IsReachedBefore, IsReachedBehind}
use Rattle.ci_pair.proofs.PrefixLaws.{cases_label, first_is, second_is, same_next, chosen_completes, completes_more, completes_earlier}
use Rattle.ci_pair.proofs.PrefixLaws.{labelled_as, before_more, has_that, not_both_greatest, stays_mirrored, stays_crossing}
use Rattle.ci_pair.proofs.BoundLaws.{pair_bound, first_bounded, second_bounded, open_earlier}

-- ---- what comes before a prefix, by its newest label

same_label : (l m : Label) → IsTrue (is_label l m) → l ≡ m
same_label First First is = refl
same_label First Second is = absurd (true≢false (sym is))
same_label First Out is = absurd (true≢false (sym is))
same_label Second First is = absurd (true≢false (sym is))
same_label Second Second is = refl
same_label Second Out is = absurd (true≢false (sym is))
same_label Out First is = absurd (true≢false (sym is))
same_label Out Second is = absurd (true≢false (sym is))
same_label Out Out is = refl

pub own_label : (l : Label) → IsTrue (is_label l l)
own_label First = refl
own_label Second = refl
own_label Out = refl

module _ (graph : FlowGraph) (prefix : PairPrefix) where
  -- the newest label, or an earlier one
  before_cases : (l : Label) (pair : NodePair) (before : IsBefore graph pair (l ∷ prefix))
      → (IsTrue (cuts.is_next graph (choices before.there prefix) before.node) × (rank (label pair before.node) < rank l))
      ⊎ IsBefore graph pair prefix
  before_cases l pair before = elim (decided_cases graph (λ b. b) (is_label before.there l) (choices before.there prefix) before.node before.has_label) [
    | inl newest ↦ inl (newest.0, subst (λ m. rank (label pair before.node) < rank m) (same_label before.there l newest.1) before.earlier)
    | inr earlier ↦ inr (record {
      node = before.node;
      there = before.there;
      has_label = earlier;
      earlier = before.earlier;
      same_above = λ k above. before.same_above k above ∙ (λ i. label_of
          (labelled_as graph prefix l First before.there before.node k earlier above i)
          (labelled_as graph prefix l Second before.there before.node k earlier above i));
    })
  ]

  -- above the next node the newest label changes nothing
  above_newest : (which l : Label) (node k : ℕ) → IsTrue (cuts.is_next graph (choices First prefix) node) → node < k
      → labelled graph which (l ∷ prefix) k ≡ labelled graph which prefix k
  above_newest which l node k next above =
      same_test (labelled graph which (l ∷ prefix) k) (labelled graph which prefix k)
      (λ in_. elim (decided_cases graph (λ b. b) (is_label which l) (choices which prefix) k in_) [
        | inl newest ↦ absurd (omega (arith, next_unique graph (choices which prefix) k node newest.0 (same_next graph First which prefix node next)))
        | inr earlier ↦ earlier
      ])
      (decided_earlier graph (λ b. b) (is_label which l) (choices which prefix) k)

  -- a pair that has the same labels above the next node goes on from the prefix
  module _ (pair : NodePair) (first : (k : ℕ) → IsTrue (pair.first k) → IsTrue (cuts.is_eligible graph k))
      (second : (k : ℕ) → IsTrue (pair.second k) → IsTrue (cuts.is_eligible graph k))
      (apart : (k : ℕ) → IsTrue (pair.first k) → ¬ IsTrue (pair.second k)) (node : ℕ)
      (next : IsTrue (cuts.is_next graph (choices First prefix) node))
      (same : (k : ℕ) → node < k → label pair k ≡ label (chosen graph prefix) k) where
    first_same : (k : ℕ) → node < k → pair.first k ≡ labelled graph First prefix k
    first_same k above = sym (first_is (pair.first k) (pair.second k)) ∙ ap (is_label First) (same k above)
        ∙ first_is (labelled graph First prefix k) (labelled graph Second prefix k)

    second_same : (k : ℕ) → node < k → pair.second k ≡ labelled graph Second prefix k
    second_same k above = sym (second_is (pair.first k) (pair.second k) (apart k)) ∙ ap (is_label Second) (same k above)
        ∙ second_is (labelled graph First prefix k) (labelled graph Second prefix k) ((chosen_completes graph prefix).disjoint k)

    goes_on : (which : Label) (cut : ℕ → Bool) → ((k : ℕ) → IsTrue (cut k) → IsTrue (cuts.is_eligible graph k))
        → ((k : ℕ) → node < k → cut k ≡ labelled graph which prefix k) → one.Completes graph (choices which prefix) cut
    goes_on which cut eligible is =
        let here = same_next graph First which prefix node next in
        record {
          has = λ k in_. is k (next_below graph (λ b. b) (choices which prefix) node k here in_) ∙ in_;
          within = λ k in_. possible_from graph (choices which prefix) k (eligible k in_)
              (λ out. not_both graph (choices which prefix) k (sym (is k (next_below graph not (choices which prefix) node k here out)) ∙ in_) out);
        }

    agrees : Completes graph prefix pair
    agrees = record { first = goes_on First pair.first first first_same; second = goes_on Second pair.second second second_same; disjoint = apart }

  -- a prefix whose newest label is the first comes after the same pairs
  pub before_first : (pair : NodePair) → IsBefore graph pair (First ∷ prefix) → IsBefore graph pair prefix
  before_first pair before = elim (before_cases First pair before) [
    | inl newest ↦ absurd (omega (arith, newest.1))
    | inr earlier ↦ earlier
  ]

  -- one with another newest label comes also after the pairs that go on with a label before it
  pub before_other : (limits : Limits) (l : Label) (pair : NodePair) → FitTogether graph limits pair → IsBefore graph pair (l ∷ prefix)
      → ((m : Label) × (rank m < rank l) × Completes graph (m ∷ prefix) pair) ⊎ IsBefore graph pair prefix
  before_other limits l pair fit before = elim (before_cases l pair before) [
    | inr earlier ↦ inr earlier
    | inl newest ↦
        let next = same_next graph before.there First prefix before.node newest.0 in
        let goes = agrees pair fit.first_fits.eligible fit.second_fits.eligible fit.disjoint before.node next
        (λ k above. before.same_above k above ∙ (λ i. label_of (above_newest First l before.node k next above i) (above_newest Second l before.node k next above i))) in
        inl (label pair before.node, newest.1, completes_more graph prefix pair before.node (label pair before.node) goes next refl)
  ]

  pub before_by_label : (l m : Label) (pair : NodePair) (node : ℕ) → IsTrue (cuts.is_next graph (choices First prefix) node) → rank m < rank l
      → Completes graph (m ∷ prefix) pair → IsBefore graph pair (l ∷ prefix)
  before_by_label l m pair node next less goes =
      let has : IsTrue (labelled graph m (m ∷ prefix) node) =
      decided_newest graph (λ b. b) (is_label m m) (choices m prefix) node (same_next graph First m prefix node next) (own_label m) in
      let earlier = completes_earlier graph prefix pair m goes in
      record {
        node = node;
        there = l;
        has_label = decided_newest graph (λ b. b) (is_label l l) (choices l prefix) node (same_next graph First l prefix node next) (own_label l);
        earlier = subst (λ x. rank x < rank l) (sym (has_that graph (m ∷ prefix) pair goes m node has)) less;
        same_above = λ k above. (λ i. label_of
            (as_chosen First pair.first earlier.first k above i) (as_chosen Second pair.second earlier.second k above i));
      }
    where
      as_chosen : (which : Label) (cut : ℕ → Bool) → one.Completes graph (choices which prefix) cut → (k : ℕ) → node < k
          → cut k ≡ labelled graph which (l ∷ prefix) k
      as_chosen which cut own k above =
          same_test (cut k) (labelled graph which prefix k)
          (λ here.
          let parts = possible_parts graph (choices which prefix) k (own.within k here) in
          elim (above_next graph (choices which prefix) node k (same_next graph First which prefix node next) above parts.0) [
            | inl in_ ↦ in_
            | inr out ↦ absurd (parts.1 out)
          ]) (own.has k)
          ∙ sym (above_newest which l node k next above)

-- ---- open prefixes

module _ (graph : FlowGraph) (limits : Limits) where
  -- nothing is open below a prefix that isn't
  pub none_open : (flows : IsFlowGraph graph) (left n : ℕ) (prefix : PairPrefix) → ¬ IsOpen graph limits prefix
      → AtLeast (IsOpen graph limits) n (continuations left prefix) → n ≡ 0
  unfolding continuations
  none_open flows zero n prefix closed found = AtLeast-nil (IsOpen graph limits) found
  none_open flows (suc left) n prefix closed found = elim (AtLeast-cases (IsOpen graph limits) found) [
    | inl zero_ ↦ zero_
    | inr (inl (m, is_suc, is, rest)) ↦ absurd (closed is)
    | inr (inr rest) ↦
        let parts = AtLeast-split (IsOpen graph limits) (continuations left (First ∷ prefix))
        (continuations left (Second ∷ prefix) ++ continuations left (Out ∷ prefix)) rest in
        let others = AtLeast-split (IsOpen graph limits) (continuations left (Second ∷ prefix)) (continuations left (Out ∷ prefix)) parts.3 in
        let first = none_open flows left parts.0 (First ∷ prefix) (λ is. closed (open_earlier graph flows prefix First limits is)) parts.2 in
        let second = none_open flows left others.0 (Second ∷ prefix) (λ is. closed (open_earlier graph flows prefix Second limits is)) others.2 in
        let out = none_open flows left others.1 (Out ∷ prefix) (λ is. closed (open_earlier graph flows prefix Out limits is)) others.3 in
        omega (arith, parts.4, others.4)
  ]

less_through : {a b c : ℤ} → a ≤ℤ b → b <ℤ c → a <ℤ c
less_through h k = omega (arith, ints)

module _ (graph : FlowGraph) (flows : IsFlowGraph graph) (limits : Limits) where
  -- the same pairs in other words
  reached_as : (There Here : NodePair → Type 0) (reached : ℤ)
      → ((pair : NodePair) → FitTogether graph limits pair → Here pair → There pair)
      → ((pair : NodePair) → FitTogether graph limits pair → There pair → Here pair)
      → IsReached graph limits There reached → IsReached graph limits Here reached
  reached_as There Here reached back there is = record {
    least = is.least;
    most = λ pair fit among. is.most pair fit (back pair fit among);
    found = elim is.found [ inl zero_ ↦ inl zero_ | inr (pair, fit, among, gains) ↦ inr (pair, fit, there pair fit among, gains) ];
  }

  module _ (prefix : PairPrefix) (reached : ℤ) where
    pub open_by_bound : IsReachedBefore graph limits prefix reached → ((pair : NodePair) × FitTogether graph limits pair × Completes graph prefix pair)
        → reached <ℤ bound graph prefix → IsOpen graph limits prefix
    open_by_bound is (some, fit, goes) more = record {
      not_mirrored = λ mirrored. not_both_greatest some.first some.second fit.has_greatest (stays_mirrored graph prefix some goes mirrored);
      not_crossing = λ crossing. fit.uncrossed (stays_crossing graph prefix some goes crossing);
      first = first_bounded graph flows prefix some goes limits fit;
      second = second_bounded graph flows prefix some goes limits fit;
      above_none = less_through is.least more;
      above_each = λ pair fits before. less_through (is.most pair fits before) more;
    }

    pub bound_of_open : IsReachedBefore graph limits prefix reached → IsOpen graph limits prefix → reached <ℤ bound graph prefix
    bound_of_open is open_ = elim is.found [
      | inl zero_ ↦ subst (λ (z : ℤ). z <ℤ bound graph prefix) (sym zero_) open_.above_none
      | inr (pair, fit, before, gains) ↦ subst (λ (z : ℤ). z <ℤ bound graph prefix) gains (open_.above_each pair fit before)
    ]

    -- what goes on from a prefix that isn't open reaches no more
    pub reached_closed : IsReachedBefore graph limits prefix reached → ¬ IsOpen graph limits prefix → IsReachedBehind graph limits prefix reached
    reached_closed is closed = record {
      least = is.least;
      most = λ pair fit among. elim among [
        | inl before ↦ is.most pair fit before
        | inr goes ↦ elim (compare_gains reached (bound graph prefix)) [
          | inl more ↦ absurd (closed (open_by_bound is (pair, fit, goes) more))
          | inr (inl same) ↦ let most = pair_bound graph flows prefix pair goes in omega (arith, ints)
          | inr (inr less) ↦ let most = pair_bound graph flows prefix pair goes in omega (arith, ints)
        ]
      ];
      found = elim is.found [ inl zero_ ↦ inl zero_ | inr (pair, fit, before, gains) ↦ inr (pair, fit, inl before, gains) ];
    }

    -- ---- along a branch

    pub reached_first : IsReachedBefore graph limits prefix reached → IsReachedBefore graph limits (First ∷ prefix) reached
    reached_first = reached_as _ _ reached (λ pair fit. before_first graph prefix pair) (λ pair fit. before_more graph prefix First pair)

    module _ (node : ℕ) (next : IsTrue (cuts.is_next graph (choices First prefix) node)) where
      pub reached_second : IsReachedBehind graph limits (First ∷ prefix) reached → IsReachedBefore graph limits (Second ∷ prefix) reached
      reached_second = reached_as _ _ reached
          (λ pair fit before. elim (before_other graph prefix limits Second pair fit before) [
            | inr earlier ↦ inl (before_more graph prefix First pair earlier)
            | inl (m, less, goes) ↦ elim (cases_label m) [
              | inl is ↦ inr (subst (λ l. Completes graph (l ∷ prefix) pair) is goes)
              | inr (inl is) ↦ absurd (omega (arith, less, ap rank is))
              | inr (inr is) ↦ absurd (omega (arith, less, ap rank is))
            ]
          ])
          (λ pair fit among. elim among [
            | inl before ↦ before_more graph prefix Second pair (before_first graph prefix pair before)
            | inr goes ↦ before_by_label graph prefix Second First pair node next (omega arith) goes
          ])

      pub reached_out : IsReachedBehind graph limits (Second ∷ prefix) reached → IsReachedBefore graph limits (Out ∷ prefix) reached
      reached_out = reached_as _ _ reached
          (λ pair fit before. elim (before_other graph prefix limits Out pair fit before) [
            | inr earlier ↦ inl (before_more graph prefix Second pair earlier)
            | inl (m, less, goes) ↦ elim (cases_label m) [
              | inl is ↦ inl (before_by_label graph prefix Second First pair node next (omega arith) (subst (λ l. Completes graph (l ∷ prefix) pair) is goes))
              | inr (inl is) ↦ inr (subst (λ l. Completes graph (l ∷ prefix) pair) is goes)
              | inr (inr is) ↦ absurd (omega (arith, less, ap rank is))
            ]
          ])
          (λ pair fit among. elim among [
            | inr goes ↦ before_by_label graph prefix Out Second pair node next (omega arith) goes
            | inl before ↦ elim (before_other graph prefix limits Second pair fit before) [
              | inr earlier ↦ before_more graph prefix Out pair earlier
              | inl (m, less, goes) ↦ before_by_label graph prefix Out m pair node next (omega (arith, less)) goes
            ]
          ])

      pub reached_behind : IsReachedBehind graph limits (Out ∷ prefix) reached → IsReachedBehind graph limits prefix reached
      reached_behind = reached_as _ _ reached
          (λ pair fit among. elim among [
            | inl before ↦ inl (before_more graph prefix Out pair before)
            | inr goes ↦ elim (cases_label (label pair node)) [
              | inl is ↦ inl (before_by_label graph prefix Out First pair node next (omega arith) (completes_more graph prefix pair node First goes next is))
              | inr (inl is) ↦ inl (before_by_label graph prefix Out Second pair node next (omega arith) (completes_more graph prefix pair node Second goes next is))
              | inr (inr is) ↦ inr (completes_more graph prefix pair node Out goes next is)
            ]
          ])
          (λ pair fit among. elim among [
            | inl before ↦ elim (before_other graph prefix limits Out pair fit before) [
              | inr earlier ↦ inl earlier
              | inl (m, less, goes) ↦ inr (completes_earlier graph prefix pair m goes)
            ]
            | inr goes ↦ inr (completes_earlier graph prefix pair Out goes)
          ])
