-- What a prefix decides, in which order, and which sets go on from it.
use Rattle.std.proofs.Common.{◌≡◌, ℕ, suc, ◌+◌, ◌-◌, ◌<◌, ◌≤◌, Bool, true, false, not, ◌&&◌, ◌||◌, ◌⊎◌, inl, inr}
use Rattle.std.proofs.Common.{IsTrue, [], ◌∷◌, length, refl, sym, ap, ◌∙◌, arith, true≢false, eqb-true, eq-eqb}
use Rattle.std.proofs.lemmas.Bool.{cases_eq, cases_lt, cases_Bool, and_parts, and_from, or_cases, or_left, or_right, not_from_false, false_from_ne_true}
use Rattle.ci_word.specs.Numbers.{count_below}
use Rattle.ci_cut.specs.FlowGraph.{FlowGraph}
use Rattle.ci_cut.proofs.NodeLaws.{node_in-past}
use Rattle.ci_cut.specs.Prefixes.{Prefix, is_eligible, eligible_nodes, is_next, is_decided, taken, left_out, possible}
use Rattle.ci_cut.specs.private.Reached.{Completes}
use Rattle.ci_cut.proofs.RisingCounts.{count_below-rises, count_below-more, nth_below}

-- tests that imply each other are equal
pub same_test : (a b : Bool) → (IsTrue a → IsTrue b) → (IsTrue b → IsTrue a) → a ≡ b
same_test true b there back = sym (there refl)
same_test false b there back = sym (false_from_ne_true b (λ e. true≢false (sym (back e))))

not_both_ways : (b : Bool) → IsTrue b → IsTrue (not b) → ⊥
not_both_ways true yes_ no_ = true≢false (sym no_)
not_both_ways false yes_ no_ = true≢false (sym yes_)

module _ (graph : FlowGraph) where
  pub eligible_below : (k : ℕ) → IsTrue (is_eligible graph k) → k < length graph.nodes
  eligible_below k eligible = elim (cases_lt k (length graph.nodes)) [
    | inl below ↦ below
    | inr past ↦ absurd (true≢false (sym eligible ∙ ap (λ node. node.eligible) (node_in-past graph.nodes k past)))
  ]

  -- ---- the next node

  pub next_parts : (prefix : Prefix) (k : ℕ) → IsTrue (is_next graph prefix k)
      → IsTrue (is_eligible graph k) × (count_below k (is_eligible graph) + suc (length prefix)
      ≡ eligible_nodes graph)
  next_parts prefix k next =
      let parts = and_parts _ _ next in
      (parts.0, eqb-true _ _ parts.1)

  pub next_from : (prefix : Prefix) (k : ℕ) → IsTrue (is_eligible graph k)
      → count_below k (is_eligible graph) + suc (length prefix) ≡ eligible_nodes graph
      → IsTrue (is_next graph prefix k)
  next_from prefix k eligible count = and_from _ _ eligible (eq-eqb _ _ count)

  pub next_unique : (prefix : Prefix) (j k : ℕ) → IsTrue (is_next graph prefix j) → IsTrue (is_next graph prefix k) → j ≡ k
  next_unique prefix j k first second =
      let a = next_parts prefix j first in
      let b = next_parts prefix k second in
      elim (cases_eq j k) [
        | inl same ↦ same
        | inr other ↦ elim (cases_lt j k) [
          | inl below ↦ absurd (omega (arith, a.1, b.1, count_below-more (is_eligible graph) j k a.0 below))
          | inr above ↦ absurd (omega (arith, a.1, b.1, count_below-more (is_eligible graph) k j b.0 (omega arith)))
        ]
      ]

  -- where a node is undecided there is a next one
  pub next_exists : (prefix : Prefix) → length prefix < eligible_nodes graph → (k : ℕ) × IsTrue (is_next graph prefix k)
  next_exists prefix undecided =
      let rest : ℕ = eligible_nodes graph - suc (length prefix) in
      let found = nth_below (is_eligible graph) (length graph.nodes) rest (omega arith) in
      (found.0, next_from prefix found.0 found.2 (omega (arith, found.3)))

  -- ---- what is decided

  pub is_decided-more : (test : Bool → Bool) (choice : Bool) (prefix : Prefix) (k : ℕ)
      → is_decided graph test (choice ∷ prefix) k
      ≡ ((is_next graph prefix k && test choice) || is_decided graph test prefix k)
  unfolding is_decided
  is_decided-more test choice prefix k = refl

  pub is_decided-none : (test : Bool → Bool) (k : ℕ) → is_decided graph test [] k ≡ false
  unfolding is_decided
  is_decided-none test k = refl

  -- the newest choice, or an earlier one
  pub decided_cases : (test : Bool → Bool) (choice : Bool) (prefix : Prefix) (k : ℕ)
      → IsTrue (is_decided graph test (choice ∷ prefix) k)
      → (IsTrue (is_next graph prefix k) × IsTrue (test choice)) ⊎ IsTrue (is_decided graph test prefix k)
  decided_cases test choice prefix k decided = elim (or_cases _ _ (sym (is_decided-more test choice prefix k) ∙ decided)) [
    | inl newest ↦ inl (and_parts _ _ newest)
    | inr earlier ↦ inr earlier
  ]

  pub decided_newest : (test : Bool → Bool) (choice : Bool) (prefix : Prefix) (k : ℕ)
      → IsTrue (is_next graph prefix k) → IsTrue (test choice) → IsTrue (is_decided graph test (choice ∷ prefix) k)
  decided_newest test choice prefix k next passes = is_decided-more test choice prefix k ∙ or_left _ _ (and_from _ _ next passes)

  pub decided_earlier : (test : Bool → Bool) (choice : Bool) (prefix : Prefix) (k : ℕ)
      → IsTrue (is_decided graph test prefix k) → IsTrue (is_decided graph test (choice ∷ prefix) k)
  decided_earlier test choice prefix k earlier = is_decided-more test choice prefix k ∙ or_right _ _ earlier

  pub decided_parts : (test : Bool → Bool) (prefix : Prefix) (k : ℕ) → IsTrue (is_decided graph test prefix k)
      → IsTrue (is_eligible graph k) × (eligible_nodes graph ≤ count_below k (is_eligible graph) + length prefix)
  decided_parts test [] k decided = absurd (true≢false (sym decided ∙ is_decided-none test k))
  decided_parts test (choice ∷ prefix) k decided = elim (decided_cases test choice prefix k decided) [
    | inl newest ↦ let next = next_parts prefix k newest.0 in (next.0, omega (arith, next.1))
    | inr earlier ↦ let before = decided_parts test prefix k earlier in (before.0, omega (arith, before.1))
  ]

  -- the last eligible nodes, as many as there are decisions, are taken in or left out
  pub in_or_out : (prefix : Prefix) (k : ℕ) → IsTrue (is_eligible graph k)
      → eligible_nodes graph ≤ count_below k (is_eligible graph) + length prefix
      → IsTrue (taken graph prefix k) ⊎ IsTrue (left_out graph prefix k)
  in_or_out [] k eligible late = absurd (omega (arith, count_below-more (is_eligible graph) k (length graph.nodes) eligible (eligible_below k eligible)))
  in_or_out (choice ∷ prefix) k eligible late = elim (cases_eq (count_below k (is_eligible graph) + suc (length prefix)) (eligible_nodes graph)) [
    | inl same ↦
        let next = next_from prefix k eligible same in
        elim (cases_Bool choice) [
          | inl in_ ↦ inl (decided_newest (λ b. b) choice prefix k next in_)
          | inr out ↦ inr (decided_newest not choice prefix k next (not_from_false choice out))
        ]
    | inr other ↦ elim (in_or_out prefix k eligible (omega arith)) [
      | inl in_ ↦ inl (decided_earlier (λ b. b) choice prefix k in_)
      | inr out ↦ inr (decided_earlier not choice prefix k out)
    ]
  ]

  pub next_not_decided : (test : Bool → Bool) (prefix : Prefix) (k : ℕ) → IsTrue (is_next graph prefix k) → IsTrue (is_decided graph test prefix k) → ⊥
  next_not_decided test prefix k next decided = omega (arith, (next_parts prefix k next).1, (decided_parts test prefix k decided).1)

  -- and never both
  pub not_both : (prefix : Prefix) (k : ℕ) → IsTrue (taken graph prefix k) → IsTrue (left_out graph prefix k) → ⊥
  not_both [] k in_ out = true≢false (sym in_ ∙ is_decided-none (λ b. b) k)
  not_both (choice ∷ prefix) k in_ out = elim (decided_cases (λ b. b) choice prefix k in_) [
    | inl newest ↦ elim (decided_cases not choice prefix k out) [
      | inl newest_out ↦ not_both_ways choice newest.1 newest_out.1
      | inr earlier ↦ next_not_decided not prefix k newest.0 earlier
    ]
    | inr earlier ↦ elim (decided_cases not choice prefix k out) [
      | inl newest_out ↦ next_not_decided (λ b. b) prefix k newest_out.0 earlier
      | inr earlier_out ↦ not_both prefix k earlier earlier_out
    ]
  ]

  -- the eligible nodes from a decided one on are decided
  pub decided_above : (test : Bool → Bool) (prefix : Prefix) (k j : ℕ) → IsTrue (is_decided graph test prefix k)
      → k ≤ j → IsTrue (is_eligible graph j) → IsTrue (taken graph prefix j) ⊎ IsTrue (left_out graph prefix j)
  decided_above test prefix k j decided above eligible =
      in_or_out prefix j eligible (omega (arith, (decided_parts test prefix k decided).1, count_below-rises (is_eligible graph) k j above))

  -- and so are those above the next one
  pub above_next : (prefix : Prefix) (k j : ℕ) → IsTrue (is_next graph prefix k) → k < j
      → IsTrue (is_eligible graph j) → IsTrue (taken graph prefix j) ⊎ IsTrue (left_out graph prefix j)
  above_next prefix k j next above eligible =
      let parts = next_parts prefix k next in
      in_or_out prefix j eligible (omega (arith, parts.1, count_below-more (is_eligible graph) k j parts.0 above))

  -- the next node lies below all that are decided
  pub next_below : (test : Bool → Bool) (prefix : Prefix) (k j : ℕ) → IsTrue (is_next graph prefix k) → IsTrue (is_decided graph test prefix j) → k < j
  next_below test prefix k j next decided = elim (cases_lt k j) [
    | inl below ↦ below
    | inr above ↦ absurd (omega (arith, (next_parts prefix k next).1, (decided_parts test prefix j decided).1, count_below-rises (is_eligible graph) j k above))
  ]

  -- ---- what may still be a member

  pub possible_parts : (prefix : Prefix) (k : ℕ) → IsTrue (possible graph prefix k) → IsTrue (is_eligible graph k) × (IsTrue (left_out graph prefix k) → ⊥)
  possible_parts prefix k possible =
      let parts = and_parts _ _ possible in
      (parts.0, λ out. not_both_ways _ out parts.1)

  pub possible_from : (prefix : Prefix) (k : ℕ) → IsTrue (is_eligible graph k) → (IsTrue (left_out graph prefix k) → ⊥) → IsTrue (possible graph prefix k)
  possible_from prefix k eligible in_ = and_from _ _ eligible (not_from_false _ (false_from_ne_true _ in_))

-- ---- sets that go on from a prefix

-- the second set has the first, and further members only below all members of the first
pub record Extends (small big : ℕ → Bool) : Type 0 where
  pub within : (k : ℕ) → IsTrue (small k) → IsTrue (big k)
  pub above : (k j : ℕ) → IsTrue (small k) → k ≤ j → IsTrue (big j) → IsTrue (small j)

module _ (graph : FlowGraph) where
  pub completes_none : (cut : ℕ → Bool) → ((k : ℕ) → IsTrue (cut k) → IsTrue (is_eligible graph k)) → Completes graph [] cut
  completes_none cut eligible = record {
    has = λ k in_. absurd (true≢false (sym in_ ∙ is_decided-none graph (λ b. b) k));
    within = λ k here. possible_from graph [] k (eligible k here) (λ out. true≢false (sym out ∙ is_decided-none graph not k));
  }

  -- with the choice that the set makes for the next node
  pub completes_more : (prefix : Prefix) (cut : ℕ → Bool) (k : ℕ) (choice : Bool) → Completes graph prefix cut
      → IsTrue (is_next graph prefix k) → cut k ≡ choice → Completes graph (choice ∷ prefix) cut
  completes_more prefix cut k choice goes next chosen = record {
    has = λ j in_. elim (decided_cases graph (λ b. b) choice prefix j in_) [
      | inl newest ↦ ap cut (next_unique graph prefix j k newest.0 next) ∙ chosen ∙ newest.1
      | inr earlier ↦ goes.has j earlier
    ];
    within = λ j here.
        let parts = possible_parts graph prefix j (goes.within j here) in
        possible_from graph (choice ∷ prefix) j parts.0 (λ out. elim (decided_cases graph not choice prefix j out) [
          | inl newest ↦ not_both_ways choice (sym chosen ∙ ap cut (sym (next_unique graph prefix j k newest.0 next)) ∙ here) newest.1
          | inr earlier ↦ parts.1 earlier
        ]);
  }

  pub possible_earlier : (prefix : Prefix) (choice : Bool) (k : ℕ) → IsTrue (possible graph (choice ∷ prefix) k) → IsTrue (possible graph prefix k)
  possible_earlier prefix choice k possible =
      let parts = possible_parts graph (choice ∷ prefix) k possible in
      possible_from graph prefix k parts.0 (λ out. parts.1 (decided_earlier graph not choice prefix k out))

  pub completes_earlier : (prefix : Prefix) (cut : ℕ → Bool) (choice : Bool) → Completes graph (choice ∷ prefix) cut → Completes graph prefix cut
  completes_earlier prefix cut choice goes = record {
    has = λ k in_. goes.has k (decided_earlier graph (λ b. b) choice prefix k in_);
    within = λ k here. possible_earlier prefix choice k (goes.within k here);
  }

  pub taken_possible : (prefix : Prefix) (k : ℕ) → IsTrue (taken graph prefix k) → IsTrue (possible graph prefix k)
  taken_possible prefix k in_ = possible_from graph prefix k (decided_parts graph (λ b. b) prefix k in_).0 (not_both graph prefix k in_)

  pub taken_completes : (prefix : Prefix) → Completes graph prefix (taken graph prefix)
  taken_completes prefix = record { has = λ k in_. in_; within = taken_possible prefix }

  pub completion_extends : (prefix : Prefix) (cut : ℕ → Bool) → Completes graph prefix cut → Extends (taken graph prefix) cut
  completion_extends prefix cut goes = record {
    within = goes.has;
    above = λ k j in_ above here.
        let parts = possible_parts graph prefix j (goes.within j here) in
        elim (decided_above graph (λ b. b) prefix k j in_ above parts.0) [ inl there ↦ there | inr out ↦ absurd (parts.1 out) ];
  }

  -- from a whole choice only the set that it takes in goes on
  pub whole_choice : (prefix : Prefix) (cut : ℕ → Bool) → eligible_nodes graph ≤ length prefix
      → Completes graph prefix cut → (k : ℕ) → cut k ≡ taken graph prefix k
  whole_choice prefix cut whole goes k = same_test (cut k) (taken graph prefix k) there (goes.has k)
    where
      there : IsTrue (cut k) → IsTrue (taken graph prefix k)
      there here =
          let parts = possible_parts graph prefix k (goes.within k here) in
          elim (in_or_out graph prefix k parts.0 (omega arith)) [ inl in_ ↦ in_ | inr out ↦ absurd (parts.1 out) ]
