-- Arcs among bundles.
use Rattle.std.proofs.Common.{◌≡◌, ◌⊎◌, ◌↔◌, ℕ, zero, suc, ◌+◌, ◌-◌, ◌<◌, ◌≤◌, refl, ap, sym, ◌∙◌, arith, inl, inr, subst, true≢false}
use Rattle.std.specs.Prelude.{Bool, true, false}
use Rattle.std.proofs.lemmas.Bool.{cases_eq, cases_lt, cases_Bool}
use Rattle.ci_dfg.specs.BundleArcs.{IsSpan, IsArc, own, chain, enters, leaves, ComesFrom, LeadsTo}

module _ (joined : ℕ → Bool) (Own : ℕ → ℕ → Type 0) where
  abbrev Span : ℕ → ℕ → Type 0
  Span = IsSpan joined

  abbrev Arc : ℕ → ℕ → Type 0
  Arc = IsArc joined Own

  -- a walk along arcs
  pub data Walk : ℕ → ℕ → Type 0 where
    arc : {j k : ℕ} → Arc j k → Walk j k
    more : {j k l : ℕ} → Arc j k → Walk k l → Walk j l

  -- a span from a node on that isn't joined backwards, or up to a last one, can't go further
  first_is : (first k : ℕ) → Span first k → joined k ≡ false → first ≡ k
  first_is first k span none = elim (cases_eq first k) [
    | inl same ↦ same
    | inr other ↦ absurd (true≢false (sym (span.inside k (let low = span.rises in omega arith) (omega arith)) ∙ none))
  ]

  last_is : (j last : ℕ) → Span j last → joined (suc j) ≡ false → j ≡ last
  last_is j last span none = elim (cases_eq j last) [
    | inl same ↦ same
    | inr other ↦ absurd (true≢false (sym (span.inside (suc j) (omega arith) (let low = span.rises in omega arith)) ∙ none))
  ]

  pub arc_rises : (j k : ℕ) → Arc j k → j < k
  arc_rises j k (own a b before is) = before
  arc_rises j k (chain a is) = omega arith
  arc_rises j k (enters a first b span none before is) = before
  arc_rises j k (leaves a last b span none before is) = before

  -- an arc of its own, maybe carried to the last node of the one bundle and to the first of the other; or one from a node
  -- of a bundle to the next
  abbrev pub InOneStep : ℕ → ℕ → Type 0
  InOneStep j k = ((i : ℕ) × (l : ℕ) × ComesFrom joined i j × LeadsTo joined l k × Own i l × (i < l)) ⊎ ((k ≡ suc j) × (joined k ≡ true))

  one_step : (j k : ℕ) → Arc j k → InOneStep j k
  one_step j k (own a b before is) = inl (a, b, inl refl, inl refl, is, before)
  one_step j k (chain a is) = inr (refl, is)
  one_step j k (enters a first b span none before is) = elim (one_step a b is) [
    | inl (i, l, from, to, own_is, below) ↦ inl (i, l, from, into l to, own_is, below)
    | inr (next, is_joined) ↦
        let same : first ≡ b = (let low = span.rises in omega arith) in
        absurd (true≢false (sym is_joined ∙ ap joined (sym same) ∙ none))
  ]
    where
      into : (l : ℕ) → LeadsTo joined l b → LeadsTo joined l first
      into l (inl same) = inr (subst (λ n. Span first n) (sym same) span, none)
      into l (inr (there, first_b)) = inr (subst (λ n. Span n l) (sym (first_is first b span first_b)) there, none)
  one_step j k (leaves a last b span none before is) = elim (one_step a b is) [
    | inl (i, l, from, to, own_is, below) ↦ inl (i, l, out i from, to, own_is, below)
    | inr (next, is_joined) ↦
        let same : b ≡ suc last = (let low = span.rises in omega arith) in
        absurd (true≢false (sym is_joined ∙ ap joined same ∙ none))
  ]
    where
      out : (i : ℕ) → ComesFrom joined i a → ComesFrom joined i last
      out i (inl same) = inr (subst (λ n. Span n last) (sym same) span, none)
      out i (inr (there, last_a)) = inr (subst (λ n. Span i n) (last_is a last span last_a) there, none)

  low : (i j : ℕ) → ComesFrom joined i j → i ≤ j
  low i j (inl same) = omega arith
  low i j (inr (span, none)) = span.rises

  enter : (i l k : ℕ) → i < k → i < l → Own i l → LeadsTo joined l k → Arc i k
  enter i l k before below is (inl same) = subst (Arc i) same (own i l below is)
  enter i l k before below is (inr (span, none)) = enters i k l span none before (own i l below is)

  leave : (i j k : ℕ) → j < k → ComesFrom joined i j → Arc i k → Arc j k
  leave i j k before (inl same) is = subst (λ n. Arc n k) same is
  leave i j k before (inr (span, none)) is = leaves i j k span none before is

  from_step : (j k : ℕ) → j < k → InOneStep j k → Arc j k
  from_step j k before (inr (next, is)) = subst (Arc j) (sym next) (chain j (sym (ap joined next) ∙ is))
  from_step j k before (inl (i, l, from, to, own_is, below)) =
      leave i j k before from (enter i l k (let low_i = low i j from in omega arith) below own_is to)

  -- nothing has to be repeated
  pub arcs_in_one_step : (j k : ℕ) → j < k → Arc j k ↔ InOneStep j k
  arcs_in_one_step j k before = (one_step j k, from_step j k before)

  -- ---- walks

  -- the last node of the bundle
  last_from : (count n u : ℕ) → ((k : ℕ) → n ≤ k → joined k ≡ false) → n ≤ u + count → (last : ℕ) × Span u last × (joined (suc last) ≡ false)
  last_from zero n u end enough =
      (u, record { rises = omega arith; inside = λ i above below. absurd (omega arith) }, end (suc u) (omega arith))
  last_from (suc count) n u end enough = elim (cases_Bool (joined (suc u))) [
    | inl is ↦
        let (last, span, none) = last_from count n (suc u) end (omega arith) in (
          last,
          record {
            rises = (let low = span.rises in omega arith);
            inside = λ i above below. elim (cases_eq i (suc u)) [
              | inl same ↦ ap joined same ∙ is
              | inr other ↦ span.inside i (omega arith) below
            ];
          },
          none,
        )
    | inr none ↦ (u, record { rises = omega arith; inside = λ i above below. absurd (omega arith) }, none)
  ]

  -- along a bundle, and then on
  along : (count u b m : ℕ) → b ≡ u + count → ((i : ℕ) → u < i → i ≤ b → joined i ≡ true) → Walk b m → Walk u m
  along zero u b m same inside way = subst (λ n. Walk n m) (let e : b ≡ u = omega arith in e) way
  along (suc count) u b m same inside way =
      more (chain u (inside (suc u) (omega arith) (omega arith)))
      (along count (suc u) b m (omega arith) (λ i above below. inside i (omega arith) below) way)

  module _ (n : ℕ) (end : (k : ℕ) → n ≤ k → joined k ≡ false) (u m : ℕ) (is : joined (suc u) ≡ true)
      (first_m : joined m ≡ false) where
    abbrev end_of : (last : ℕ) × Span (suc u) last × (joined (suc last) ≡ false)
    end_of = last_from n n (suc u) end (omega arith)

    -- from the second word to the last of the bundle, and on
    to_last : (last : ℕ) → Span (suc u) last → (w : ℕ) → Walk last w → Walk (suc u) w
    to_last last span w way =
        along (last - suc u) (suc u) last w (let low = span.rises in omega arith) span.inside way

    whole : (last : ℕ) → Span (suc u) last → Span u last
    whole last span = record {
      rises = (let low = span.rises in omega arith);
      inside = λ i above below. elim (cases_eq i (suc u)) [
        | inl same ↦ ap joined same ∙ is
        | inr other ↦ span.inside i (omega arith) below
      ];
    }

    -- what the first word leads to, the last one does, where it lies behind the bundle
    direct : (last : ℕ) → Span (suc u) last → joined (suc last) ≡ false → Arc u m → Walk (suc u) m
    direct last span none step = elim (cases_lt last m) [
      | inl behind ↦ to_last last span m (arc (leaves u last m (whole last span) none behind step))
      | inr inside ↦ absurd (true≢false (sym ((whole last span).inside m (arc_rises u m step) inside) ∙ first_m))
    ]

    by_way : (last : ℕ) → Span (suc u) last → joined (suc last) ≡ false → (b : ℕ) → Arc u b → Walk b m → Walk (suc u) m
    by_way last span none b step rest = elim (cases_lt last b) [
      | inl behind ↦ to_last last span m (more (leaves u last b (whole last span) none behind step) rest)
      | inr inside ↦
          let before = arc_rises u b step in
          along (b - suc u) (suc u) b m (omega arith) (λ i above below. span.inside i above (omega arith)) rest
    ]

    second_leads : Walk u m → Walk (suc u) m
    second_leads (arc step) = direct end_of.0 end_of.1 end_of.2 step
    second_leads (more {k = b} step rest) = by_way end_of.0 end_of.1 end_of.2 b step rest

  -- Of two words of a bundle that stand side by side, both lead to a node outside of bundles, or none.
  pub bundles_lead_together : (n : ℕ) → ((k : ℕ) → n ≤ k → joined k ≡ false)
      → (u m : ℕ) → joined (suc u) ≡ true → joined m ≡ false → joined (suc m) ≡ false → Walk u m ↔ Walk (suc u) m
  bundles_lead_together n end u m is first_m last_m = (second_leads n end u m is first_m, λ way. more (chain u is) way)
