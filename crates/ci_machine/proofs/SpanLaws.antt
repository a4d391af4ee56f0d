-- Spans of addresses that rise: which of them has an address, what they are with one more, and the pages that they meet.
use Rattle.std.proofs.Common.{◌≡◌, ℕ, zero, suc, ◌+◌, ◌-◌, ◌/◌, ◌<◌, ◌≤◌, inl, inr, Bool, true, false, ◌||◌, max, List, [], ◌∷◌, length, get_or, cond}
use Rattle.std.proofs.Common.{drop, refl, sym, ap, ◌∙◌, arith, true≢false}
use Rattle.std.specs.List.{insert}
use Rattle.std.proofs.Common.{Less, Equal, Greater}
use Rattle.std.specs.Ordering.{nat_cmp, ord_max, is_lt}
use Rattle.std.specs.Cmp.{nat_cmp_is}
use Rattle.std.proofs.lemmas.Bool.{cases_eq, cases_lt}
use Rattle.std.proofs.lemmas.List.{drop_more, get_or_default}
use Rattle.ci_machine.specs.declared.spans.Span.{Span}
use Rattle.ci_machine.specs.Programs.{lies_in}
use Rattle.ci_machine.specs.PageTables.{with_pages}
use Rattle.ci_machine.specs.Spans.{in_spans, lies_at, span_at, AreRising, pages_met}
use Rattle.ci_machine.proofs.TestLaws.{lies_in-bounds, bounds-lies_in, outside, by_test, or_second}
use Rattle.ci_machine.proofs.EditLaws.{insert_each, insert_pairs}

-- ---- which span has an address

pub span_holds : (spans : List Span) (i x : ℕ) → i < length spans → lies_at spans i x ≡ true → in_spans spans x ≡ true
unfolding in_spans
span_holds [] i x lt is = absurd (omega arith)
span_holds (span ∷ spans) zero x lt is = ap (λ b. b || in_spans spans x) is
span_holds (span ∷ spans) (suc i) x lt is =
    ap (λ b. lies_in span.start span.end x || b) (span_holds spans i x (omega arith) is) ∙ or_true (lies_in span.start span.end x)
  where
    or_true : (b : Bool) → (b || true) ≡ true
    or_true true = refl
    or_true false = refl

pub no_span_holds : (spans : List Span) (x : ℕ) → ((i : ℕ) → i < length spans → lies_at spans i x ≡ false) → in_spans spans x ≡ false
unfolding in_spans
no_span_holds [] x none = refl
no_span_holds (span ∷ spans) x none =
    λ k. none 0 (omega arith) k || no_span_holds spans x (λ i lt. none (suc i) (omega arith)) k

pub held_by : (spans : List Span) (x : ℕ) → in_spans spans x ≡ true → (i : ℕ) × ((i < length spans) × (lies_at spans i x ≡ true))
unfolding in_spans
held_by [] x is = absurd (let e : false ≡ true = is in cc)
held_by (span ∷ spans) x is =
    by_test (lies_in span.start span.end x)
    (λ here. (0, (omega arith, here)))
    (λ none. let rest = held_by spans x (or_second _ _ is none) in (suc rest.0, (omega (arith, rest.1.0), rest.1.1)))

module _ (spans : List Span) (rising : AreRising spans) (x : ℕ) where
  -- the spans that begin later do not have it, nor those that end before the last of the others begins
  pub after_all : ((i : ℕ) → i < length spans → x < (span_at spans i).start) → in_spans spans x ≡ false
  after_all later = no_span_holds spans x (λ i lt. outside _ _ x (inl (later i lt)))

  pub between : (next : ℕ) → 0 < next → next ≤ length spans
      → ((i : ℕ) → i < next → (span_at spans i).start < x) → ((i : ℕ) → next ≤ i → i < length spans → x < (span_at spans i).start)
      → lies_at spans (next - 1) x ≡ false → in_spans spans x ≡ false
  between next some within smaller greater none =
      no_span_holds spans x (λ i lt. elim (cases_lt i (next - 1)) [
        | inl below ↦ outside _ _ x (inr (omega (arith, rising.apart i (next - 1) below (omega arith), smaller (next - 1) (omega arith))))
        | inr from ↦ elim (cases_eq i (next - 1)) [
          | inl same ↦ ap (λ j. lies_at spans j x) same ∙ none
          | inr apart ↦ outside _ _ x (inl (greater i (omega arith) lt))
        ]
      ])

-- ---- one span more

in_spans-insert : (spans : List Span) (at : ℕ) (span : Span) (x : ℕ)
    → in_spans (insert spans at span) x ≡ (lies_in span.start span.end x || in_spans spans x)
unfolding in_spans
in_spans-insert spans zero span x = refl
in_spans-insert [] (suc at) span x = refl
in_spans-insert (first ∷ spans) (suc at) span x =
    ap (λ b. lies_in first.start first.end x || b) (in_spans-insert spans at span x)
    ∙ exchanged (lies_in first.start first.end x) (lies_in span.start span.end x) (in_spans spans x)
  where
    exchanged : (a b c : Bool) → (a || (b || c)) ≡ (b || (a || c))
    exchanged true true c = refl
    exchanged true false c = refl
    exchanged false b c = refl

module _ (spans : List Span) (rising : AreRising spans) (span : Span) (filled : span.start < span.end)
    (apart : (x : ℕ) → lies_in span.start span.end x ≡ true → in_spans spans x ≡ false) where
  -- no address is in both
  both : (i x : ℕ) → i < length spans → lies_at spans i x ≡ true → lies_in span.start span.end x ≡ true → ⊥
  both i x lt here there = true≢false (sym (span_holds spans i x lt here) ∙ apart x there)

  pub begins_apart : (i : ℕ) → i < length spans → (span_at spans i).start ≡ span.start → ⊥
  begins_apart i lt same =
      both i span.start lt (bounds-lies_in _ _ span.start (omega (arith, same)) (omega (arith, same, rising.filled i lt)))
      (bounds-lies_in _ _ span.start (omega arith) filled)

  module _ (at : ℕ) (within : at ≤ length spans) (smaller : (i : ℕ) → i < at → (span_at spans i).start < span.start)
      (greater : (i : ℕ) → at ≤ i → i < length spans → span.start < (span_at spans i).start) where
    before : (i : ℕ) → i < at → (span_at spans i).end ≤ span.start
    before i lt = elim (cases_lt span.start (span_at spans i).end) [
      | inl inside ↦ absurd (both i span.start (omega arith)
          (bounds-lies_in _ _ span.start (omega (arith, smaller i lt)) inside) (bounds-lies_in _ _ span.start (omega arith) filled))
      | inr past ↦ past
    ]

    behind : (i : ℕ) → at ≤ i → i < length spans → span.end ≤ (span_at spans i).start
    behind i from lt = elim (cases_lt (span_at spans i).start span.end) [
      | inl inside ↦ absurd (both i (span_at spans i).start lt
          (bounds-lies_in _ _ (span_at spans i).start (omega arith) (rising.filled i lt))
          (bounds-lies_in _ _ (span_at spans i).start (omega (arith, greater i from lt)) inside))
      | inr past ↦ past
    ]

    pub still_rising : AreRising (insert spans at span)
    still_rising = record {
      filled = insert_each spans at span _ within (λ a. a.start < a.end) rising.filled filled;
      apart = insert_pairs spans at span _ within (λ a b. a.end ≤ b.start) rising.apart before behind;
    }

    pub one_more : (x : ℕ) → in_spans (insert spans at span) x ≡ (lies_in span.start span.end x || in_spans spans x)
    one_more x = in_spans-insert spans at span x

pub span_read : (spans : List Span) (i : ℕ) (span : Span) → i < length spans → span ≡ get_or spans i span → span ≡ span_at spans i
span_read spans i span lt is = is ∙ get_or_default spans i span (record { start = 0; end = 0 }) lt

pub starts_rise : (spans : List Span) → AreRising spans → (i j : ℕ) → i < j → j < length spans
    → (span_at spans i).start < (span_at spans j).start
starts_rise spans rising i j lt end = omega (arith, rising.filled i (omega arith), rising.apart i j lt end)

-- ---- the pages that spans meet

-- the pages are there that so many of the spans meet, of which the last is the one before the next
pub record IsCovered (spans : List Span) (i next : ℕ) (numbers : ℕ → Bool) : Type 0 where
  pub there : (j x : ℕ) → j < i → j < length spans → lies_at spans j x ≡ true → numbers (x / 4096) ≡ true
  pub last : 0 < next → numbers (next - 1) ≡ true
  pub reach : (j : ℕ) → i ≤ j → j < length spans → next ≤ (span_at spans j).start / 4096 + 1

pub all_covered : (spans : List Span) (next : ℕ) (numbers : ℕ → Bool) (i : ℕ) → length spans ≤ i → IsCovered spans i next numbers
    → (x : ℕ) → in_spans spans x ≡ true → numbers (x / 4096) ≡ true
all_covered spans next numbers i all covered x is =
    let held = held_by spans x is in covered.there held.0 x (omega (arith, held.1.0)) held.1.0 held.1.1

or_right : (b c : Bool) → c ≡ true → (b || c) ≡ true
or_right true c is = refl
or_right false c is = is

module _ (spans : List Span) (rising : AreRising spans) (i next : ℕ) (old new : ℕ → Bool) (below : i < length spans) where
  abbrev end : ℕ
  end = ((span_at spans i).end - 1) / 4096 + 1

  abbrev from : ℕ
  from = max next ((span_at spans i).start / 4096)

  -- the pages of one span more were added, from where the others end
  pub one_covered : IsCovered spans i next old → new ≡ with_pages old from end → IsCovered spans (i + 1) (max next end) new
  one_covered covered is = record { there = there; last = last; reach = reach }
    where
      kept : (n : ℕ) → old n ≡ true → new n ≡ true
      kept n was = ap (λ f. f n) is ∙ or_right (lies_in from end n) (old n) was

      put : (n : ℕ) → from ≤ n → n < end → new n ≡ true
      put n low high = ap (λ f. f n) is ∙ ap (λ b. b || old n) (bounds-lies_in from end n low high)

      -- a page of the span was added, or is the last of those before
      page : (n : ℕ) → (span_at spans i).start / 4096 ≤ n → n < end → new n ≡ true
      page n low high = elim (cases_lt n next) [
        | inl early ↦ kept n (ap old {x = n} {y = next - 1} (omega (arith, covered.reach i (omega arith) below)) ∙ covered.last (omega arith))
        | inr later ↦ put n (omega arith) high
      ]

      there : (j x : ℕ) → j < i + 1 → j < length spans → lies_at spans j x ≡ true → new (x / 4096) ≡ true
      there j x lt within held = elim (cases_lt j i) [
        | inl earlier ↦ kept (x / 4096) (covered.there j x earlier within held)
        | inr late ↦
            let same : j ≡ i = omega arith in
            let bounds = lies_in-bounds (span_at spans i).start (span_at spans i).end x (sym (ap (λ k. lies_at spans k x) same) ∙ held) in
            page (x / 4096) (omega (arith, bounds.0)) (omega (arith, bounds.1))
      ]

      last : 0 < max next end → new (max next end - 1) ≡ true
      last some =
          let whole : max next end ≡ end = omega (arith, rising.filled i below, covered.reach i (omega arith) below) in
          ap new {x = max next end - 1} {y = end - 1} (omega (arith, whole)) ∙ page (end - 1) (omega (arith, rising.filled i below)) (omega arith)

      reach : (j : ℕ) → i + 1 ≤ j → j < length spans → max next end ≤ (span_at spans j).start / 4096 + 1
      reach j from lt = omega (arith, rising.apart i j (omega arith) lt, covered.reach j (omega arith) lt, rising.filled i below)

pub met_more : (spans : List Span) (i next : ℕ) → i < length spans
    → pages_met (drop i spans) next
    ≡ (((span_at spans i).end - 1) / 4096 + 1 - max next ((span_at spans i).start / 4096))
    + pages_met (drop (i + 1) spans) (max next (((span_at spans i).end - 1) / 4096 + 1))
met_more spans i next lt = ap (λ ss. pages_met ss next) (drop_more spans i (record { start = 0; end = 0 }) lt)

-- the greater of two numbers, as code compares them
pub greater_is : (a b : ℕ) → ord_max nat_cmp a b ≡ max a b
greater_is a b = elim (cases_lt b a) [
  | inl lt ↦ ap (λ o. cond (is_lt o) a b) (sym (nat_cmp_is b a Less lt)) ∙ omega arith
  | inr from ↦ elim (cases_eq b a) [
    | inl same ↦ ap (λ o. cond (is_lt o) a b) (sym (nat_cmp_is b a Equal same)) ∙ omega arith
    | inr apart ↦ ap (λ o. cond (is_lt o) a b) (sym (nat_cmp_is b a Greater (omega arith))) ∙ omega arith
  ]
]
