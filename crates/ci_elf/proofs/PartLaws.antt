-- Which parts overlap, of parts in the order of their starts.
use Rattle.std.proofs.Common.{◌≡◌, ℕ, ◌+◌, ◌<◌, ◌≤◌, ◌⊎◌, inl, inr, min, max, List, length, get_or, take, refl, sym, ◌∙◌, ap, arith, length-take, get_or-take}
use Rattle.std.specs.List.Sorted.{IsNonDecreasingBy, IsPermutation}
use Rattle.std.proofs.lemmas.Bool.{cases_lt, cases_eq}
use Rattle.std.proofs.lemmas.List.{get_or_default}
use Rattle.std.proofs.Math.Seq.{take-length}
use Rattle.ci_elf.proofs.PairLaws.{pairs_permuted}
use Rattle.ci_elf.specs.declared.parts.Part.{Part}
use Rattle.ci_elf.specs.private.Parts.{AreApart, AreApartAt, Overlap, OverlapAt, IsFirstOverlap}

abbrev pub no_part : Part
no_part = record { start = 0; end = 0 }

-- the parts below i are apart, and those that have places end by `end`, where one of them does
pub record IsApartSoFar (parts : List Part) (i end : ℕ) : Type 0 where
  pub apart :
      (j k : ℕ) (d : Part) → j < k → k < i
      → min (get_or parts j d).end (get_or parts k d).end ≤ max (get_or parts j d).start (get_or parts k d).start
  pub ends : (k : ℕ) (d : Part) → k < i → (get_or parts k d).start < (get_or parts k d).end → (get_or parts k d).end ≤ end
  pub last : (end ≡ 0) ⊎ ((k : ℕ) × (k < i) × ((d : Part) → ((get_or parts k d).start < (get_or parts k d).end) × ((get_or parts k d).end ≡ end)))

module _ (parts : List Part) where
  pub so_far_none : IsApartSoFar parts 0 0
  so_far_none = record {
    apart = λ j k d h l. absurd (omega arith);
    ends = λ k d h. absurd (omega arith);
    last = inl refl;
  }

  module _ (i end : ℕ) (part : Part) (there : i < length parts) (is : part ≡ get_or parts i no_part) where
    at : (d : Part) → get_or parts i d ≡ part
    at d = get_or_default parts i d no_part there ∙ sym is

    pub so_far_more : part.start < part.end → end ≤ part.start → IsApartSoFar parts i end → IsApartSoFar parts (i + 1) part.end
    so_far_more some behind so_far = record {
      apart = λ j k d h l. elim (cases_lt k i) [
        | inl m ↦ so_far.apart j k d h m
        | inr m ↦
            let same : k ≡ i = omega arith in
            let here : get_or parts k d ≡ part = ap (λ n. get_or parts n d) same ∙ at d in
            rw here (elim (cases_lt (get_or parts j d).start (get_or parts j d).end) [
              | inl n ↦ omega (arith, so_far.ends j d (omega arith) n)
              | inr n ↦ omega arith
            ])
      ];
      ends = λ k d l n. elim (cases_lt k i) [
        | inl m ↦ omega (arith, so_far.ends k d m n)
        | inr m ↦
            let same : k ≡ i = omega arith in
            let here : get_or parts k d ≡ part = ap (λ n. get_or parts n d) same ∙ at d in
            rw here (omega arith)
      ];
      last = inr (i, omega arith, λ d. rw (at d) (some, refl));
    }

    pub so_far_empty : part.end ≤ part.start → IsApartSoFar parts i end → IsApartSoFar parts (i + 1) end
    so_far_empty none so_far = record {
      apart = λ j k d h l. elim (cases_lt k i) [
        | inl m ↦ so_far.apart j k d h m
        | inr m ↦
            let same : k ≡ i = omega arith in
            let here : get_or parts k d ≡ part = ap (λ n. get_or parts n d) same ∙ at d in
            rw here (omega arith)
      ];
      ends = λ k d l n. elim (cases_lt k i) [
        | inl m ↦ so_far.ends k d m n
        | inr m ↦
            let same : k ≡ i = omega arith in
            let here : get_or parts k d ≡ part = ap (λ n. get_or parts n d) same ∙ at d in
            absurd (omega (arith, rw here at n))
      ];
      last = elim so_far.last [
        | inl e ↦ inl e
        | inr e ↦ inr (e.0, omega (arith, e.1), e.2)
      ];
    }

    pub overlaps_earlier :
        IsNonDecreasingBy (λ p. p.start) parts → IsApartSoFar parts i end → part.start < part.end → part.start < end → ¬ (AreApart parts)
    overlaps_earlier sorted so_far some before apart = elim so_far.last [
      | inl e ↦ omega arith
      | inr e ↦
          let facts = e.2 part in
          let order = sorted e.0 i part (omega (arith, e.1)) there in
          let none = apart e.0 i part e.1 there in
          omega (arith, facts.0, facts.1, rw (at part) at order, rw (at part) at none)
    ]

-- to be apart says nothing of the order
pub apart_permuted : (xs ys : List Part) → IsPermutation xs ys → AreApart xs → AreApart ys
apart_permuted xs ys moved apart =
    pairs_permuted (λ p q. min p.end q.end ≤ max p.start q.start) (λ p q h. omega arith) xs ys moved apart

-- the first `low` parts are apart, and the first `high` are not
pub record IsFrontBetween (parts : List Part) (low high : ℕ) : Type 0 where
  pub order : low < high
  pub within : high ≤ length parts
  pub apart : AreApart (take low parts)
  pub meets : ¬ (AreApart (take high parts))

module _ (parts : List Part) where
  pub front_whole : ¬ (AreApart parts) → IsFrontBetween parts 0 (length parts)
  front_whole meets = record {
    order = elim (cases_eq (length parts) 0) [
      | inl e ↦ absurd (meets (λ i j d h l. absurd (omega arith)))
      | inr e ↦ omega arith
    ];
    within = omega arith;
    apart = λ i j d h l. absurd (omega arith);
    meets = rw take-length meets;
  }

  -- a place that meets no part before it
  pub apart_more :
      (n : ℕ) → n < length parts → AreApart (take n parts)
      → ((k : ℕ) (d : Part) → k < n → min (get_or parts k d).end (get_or parts n d).end ≤ max (get_or parts k d).start (get_or parts n d).start)
      → AreApart (take (n + 1) parts)
  apart_more n there apart here i j d h l =
      let below : j < n + 1 = omega (arith, length-take (n + 1) parts) in
      rw (get_or-take (n + 1) parts i d (omega arith), get_or-take (n + 1) parts j d below) (elim (cases_lt j n) [
        | inl m ↦
            let known = apart i j d h (omega (arith, length-take n parts)) in
            rw (get_or-take n parts i d (omega arith), get_or-take n parts j d m) at known
        | inr m ↦
            let same : j ≡ n = omega arith in
            rw same (here i d (omega arith))
      ])

  pub apart_before : (n : ℕ) → n ≤ length parts → AreApart (take n parts) → (i j : ℕ) (d : Part) → i < j → j < n
      → min (get_or parts i d).end (get_or parts j d).end ≤ max (get_or parts i d).start (get_or parts j d).start
  apart_before n within apart i j d h l =
      let known = apart i j d h (omega (arith, length-take n parts)) in
      rw (get_or-take n parts i d (omega arith), get_or-take n parts j d l) at known

  -- parts m and n of the list, where they were read
  pub overlap_read :
      (m n : ℕ) → m < length parts → n < length parts → Overlap (get_or parts m no_part) (get_or parts n no_part) → OverlapAt parts m n
  overlap_read m n low high h d = rw (get_or_default parts m d no_part low, get_or_default parts n d no_part high) h

  pub apart_read :
      (m n : ℕ) → m < length parts → n < length parts → ¬ (Overlap (get_or parts m no_part) (get_or parts n no_part)) → AreApartAt parts m n
  apart_read m n low high h d = rw (get_or_default parts m d no_part low, get_or_default parts n d no_part high) (omega (arith, h))

  -- part n is the first that overlaps one before it, and m is the first of these
  pub first_from :
      (m n : ℕ) → n < length parts → AreApart (take n parts) → ¬ (AreApart (take (n + 1) parts)) → m ≤ n → (m < n → OverlapAt parts m n)
      → ((k : ℕ) → k < m → AreApartAt parts k n) → IsFirstOverlap parts m n
  first_from m n there apart meets within overlapping before =
      let order : m < n = elim (cases_lt m n) [
        | inl l ↦ l
        | inr l ↦ absurd (meets (apart_more n there apart (λ k d h. before k (omega arith) d)))
      ] in
      record {
        order = order;
        within = there;
        overlap = overlapping order;
        apart_before = λ i j h l d. apart_before n (omega arith) apart i j d h l;
        apart_from = before;
      }
