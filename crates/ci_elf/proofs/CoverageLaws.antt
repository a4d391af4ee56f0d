-- What parts cover, extended one after the other in the order of their starts.
use Rattle.std.proofs.Common.{◌≡◌, ℕ, ◌+◌, ◌-◌, ◌^◌, ◌<◌, ◌≤◌, ◌⊎◌, inl, inr, max, List, [], ◌∷◌, ◌++◌, length, refl, ◌∙◌, ap, arith, length-append}
use Rattle.std.specs.List.{Contains}
use Rattle.std.specs.List.Sorted.{IsNonDecreasingBy, IsPermutation}
use Rattle.std.proofs.lemmas.Bool.{cases_lt}
use Rattle.std.proofs.lemmas.List.{get_or_default, get_or_append_left}
use Rattle.std.proofs.Math.Seq.{get_or-append_seam}
use Rattle.std.proofs.Math.ListN.{get_or-eq_default}
use Rattle.std.proofs.lemmas.List.Sorted.{IsNonDecreasingBy-push, IsNonDecreasingBy-short, Contains-permutation, IsPermutation-sym}
use Rattle.std.proofs.lemmas.List.Elements.{Contains-get_or}
use Rattle.ci_elf.specs.declared.parts.Part.{Part}
use Rattle.ci_elf.specs.private.Parts.{part_at, Covers, IsRising, IsCoverage, IsNext}

-- a part that has a place is one of the list
pub covers_within : (parts : List Part) (k place : ℕ) → place < (part_at parts k).end → k < length parts
covers_within parts k place h = elim (cases_lt k (length parts)) [
  | inl l ↦ l
  | inr l ↦ absurd (omega (arith, ap (λ p. p.end) (get_or-eq_default parts (record { start = 0; end = 0 }) l)))
]

-- the parts below i were extended: they cover what those cover
pub record IsExtended (sorted : List Part) (i : ℕ) (coverage : List Part) (end : ℕ) : Type 0 where
  pub covered : (k place : ℕ) → k < i → (part_at sorted k).start ≤ place → place < (part_at sorted k).end → Covers coverage place
  pub covers : (place : ℕ) → Covers coverage place → Covers sorted place
  pub rising : IsRising coverage
  pub ends : (k : ℕ) → k < length coverage → (part_at coverage k).end ≤ end
  pub starts : (k j : ℕ) → k < length coverage → i ≤ j → j < length sorted → (part_at coverage k).start ≤ (part_at sorted j).start
  pub reach : (end ≡ 0) ⊎ ((k : ℕ) × (k < i) × (end ≡ (part_at sorted k).end))

module _ (sorted : List Part) (in_order : IsNonDecreasingBy (λ p. p.start) sorted) where
  pub extended_none : IsExtended sorted 0 [] 0
  extended_none = record {
    covered = λ k place h. absurd (omega arith);
    covers = λ place c. absurd (omega (arith, c.2, covers_within [] c.0 place c.2));
    rising = record {
      starts = IsNonDecreasingBy-short (λ p. p.start) [] (omega arith);
      ends = IsNonDecreasingBy-short (λ p. p.end) [] (omega arith);
      filled = λ k h. absurd (omega arith);
    };
    ends = λ k h. absurd (omega arith);
    starts = λ k j h. absurd (omega arith);
    reach = inl refl;
  }

  module _ (i : ℕ) (coverage : List Part) (end : ℕ) (there : i < length sorted) (so_far : IsExtended sorted i coverage end) where
    pub extended_empty : (part_at sorted i).end ≤ (part_at sorted i).start → IsExtended sorted (i + 1) coverage end
    extended_empty none = record {
      covered = λ k place h from to. elim (cases_lt k i) [
        | inl l ↦ so_far.covered k place l from to
        | inr l ↦
            let same : k ≡ i = omega arith in
            let none' : (part_at sorted k).end ≤ (part_at sorted k).start = rw same none in
            absurd (omega arith)
      ];
      covers = so_far.covers;
      rising = so_far.rising;
      ends = so_far.ends;
      starts = λ k j h l m. so_far.starts k j h (omega arith) m;
      reach = elim so_far.reach [ inl e ↦ inl e | inr e ↦ inr (e.0, omega (arith, e.1), e.2) ];
    }

    abbrev new : Part
    new = record { start = (part_at sorted i).start; end = max (part_at sorted i).end end }

    old_at : (k : ℕ) → k < length coverage → part_at (coverage ++ new ∷ []) k ≡ part_at coverage k
    old_at k h = get_or_append_left coverage (new ∷ []) (record { start = 0; end = 0 }) k h

    new_at : part_at (coverage ++ new ∷ []) (length coverage) ≡ new
    new_at = get_or-append_seam coverage new [] (record { start = 0; end = 0 })

    length_new : length (coverage ++ new ∷ []) ≡ length coverage + 1
    length_new = rw length-append (omega arith)

    pub extended_more : (part_at sorted i).start < (part_at sorted i).end → IsExtended sorted (i + 1) (coverage ++ new ∷ []) (max (part_at sorted i).end end)
    extended_more some = record {
      covered = λ k place h from to. elim (cases_lt k i) [
        | inl l ↦
            let c = so_far.covered k place l from to in
            let k_in : c.0 < length coverage = covers_within coverage c.0 place c.2 in
            (c.0, rw (old_at c.0 k_in) c.1, rw (old_at c.0 k_in) c.2)
        | inr l ↦
            let same : k ≡ i = omega arith in
            let from' : (part_at sorted i).start ≤ place = rw (← same) from in
            let to' : place < (part_at sorted i).end = rw (← same) to in
            (length coverage, rw new_at from', rw new_at (omega arith))
      ];
      covers = λ place c.
          let k_in : c.0 < length coverage + 1 = omega (arith, covers_within (coverage ++ new ∷ []) c.0 place c.2, length_new) in
          elim (cases_lt c.0 (length coverage)) [
            | inl l ↦ so_far.covers place (c.0, rw (old_at c.0 l) at c.1, rw (old_at c.0 l) at c.2)
            | inr l ↦
                let last : c.0 ≡ length coverage = omega arith in
                let from : (part_at sorted i).start ≤ place = rw (last, new_at) at c.1 in
                let to : place < max (part_at sorted i).end end = rw (last, new_at) at c.2 in
                elim (cases_lt place (part_at sorted i).end) [
                  | inl m ↦ (i, from, m)
                  | inr m ↦ elim so_far.reach [
                    | inl e ↦ absurd (omega arith)
                    | inr e ↦
                        let before : (part_at sorted e.0).start ≤ (part_at sorted i).start =
                        in_order e.0 i (record { start = 0; end = 0 }) (omega (arith, e.1)) there in
                        (e.0, omega (arith, before), omega (arith, e.2))
                  ]
                ]
          ];
      rising = record {
        starts = IsNonDecreasingBy-push (λ p. p.start) coverage new so_far.rising.starts
            (λ d h. rw (get_or_default coverage (length coverage - 1) d (record { start = 0; end = 0 }) (omega arith))
            (so_far.starts (length coverage - 1) i (omega arith) (omega arith) there));
        ends = IsNonDecreasingBy-push (λ p. p.end) coverage new so_far.rising.ends
            (λ d h. rw (get_or_default coverage (length coverage - 1) d (record { start = 0; end = 0 }) (omega arith))
            (omega (arith, so_far.ends (length coverage - 1) (omega arith))));
        filled = λ k h. elim (cases_lt k (length coverage)) [
          | inl l ↦ rw (old_at k l) (so_far.rising.filled k l)
          | inr l ↦
              let last : k ≡ length coverage = omega (arith, length_new) in
              rw (last, new_at) (omega arith)
        ];
      };
      ends = λ k h. elim (cases_lt k (length coverage)) [
        | inl l ↦ rw (old_at k l) (omega (arith, so_far.ends k l))
        | inr l ↦
            let last : k ≡ length coverage = omega (arith, length_new) in
            rw (last, new_at) (omega arith)
      ];
      starts = λ k j h l m. elim (cases_lt k (length coverage)) [
        | inl n ↦ rw (old_at k n) (so_far.starts k j n (omega arith) m)
        | inr n ↦
            let last : k ≡ length coverage = omega (arith, length_new) in
            rw (last, new_at) (in_order i j (record { start = 0; end = 0 }) (omega arith) m)
      ];
      reach = elim (cases_lt (part_at sorted i).end end) [
        | inl l ↦ elim so_far.reach [
          | inl e ↦ absurd (omega arith)
          | inr e ↦ inr (e.0, omega (arith, e.1), omega (arith, e.2))
        ]
        | inr l ↦ inr (i, omega arith, omega arith)
      ];
    }

  pub extended_all : (i : ℕ) (coverage : List Part) (end : ℕ) → length sorted ≤ i → IsExtended sorted i coverage end → IsCoverage sorted coverage
  extended_all i coverage end all so_far = record {
    covered = λ place c. so_far.covered c.0 place (omega (arith, covers_within sorted c.0 place c.2)) c.1 c.2;
    covers = so_far.covers;
    rising = so_far.rising;
  }

-- what is covered doesn't depend on the order
covers_permuted : (xs ys : List Part) → IsPermutation xs ys → (place : ℕ) → Covers xs place → Covers ys place
covers_permuted xs ys moved place c =
    let within : c.0 < length xs = covers_within xs c.0 place c.2 in
    let stood : Contains xs (part_at xs c.0) = Contains-get_or xs c.0 (record { start = 0; end = 0 }) within in
    let stands : Contains ys (part_at xs c.0) = Contains-permutation xs ys (part_at xs c.0) moved stood in
    let same : part_at ys stands.0 ≡ part_at xs c.0 =
    get_or_default ys stands.0 (record { start = 0; end = 0 }) (part_at xs c.0) stands.1 ∙ stands.2 in
    (stands.0, rw same c.1, rw same c.2)

pub coverage_permuted : (xs ys coverage : List Part) → IsPermutation xs ys → IsCoverage ys coverage → IsCoverage xs coverage
coverage_permuted xs ys coverage moved c = record {
  covered = λ place h. c.covered place (covers_permuted xs ys moved place h);
  covers = λ place h. covers_permuted ys xs (IsPermutation-sym xs ys moved) place (c.covers place h);
  rising = c.rising;
}

-- the first covered place, in parts of which those below `index` end by `place` and the others don't
module _ (coverage : List Part) (place index : ℕ) (before : (k : ℕ) → k < index → (part_at coverage k).end ≤ place) where
  pub next_none : length coverage ≤ index → place ≤ 2 ^ 64 - 1 → IsNext coverage place (2 ^ 64 - 1)
  next_none all fits = record {
    behind = fits;
    first = λ x h l c.
        let within : c.0 < length coverage = covers_within coverage c.0 x c.2 in
        omega (arith, before c.0 (omega arith), c.2);
    covered = λ h. absurd (omega arith);
  }

  pub next_found :
      IsRising coverage → index < length coverage → ((k : ℕ) → index ≤ k → k < length coverage → place < (part_at coverage k).end)
      → IsNext coverage place (max (part_at coverage index).start place)
  next_found rising there behind = record {
    behind = omega arith;
    first = λ x h l c.
        let within : c.0 < length coverage = covers_within coverage c.0 x c.2 in
        elim (cases_lt c.0 index) [
          | inl m ↦ omega (arith, before c.0 m, c.2)
          | inr m ↦ omega (arith, rising.starts index c.0 (record { start = 0; end = 0 }) m within, c.1)
        ];
    covered = λ h. (index, omega arith, omega (arith, rising.filled index there, behind index (omega arith) there));
  }
