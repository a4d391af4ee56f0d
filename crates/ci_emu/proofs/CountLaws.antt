-- Counts of steps by their address.
use Rattle.std.proofs.Common.{arith, ◌≡◌, ℕ, ◌+◌, ◌-◌, ◌/◌, ◌%◌, ◌<◌, ◌≤◌, get_or, subst, take, ap, sym, ◌∙◌, refl}
use Rattle.std.proofs.Common.{List, length, Option, Some, None, replicate, inl, inr, eq-eqb, add-zero}
use Rattle.std.specs.Prelude.{false, true, ◌==◌, ◌&&◌, IfSome, if◌then◌else◌, slice_index, slice_set}
use Rattle.std.proofs.lemmas.Bool.{cases_Bool, cases_eq, cases_lt, eqb-true, ne_eqb}
use Rattle.std.proofs.lemmas.List.{get_or_default, get_or-replicate, get_or_past, length-replicate, get_or-set_same, get_or-set_other}
use Rattle.ci_elf.specs.declared.ranges.Range.{Range}
use Rattle.ci_elf.specs.Executables.{end_of, has_byte, HoldsAddress, IsAscending, IsTextWord}
use Rattle.ci_elf.specs.WordPlaces.{place_in, word_count, word_place}
use Rattle.ci_elf.proofs.RangeLaws.{has_bounds}
use Rattle.ci_elf.proofs.WordPlaceLaws.{no_text_word, nowhere, one_word, place_held, word_below, word_has_place, word_placed}
use Rattle.ci_machine.specs.Programs.{Program, in_text}
use Rattle.ci_emu.specs.declared.counts.Counts.{Counts}
use Rattle.ci_emu.specs.Profiles.{at_place, count_at}

-- ---- no steps yet

zero_at : (n : ℕ) (place : Option ℕ) → at_place (replicate n 0) place ≡ 0
zero_at n None = refl
zero_at n (Some p) = elim (cases_lt p n) [
  | inl below ↦ get_or-replicate n p 0 0 below
  | inr past ↦ get_or_past (replicate n 0) p 0 (rw length-replicate past)
]

pub nothing_counted : (counts : Counts) (n : ℕ) → counts.by_place.items ≡ replicate n 0 → (address : ℕ) → count_at counts address ≡ 0
unfolding count_at
nothing_counted counts n none address =
    ap (λ items. at_place items (word_place counts.places address)) none ∙ zero_at n (word_place counts.places address)

-- a place that is found is one of the counts
pub within_places : (ranges : List Range) (address n : ℕ) (place : Option ℕ) → n ≡ word_count ranges → place ≡ word_place ranges address
    → IfSome place (λ p. p < n)
within_places ranges address n None count is = tt
within_places ranges address n (Some p) count is = omega (arith, word_below ranges address p (sym is))

-- ---- one step more

pub count_read : (counts : Counts) (address p : ℕ) → word_place counts.places address ≡ Some p
    → count_at counts address ≡ slice_index counts.by_place.items p
unfolding count_at
count_read counts address p is = ap (at_place counts.by_place.items) is

same_number : (a b : ℕ) → Some a ≡ Some b → a ≡ b
same_number a b is = cc

module _ (old new : Counts) (pc : ℕ) where
  counted : (place : ℕ) → word_place old.places pc ≡ Some place → place < length old.by_place.items
      → new.places ≡ old.places
      → new.by_place.items ≡ slice_set old.by_place.items place (slice_index old.by_place.items place + 1)
      → (address p : ℕ) → word_place old.places address ≡ Some p
      → count_at new address ≡ count_at old address + (if pc == address then 1 else 0)
  counted place is below ranges set address p there =
      let before = count_read old address p there in
      let after = count_read new address p (ap (λ r. word_place r address) ranges ∙ there) ∙ ap (λ items. slice_index items p) set in
      elim (cases_eq pc address) [
        | inl same ↦
            let e : p ≡ place = same_number p place (sym there ∙ ap (word_place old.places) (sym same) ∙ is) in
            rw (eq-eqb pc address same) (after
            ∙ ap (slice_index (slice_set old.by_place.items place (slice_index old.by_place.items place + 1))) e
            ∙ get_or-set_same old.by_place.items place (slice_index old.by_place.items place + 1) 0 below
            ∙ ap (λ k. slice_index old.by_place.items k + 1) (sym e)
            ∙ ap (λ n. n + 1) (sym before))
        | inr other ↦
            let apart : ¬ (p ≡ place) = λ e. other (one_word old.places pc address place is (there ∙ ap Some e)) in
            rw (ne_eqb pc address other) (after
            ∙ get_or-set_other old.by_place.items place p (slice_index old.by_place.items place + 1) 0 apart
            ∙ sym before ∙ sym (add-zero (count_at old address)))
      ]

not_counted : (old : Counts) (pc : ℕ) → word_place old.places pc ≡ None → (address p : ℕ) → word_place old.places address ≡ Some p
    → count_at old address ≡ count_at old address + (if pc == address then 1 else 0)
not_counted old pc none address p there =
    let other : ¬ (pc ≡ address) = λ same. no_place (sym none ∙ ap (word_place old.places) same ∙ there) in
    rw (ne_eqb pc address other) (sym (add-zero (count_at old address)))
  where
    no_place : ¬ (None ≡ Some p)
    no_place is = cc

-- ---- a step that begins at an address

module _ (program : Program) (old : Counts) (text : old.places ≡ program.text) where
  pub place_at : (pc found : ℕ) (place : Option ℕ) → found ≡ pc → place ≡ word_place old.places found → word_place program.text pc ≡ place
  place_at pc found place same is =
      sym (is ∙ ap (word_place old.places) same ∙ ap (λ ranges. word_place ranges pc) text)

  in_counts : (address : ℕ) (place : Option ℕ) → word_place program.text address ≡ place → word_place old.places address ≡ place
  in_counts address place is = ap (λ ranges. word_place ranges address) text ∙ is

  pub entered : (new : Counts) (pc place : ℕ) → word_place program.text pc ≡ Some place → place < length old.by_place.items
      → new.places ≡ old.places
      → new.by_place.items ≡ slice_set old.by_place.items place (slice_index old.by_place.items place + 1)
      → (address : ℕ) → IsTextWord program.text address → count_at new address ≡ count_at old address + (if pc == address then 1 else 0)
  entered new pc place is below ranges set address word =
      let there = word_has_place program.text address word in
      counted old new pc place (in_counts pc (Some place) is) below ranges set address there.0 (in_counts address (Some there.0) there.1)

  pub not_entered : (pc : ℕ) → word_place program.text pc ≡ None
      → (address : ℕ) → IsTextWord program.text address → count_at old address ≡ count_at old address + (if pc == address then 1 else 0)
  not_entered pc none address word =
      let there = word_has_place program.text address word in
      not_counted old pc (in_counts pc None none) address there.0 (in_counts address (Some there.0) there.1)

  pub count_here : (pc place : ℕ) → word_place program.text pc ≡ Some place → count_at old pc ≡ slice_index old.by_place.items place
  count_here pc place is = count_read old pc place (in_counts pc (Some place) is)

-- nothing is fetched where there is no place
pub no_word : (program : Program) (pc : ℕ) → word_place program.text pc ≡ None → ((pc % 4 == 0) && in_text program pc) ≡ false
no_word program pc none = elim (cases_Bool (pc % 4 == 0)) [
  | inl aligned ↦ elim (cases_Bool (in_text program pc)) [
    | inl text ↦ absurd (no_text_word program.text pc none (eqb-true (pc % 4) 0 aligned, text))
    | inr outside ↦ rw (aligned, outside) refl
  ]
  | inr other ↦ rw other refl
]

-- ---- the range that is near

-- a word of the range with this number
module _ (ranges : List Range) (ascending : IsAscending ranges) (address index place : ℕ) (held : HoldsAddress ranges address index)
    (is : word_place ranges address ≡ Some place) (listed : List Range) (same : listed ≡ ranges) where
  abbrev range : Range
  range = get_or listed index nowhere

  range_is : (d : Range) → get_or ranges index d ≡ range
  range_is d = get_or_default ranges index d nowhere held.within ∙ ap (λ rs. get_or rs index nowhere) (sym same)

  place_of : (a : ℕ) → HoldsAddress ranges a index → place_in ranges a ≡ Some (word_count (take index ranges) + (a - range.start) / 4)
  place_of a holds =
      place_held ranges ascending a index holds
      ∙ ap (λ (r : Range). Some (word_count (take index ranges) + (a - r.start) / 4)) (range_is nowhere)

  -- has a place so far behind that of the first one
  pub first_place : place ≡ word_count (take index ranges) + (address - range.start) / 4
  first_place = same_number place _ (sym (word_placed ranges address place is).1 ∙ place_of address held)

  -- and so has each word of the range
  pub placed_alike : (a : ℕ) → has_byte range a ≡ true
      → place_in ranges a ≡ Some (place - (address - range.start) / 4 + (a - range.start) / 4)
  placed_alike a has =
      let bounds = has_bounds range a has in
      let there : HoldsAddress ranges a index = record {
        within = held.within;
        from = λ d. subst (λ (r : Range). r.start ≤ a) (sym (range_is d)) bounds.0;
        to = λ d. subst (λ (r : Range). a < end_of r) (sym (range_is d)) bounds.1;
      } in
      let first : word_count (take index ranges) ≡ place - (address - range.start) / 4 = omega (arith, first_place) in
      place_of a there ∙ ap (λ n. Some (n + (a - range.start) / 4)) first
