-- The table of pages: which page a number has, also after a page was written, added or taken away.
use Rattle.std.proofs.Common.{◌≡◌, ◌≢◌, ℕ, zero, suc, ◌<◌, ◌⊎◌, inl, inr, cond, eqb, List, [], ◌∷◌, length, get_or}
use Rattle.std.proofs.Common.{◌≤◌, ◌-◌, ◌/◌, ◌%◌, true, false, Option, Some, None, is_some, IfSome, IsSome, refl, sym, ap, ◌∙◌, arith, true≢false}
use Rattle.std.specs.List.{insert, remove}
use Rattle.std.specs.Ordering.{nat_cmp}
use Rattle.std.specs.FinMap as map
use Rattle.std.specs.FinMap.{len-empty}
use Rattle.std.proofs.lemmas.Bool.{cases_eq, cases_lt}
use Rattle.std.proofs.lemmas.Bool.Decides.{nat_tests}
use Rattle.std.proofs.lemmas.List.{get_or_default}
use Rattle.std.proofs.lemmas.List.Edits.{length-insert, length-remove}
use Rattle.ci_region.proofs.MapLaws.{get-insert_same, get-insert_other, get-remove_other, live_differs, len-take, len-write, len-give}
use Rattle.ci_machine.specs.declared.pages.Entry.{Entry}
use Rattle.ci_machine.specs.declared.pages.Page.{Page}
use Rattle.ci_machine.specs.declared.pages.Pages.{Pages}
use Rattle.ci_machine.specs.Pages.{content, has, page_at}
use Rattle.ci_machine.specs.PageTables.{byte_on, page_in, entry_at, HasTable, IsTable, IsPlace, IsGap}
use Rattle.ci_machine.proofs.EditLaws.{insert_each, insert_pairs, remove_each, remove_pairs}

abbrev Frames : Type 0
Frames = map.FinMap nat_cmp Page

-- a number that no entry has
pub page_absent : (table : List Entry) (frames : Frames) (number : ℕ)
    → ((i : ℕ) → i < length table → (entry_at table i).number ≢ number) → page_in table frames number ≡ None
unfolding page_in
page_absent [] frames number none = refl
page_absent (entry ∷ table) frames number none =
    let rest = page_absent table frames number (λ i lt. none (suc i) (omega arith)) in
    let here = none 0 (omega arith) in
    grind (arith, nat_tests, rest, here)

-- one that an entry has, and none before it
page_present : (table : List Entry) (frames : Frames) (number i : ℕ) → i < length table → (entry_at table i).number ≡ number
    → ((j : ℕ) → j < i → (entry_at table j).number ≢ number)
    → page_in table frames number ≡ map.get frames (entry_at table i).slot
unfolding page_in
page_present [] frames number i lt here none = absurd (omega arith)
page_present (entry ∷ table) frames number zero lt here none = grind (arith, nat_tests)
page_present (entry ∷ table) frames number (suc i) lt here none =
    let rest = page_present table frames number i (omega arith) here (λ j lt. none (suc j) (omega arith)) in
    let first = none 0 (omega arith) in
    grind (arith, nat_tests, rest, first)

-- the entry that was read at a place
pub entry_read : (table : List Entry) (place : ℕ) (entry : Entry) → place < length table → entry ≡ get_or table place entry
    → entry ≡ entry_at table place
entry_read table place entry lt is = is ∙ get_or_default table place entry (record { number = 0; slot = 0 }) lt

-- some entry has the number, or none
listed : (table : List Entry) (number : ℕ)
    → ((i : ℕ) × IsPlace table number i) ⊎ ((i : ℕ) → i < length table → (entry_at table i).number ≢ number)
listed [] number = inr (λ i lt. absurd (omega arith))
listed (entry ∷ table) number = elim (cases_eq entry.number number) [
  | inl same ↦ inl (0, record { below = omega arith; here = same })
  | inr apart ↦ elim (listed table number) [
    | inl place ↦ inl (suc place.0, record { below = omega (arith, place.1.below); here = place.1.here })
    | inr none ↦ inr (rest none apart)
  ]
]
  where
    rest : ((i : ℕ) → i < length table → (entry_at table i).number ≢ number) → entry.number ≢ number
        → (i : ℕ) → i < length (entry ∷ table) → (entry_at (entry ∷ table) i).number ≢ number
    rest none apart zero lt = apart
    rest none apart (suc i) lt = none i (omega arith)

module _ (table : List Entry) (frames : Frames) (known : IsTable table frames) where
  numbers_differ : (i j : ℕ) → i < length table → j < length table → i ≢ j → (entry_at table i).number ≢ (entry_at table j).number
  numbers_differ i j lti ltj apart same = elim (cases_lt i j) [
    | inl lt ↦ omega (arith, known.ascending i j lt ltj)
    | inr from ↦ omega (arith, known.ascending j i (omega arith) lti)
  ]

  slots_differ : (i j : ℕ) → i < length table → j < length table → i ≢ j → (entry_at table i).slot ≢ (entry_at table j).slot
  slots_differ i j lti ltj apart same = elim (cases_lt i j) [
    | inl lt ↦ known.apart i j lt ltj same
    | inr from ↦ known.apart j i (omega arith) lti (sym same)
  ]

  -- the page of a number is in the slot that stands beside it
  pub page_in_place : (number i : ℕ) → IsPlace table number i → page_in table frames number ≡ map.get frames (entry_at table i).slot
  page_in_place number i place =
      page_present table frames number i place.below place.here
      (λ j lt same. omega (arith, known.ascending j i lt place.below, place.here))

  -- there is none in a gap
  pub page_in_gap : (number i : ℕ) → IsGap table number i → page_in table frames number ≡ None
  page_in_gap number i gap =
      page_absent table frames number (λ j lt same. elim (cases_lt j i) [
        | inl below ↦ omega (arith, gap.smaller j below)
        | inr from ↦ omega (arith, gap.greater j from lt)
      ])

-- a table without entries
pub no_table : IsTable [] map.empty
no_table = record {
  ascending = λ i j lt end. absurd (omega arith);
  apart = λ i j lt end. absurd (omega arith);
  live = λ i lt. absurd (omega arith);
  counted = len-empty nat_cmp Page;
}

-- other frames, where all slots of the table hold what they held
page_in-frames : (table : List Entry) (old new : Frames)
    → ((i : ℕ) → i < length table → map.get new (entry_at table i).slot ≡ map.get old (entry_at table i).slot)
    → (number : ℕ) → page_in table new number ≡ page_in table old number
unfolding page_in
page_in-frames [] old new same number = refl
page_in-frames (entry ∷ table) old new same number =
    λ k. cond (eqb number entry.number) (same 0 (omega arith) k) (page_in-frames table old new (λ i lt. same (suc i) (omega arith)) number k)

-- ---- a page that is written

module _ (table : List Entry) (frames : Frames) (known : IsTable table frames) (number i : ℕ) (place : IsPlace table number i) (page : Page) where
  abbrev after : Frames
  after = map.insert frames (entry_at table i).slot page

  still_live : (j : ℕ) → j < length table → IsSome (map.get after (entry_at table j).slot)
  still_live j lt = elim (cases_eq (entry_at table j).slot (entry_at table i).slot) [
    | inl same ↦ ap (λ s. is_some (map.get after s)) same ∙ ap is_some (get-insert_same frames (entry_at table i).slot page)
    | inr apart ↦ ap is_some (get-insert_other frames (entry_at table i).slot page (entry_at table j).slot apart) ∙ known.live j lt
  ]

  pub write_table : IsTable table after
  write_table = record {
    ascending = known.ascending;
    apart = known.apart;
    live = still_live;
    counted = len-write frames (entry_at table i).slot page (known.live i place.below) ∙ known.counted;
  }

  pub page_in-write : (n : ℕ) → page_in table after n ≡ cond (eqb n number) (Some page) (page_in table frames n)
  page_in-write n = elim (listed table n) [
    | inl there ↦ elim (cases_eq there.0 i) [
      | inl same ↦
          let is : n ≡ number = sym there.1.here ∙ ap (λ j. (entry_at table j).number) same ∙ place.here in
          let kept = write_table in
          let got = page_in_place table after kept n there.0 there.1
          ∙ ap (λ j. map.get after (entry_at table j).slot) same ∙ get-insert_same frames (entry_at table i).slot page in
          grind (arith, nat_tests, is, got)
      | inr apart ↦
          let differs : n ≢ number = λ is. numbers_differ table frames known there.0 i there.1.below place.below apart
          (there.1.here ∙ is ∙ sym place.here) in
          let got = page_in_place table after write_table n there.0 there.1
          ∙ get-insert_other frames (entry_at table i).slot page (entry_at table there.0).slot
          (slots_differ table frames known there.0 i there.1.below place.below apart)
          ∙ sym (page_in_place table frames known n there.0 there.1) in
          grind (arith, nat_tests, differs, got)
    ]
    | inr none ↦
        let differs : n ≢ number = λ is. none i place.below (place.here ∙ sym is) in
        let got = page_absent table after n none ∙ sym (page_absent table frames n none) in
        grind (arith, nat_tests, differs, got)
  ]

-- ---- a page that is added

page_in-insert : (table : List Entry) (frames : Frames) (at number slot : ℕ)
    → ((j : ℕ) → j < at → (entry_at table j).number ≢ number) → (n : ℕ)
    → page_in (insert table at (record { number = number; slot = slot })) frames n
    ≡ cond (eqb n number) (map.get frames slot) (page_in table frames n)
unfolding page_in
page_in-insert table frames zero number slot none n = refl
page_in-insert [] frames (suc at) number slot none n = refl
page_in-insert (entry ∷ table) frames (suc at) number slot none n =
    let rest = page_in-insert table frames at number slot (λ j lt. none (suc j) (omega arith)) n in
    let first = none 0 (omega arith) in
    grind (arith, nat_tests, rest, first)

module _ (table : List Entry) (frames : Frames) (known : IsTable table frames) (number at slot : ℕ) (page : Page)
    (gap : IsGap table number at) (free : map.get frames slot ≡ None) where
  abbrev entry : Entry
  entry = record { number = number; slot = slot }

  abbrev more : Frames
  more = map.insert frames slot page

  others : (i : ℕ) → i < length table → (entry_at table i).slot ≢ slot
  others i lt = live_differs frames (entry_at table i).slot slot (known.live i lt) free

  pub page_in-add : (n : ℕ) → page_in (insert table at entry) more n ≡ cond (eqb n number) (Some page) (page_in table frames n)
  page_in-add n =
      page_in-insert table more at number slot (λ j lt same. omega (arith, gap.smaller j lt)) n
      ∙ (λ k. cond (eqb n number) (get-insert_same frames slot page k)
      (page_in-frames table frames more (λ i lt. get-insert_other frames slot page (entry_at table i).slot (others i lt)) n k))

  pub add_table : IsTable (insert table at entry) more
  add_table = record {
    ascending = insert_pairs table at entry _ gap.within (λ a b. a.number < b.number) known.ascending gap.smaller gap.greater;
    apart = insert_pairs table at entry _ gap.within (λ a b. a.slot ≢ b.slot) known.apart
        (λ i lt. others i (omega (arith, gap.within))) (λ j from lt same. others j lt (sym same));
    live = insert_each table at entry _ gap.within (λ a. IsSome (map.get more a.slot))
        (λ i lt. ap is_some (get-insert_other frames slot page (entry_at table i).slot (others i lt)) ∙ known.live i lt)
        (ap is_some (get-insert_same frames slot page));
    counted = omega (arith, len-take frames slot page free, known.counted, length-insert table at entry gap.within);
  }

-- ---- a page that is taken away

page_in-remove : (table : List Entry) (frames : Frames) (at : ℕ) → at < length table
    → ((j : ℕ) → j < length table → j ≢ at → (entry_at table j).number ≢ (entry_at table at).number) → (n : ℕ)
    → page_in (remove table at) frames n ≡ cond (eqb n (entry_at table at).number) None (page_in table frames n)
unfolding page_in
page_in-remove [] frames at lt none n = absurd (omega arith)
page_in-remove (entry ∷ table) frames zero lt none n = elim (cases_eq n entry.number) [
  | inl same ↦
      let gone : page_in table frames n ≡ None = page_absent table frames n (λ i below is. none (suc i) (omega arith) (λ e. omega arith) (is ∙ same)) in
      grind (arith, nat_tests, same, gone)
  | inr apart ↦ grind (arith, nat_tests, apart)
]
page_in-remove (entry ∷ table) frames (suc at) lt none n =
    let rest = page_in-remove table frames at (omega arith) (λ j below apart. none (suc j) (omega arith) (λ e. apart (omega arith))) n in
    let first = none 0 (omega arith) (λ e. omega arith) in
    grind (arith, nat_tests, rest, first)

module _ (table : List Entry) (frames : Frames) (known : IsTable table frames) (number at : ℕ) (place : IsPlace table number at) where
  abbrev fewer : Frames
  fewer = map.remove frames (entry_at table at).slot

  abbrev slot_kept : ℕ → Type 0
  slot_kept slot = map.get fewer slot ≡ map.get frames slot

  kept : (i : ℕ) → i < length table → i ≢ at → slot_kept (entry_at table i).slot
  kept i lt apart =
      get-remove_other frames (entry_at table at).slot (entry_at table i).slot
      (slots_differ table frames known i at lt place.below apart)

  pub page_in-take : (n : ℕ) → page_in (remove table at) fewer n ≡ cond (eqb n number) None (page_in table frames n)
  page_in-take n =
      page_in-frames (remove table at) frames fewer
      (remove_each table at _ place.below (λ a. slot_kept a.slot) kept) n
      ∙ page_in-remove table frames at place.below (λ j lt apart. numbers_differ table frames known j at lt place.below apart) n
      ∙ ap (λ m. cond (eqb n m) None (page_in table frames n)) place.here

  pub take_table : IsTable (remove table at) fewer
  take_table = record {
    ascending = remove_pairs table at _ place.below (λ a b. a.number < b.number) known.ascending;
    apart = remove_pairs table at _ place.below (λ a b. a.slot ≢ b.slot) known.apart;
    live = remove_each table at _ place.below (λ a. IsSome (map.get fewer a.slot)) (λ i lt apart. ap is_some (kept i lt apart) ∙ known.live i lt);
    counted = omega (arith, len-give frames (entry_at table at).slot (known.live at place.below), known.counted, length-remove table at place.below);
  }

-- ---- what stands in a table of pages

-- the page of a number that the table has is there
pub has_there : (pages : Pages) (number place : ℕ) → IsPlace pages.table.items number place → has pages number ≡ true
unfolding has page_at HasTable
has_there pages number place there = ap is_some (page_in_place _ _ pages.table_is number place there) ∙ pages.table_is.live place there.below

-- the same, where the place was looked for
pub has_found : (pages : Pages) (number : ℕ) (found : Option ℕ) → is_some found ≡ true → IfSome found (IsPlace pages.table.items number)
    → has pages number ≡ true
has_found pages number (Some place) is there = has_there pages number place there
has_found pages number None is there = absurd (true≢false (sym is))

-- where a number would go there is no page of it
pub has_not : (pages : Pages) (number place : ℕ) → IsGap pages.table.items number place → has pages number ≡ false
unfolding has page_at HasTable
has_not pages number place gap = ap is_some (page_in_gap _ _ pages.table_is number place gap)

-- no byte of a page that isn't there is other than 0
pub content_none : (pages : Pages) (x : ℕ) → has pages (x / 4096) ≡ false → content pages x ≡ 0
unfolding content has
content_none pages x none = nothing_on (page_at pages (x / 4096)) none
  where
    nothing_on : (page : Option Page) → is_some page ≡ false → byte_on page (x % 4096) ≡ 0
    nothing_on None none = refl
    nothing_on (Some page) none = absurd (true≢false none)

-- the numbers from the last one below another on
pub gap_behind : (pages : Pages) (from to number place : ℕ) → from ≤ number → number < to
    → ((i : ℕ) → i < place → (entry_at pages.table.items i).number < to)
    → ((i : ℕ) → place ≤ i → i < length pages.table.items → to ≤ (entry_at pages.table.items i).number)
    → place ≤ length pages.table.items
    → (0 < place → (entry_at pages.table.items (place - 1)).number < from) → IsGap pages.table.items number place
unfolding HasTable
gap_behind pages from to number place low high before behind within last = record {
  within = within;
  smaller = λ i lt. elim (cases_eq i (place - 1)) [
    | inl same ↦ omega (arith, last (omega arith), ap (λ j. (entry_at pages.table.items j).number) same)
    | inr apart ↦ omega (arith, last (omega arith), pages.table_is.ascending i (place - 1) (omega arith) (omega arith))
  ];
  greater = λ i past lt. omega (arith, behind i past lt);
}
