-- The ranges of a text: in which of them an address lies.
use Rattle.std.proofs.Common.{◌≡◌, ℕ, lit≤, ◌+◌, ◌*◌, ◌<◌, ◌≤◌, inl, inr, List, length, refl, ◌∙◌, ap, arith}
use Rattle.std.specs.List.{Contains}
use Rattle.std.proofs.lemmas.Bool.{cases_lt}
use Rattle.std.proofs.lemmas.List.{get_or_default, get_or_past}
use Rattle.ci_elf.specs.declared.ranges.Range.{Range}
use Rattle.ci_elf.specs.Executables.{Executable, HoldsAddress, InText, IsTextWord, IsWellFormed, end_of}
use Rattle.ci_elf.specs.MemoryMap.{memory_top}
use Rattle.ci_elf.proofs.WordPlaceLaws.{nowhere}
use Rattle.ci_elf.proofs.RangeLaws.{range_holding, text_held}
use Rattle.ci_block.specs.private.Marking.{range_at, AreTextRanges}

-- a range that has an address is one of the list
pub held_below : (ranges : List Range) (address i : ℕ) → address < end_of (range_at ranges i) → i < length ranges
held_below ranges address i h = elim (cases_lt i (length ranges)) [
  | inl l ↦ l
  | inr l ↦ absurd (omega (arith, ap (λ (r : Range). end_of r) (get_or_past ranges i nowhere l)))
]

-- a range of the list, by its number
pub number_of : (ranges : List Range) (range : Range) → Contains ranges range → (k : ℕ) × (k < length ranges) × (range_at ranges k ≡ range)
number_of ranges range there = (there.0, there.1, get_or_default ranges there.0 nowhere range there.1 ∙ there.2)

pub range_there : (ranges : List Range) (k : ℕ) → k < length ranges → Contains ranges (range_at ranges k)
range_there ranges k h = (k, h, get_or_default ranges k (range_at ranges k) nowhere h)

-- range i has the addresses from its start to its end
pub held_at : (ranges : List Range) (address i : ℕ) → (range_at ranges i).start ≤ address → address < end_of (range_at ranges i)
    → HoldsAddress ranges address i
held_at ranges address i from to =
    let within = held_below ranges address i to in
    record {
      within = within;
      from = λ d. rw (get_or_default ranges i d nowhere within) from;
      to = λ d. rw (get_or_default ranges i d nowhere within) to;
    }

-- and these are text
pub text_at : (ranges : List Range) (address i : ℕ) → (range_at ranges i).start ≤ address → address < end_of (range_at ranges i) → InText ranges address
text_at ranges address i from to = text_held ranges address i (held_at ranges address i from to)

-- text lies in a range
pub holder : (ranges : List Range) (address : ℕ) → InText ranges address → (i : ℕ) × HoldsAddress ranges address i
holder ranges address text =
    let h = range_holding ranges address text in
    let is : range_at ranges h.0 ≡ h.1 = get_or_default ranges h.0 nowhere h.1 h.2 ∙ h.3 in
    (h.0, held_at ranges address h.0 (rw is h.4.0) (rw is h.4.1))

module _ (ranges : List Range) (text : AreTextRanges ranges) where
  pub apart : (i j : ℕ) → i < j → j < length ranges → end_of (range_at ranges i) ≤ (range_at ranges j).start
  apart i j h l = text.ascending i j nowhere h l

  -- an address lies in one range
  pub one_range : (address i j : ℕ) → HoldsAddress ranges address i → HoldsAddress ranges address j → i ≡ j
  one_range address i j h l = elim (cases_lt i j) [
    | inl m ↦ absurd (omega (arith, h.to nowhere, l.from nowhere, apart i j m l.within))
    | inr m ↦ elim (cases_lt j i) [
      | inl o ↦ absurd (omega (arith, l.to nowhere, h.from nowhere, apart j i o h.within))
      | inr o ↦ omega arith
    ]
  ]

  -- no text lies between two neighbours
  pub between : (i address : ℕ) → i < length ranges → end_of (range_at ranges i) ≤ address
      → (i + 1 < length ranges → address < (range_at ranges (i + 1)).start) → ¬ InText ranges address
  between i address within past before h =
      let held = holder ranges address h in
      let j = held.0 in
      let below = held.1.within in
      let from = held.1.from nowhere in
      let to = held.1.to nowhere in
      elim (cases_lt j (i + 1)) [
        | inl l ↦ elim (cases_lt j i) [
          | inl m ↦ omega (arith, to, from, apart j i m (omega arith))
          | inr m ↦ let same : j ≡ i = omega arith in omega (arith, rw same at to)
        ]
        | inr l ↦ elim (cases_lt (i + 1) j) [
          | inl m ↦ omega (arith, from, before (omega arith), apart (i + 1) j m below, text.worded (i + 1) (omega arith))
          | inr m ↦ let same : j ≡ i + 1 = omega arith in omega (arith, rw same at from, before (omega arith))
        ]
      ]

  -- nor before the first one
  pub before_first : (address : ℕ) → (0 < length ranges → address < (range_at ranges 0).start) → ¬ InText ranges address
  before_first address before h =
      let held = holder ranges address h in
      let below = held.1.within in
      let from = held.1.from nowhere in
      elim (cases_lt 0 held.0) [
        | inl m ↦ omega (arith, from, before (omega arith), apart 0 held.0 m below, text.worded 0 (omega arith))
        | inr m ↦ let same : held.0 ≡ 0 = omega arith in omega (arith, rw same at from, before (omega arith))
      ]

  -- text lies below the top of memory
  pub text_below_top : (address : ℕ) → InText ranges address → address < memory_top
  text_below_top address h =
      let held = holder ranges address h in
      omega (arith, held.1.to nowhere, text.below_top held.0)

  -- the words of a range are words of the text
  pub word_of_range : (i word : ℕ) → word < (range_at ranges i).words → IsTextWord ranges ((range_at ranges i).start + 4 * word)
  word_of_range i word h = (
    omega (arith, text.aligned i),
    text_at ranges ((range_at ranges i).start + 4 * word) i (omega arith) (omega arith),
  )

-- the ranges of a file
pub text_ranges : (image : Executable) → IsWellFormed image → AreTextRanges image.ranges
text_ranges image formed = record {
  ascending = formed.ascending;
  aligned = λ k. elim (cases_lt k (length image.ranges)) [
    | inl l ↦ formed.aligned (range_at image.ranges k) (range_there image.ranges k l)
    | inr l ↦ rw (get_or_past image.ranges k nowhere l) refl
  ];
  worded = λ k l. formed.worded (range_at image.ranges k) (range_there image.ranges k l);
  below_top = λ k. elim (cases_lt k (length image.ranges)) [
    | inl l ↦
        let loads = formed.loaded (range_at image.ranges k) (range_there image.ranges k l) in
        omega (arith, loads.2.to, formed.filled loads.0 loads.1, formed.below_top loads.0 loads.1)
    | inr l ↦ rw (get_or_past image.ranges k nowhere l) (lit≤ tt)
  ];
}
