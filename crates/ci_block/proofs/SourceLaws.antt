-- What the instructions of the text mark, word after word and range after range.
use Rattle.std.proofs.Common.{◌≡◌, ℕ, ◌+◌, ◌-◌, ◌*◌, ◌/◌, ◌<◌, ◌≤◌, ◌⊎◌, inl, inr, List, length, sym, subst, arith}
use Rattle.std.specs.List.{Contains}
use Rattle.std.proofs.lemmas.Bool.{cases_lt}
use Rattle.ci_isa.specs.declared.instruction.Insn.{Insn}
use Rattle.ci_elf.specs.declared.ranges.Range.{Range}
use Rattle.ci_elf.specs.Executables.{Executable, end_of}
use Rattle.ci_block.specs.private.Marking.{range_at, AreTextRanges}
use Rattle.ci_block.specs.private.Sources.{IsFromMeeting, IsFromRanges, IsFromText, IsFromWords, Leads, Meets}
use Rattle.ci_block.specs.Text.{StandsAt}
use Rattle.ci_block.proofs.InsnLaws.{stands_alone}
use Rattle.ci_elf.proofs.WordPlaceLaws.{nowhere}
use Rattle.ci_block.proofs.RangeLaws.{apart, holder, number_of, range_there}

module _ (image : Executable) (start : ℕ) where
  module _ (count : ℕ) (insn : Insn) (stands : StandsAt image (start + 4 * count) insn) (a : ℕ) where
    pub from_word : IsFromWords image start count a ⊎ Leads (start + 4 * count) insn a → IsFromWords image start (count + 1) a
    from_word (inl f) = record { word = f.word; before = omega (arith, f.before); insn = f.insn; stands = f.stands; leads = f.leads }
    from_word (inr l) = record { word = count; before = omega arith; insn = insn; stands = stands; leads = l }

    pub word_or_before : IsFromWords image start (count + 1) a → IsFromWords image start count a ⊎ Leads (start + 4 * count) insn a
    word_or_before f = elim (cases_lt f.word count) [
      | inl l ↦ inl (record { word = f.word; before = l; insn = f.insn; stands = f.stands; leads = f.leads })
      | inr l ↦
          let same : f.word ≡ count = omega (arith, f.before) in
          let here : StandsAt image (start + 4 * count) f.insn = subst (λ w. StandsAt image (start + 4 * w) f.insn) same f.stands in
          let one = stands_alone image (start + 4 * count) f.insn insn here stands in
          inr (subst (λ i. Leads (start + 4 * count) i a) one (subst (λ w. Leads (start + 4 * w) f.insn a) same f.leads))
    ]

module _ (image : Executable) where
  pub from_range : (count a : ℕ)
      → IsFromRanges image count a ⊎ IsFromWords image (range_at image.ranges count).start (range_at image.ranges count).words a
      → IsFromRanges image (count + 1) a
  from_range count a (inl f) = record { index = f.index; before = omega (arith, f.before); words = f.words }
  from_range count a (inr w) = record { index = count; before = omega arith; words = w }

  pub range_or_before : (count a : ℕ) → IsFromRanges image (count + 1) a
      → IsFromRanges image count a ⊎ IsFromWords image (range_at image.ranges count).start (range_at image.ranges count).words a
  range_or_before count a f = elim (cases_lt f.index count) [
    | inl l ↦ inl (record { index = f.index; before = l; words = f.words })
    | inr l ↦
        let same : f.index ≡ count = omega (arith, f.before) in
        inr (subst (λ i. IsFromWords image (range_at image.ranges i).start (range_at image.ranges i).words a) same f.words)
  ]

  -- all ranges together are the text
  pub text_from_ranges : (count a : ℕ) → IsFromRanges image count a → IsFromText image a
  text_from_ranges count a f = record {
    from = (range_at image.ranges f.index).start + 4 * f.words.word;
    insn = f.words.insn;
    stands = f.words.stands;
    leads = f.words.leads;
  }

  pub ranges_from_text : AreTextRanges image.ranges → (a : ℕ) → IsFromText image a → IsFromRanges image (length image.ranges) a
  ranges_from_text text a f =
      let held = holder image.ranges f.from f.stands.text.1 in
      let i = held.0 in
      let from = held.1.from nowhere in
      let start = (range_at image.ranges i).start in
      let word = (f.from - start) / 4 in
      let place : start + 4 * word ≡ f.from = omega (arith, from, f.stands.text.0, text.aligned i) in
      record {
        index = i;
        before = held.1.within;
        words = record {
          word = word;
          before = omega (arith, from, held.1.to nowhere, place);
          insn = f.insn;
          stands = subst (λ from. StandsAt image from f.insn) (sym place) f.stands;
          leads = subst (λ from. Leads from f.insn a) (sym place) f.leads;
        };
      }

-- ---- where ranges meet

module _ (ranges : List Range) where
  module _ (count : ℕ) (some : 0 < count) (below : count < length ranges) (a : ℕ) where
    pub from_meeting : IsFromMeeting ranges count a ⊎ Meets (range_at ranges (count - 1)) (range_at ranges count) a → IsFromMeeting ranges (count + 1) a
    from_meeting (inl f) = record { index = f.index; some = f.some; before = omega (arith, f.before); within = f.within; meets = f.meets }
    from_meeting (inr m) = record { index = count; some = some; before = omega arith; within = below; meets = m }

    pub meeting_or_before : IsFromMeeting ranges (count + 1) a → IsFromMeeting ranges count a ⊎ Meets (range_at ranges (count - 1)) (range_at ranges count) a
    meeting_or_before f = elim (cases_lt f.index count) [
      | inl l ↦ inl (record { index = f.index; some = f.some; before = l; within = f.within; meets = f.meets })
      | inr l ↦
          let same : f.index ≡ count = omega (arith, f.before) in
          inr (subst (λ i. Meets (range_at ranges (i - 1)) (range_at ranges i) a) same f.meets)
    ]

  -- all meetings are within the list
  pub all_meetings : (m n a : ℕ) → length ranges ≤ n → IsFromMeeting ranges m a → IsFromMeeting ranges n a
  all_meetings m n a h f = record { index = f.index; some = f.some; before = omega (arith, f.within); within = f.within; meets = f.meets }

  pub meeting_met : (a : ℕ) → IsFromMeeting ranges (length ranges) a
      → (before range : Range) × Contains ranges before × Contains ranges range × Meets before range a
  meeting_met a f = (
    range_at ranges (f.index - 1),
    range_at ranges f.index,
    range_there ranges (f.index - 1) (omega (arith, f.within)),
    range_there ranges f.index f.within,
    f.meets,
  )

  pub meeting_from : AreTextRanges ranges → (before range : Range) → Contains ranges before → Contains ranges range → (a : ℕ) → Meets before range a
      → IsFromMeeting ranges (length ranges) a
  meeting_from text before range in_before in_range a meets =
      let i = number_of ranges before in_before in
      let j = number_of ranges range in_range in
      let there : Meets (range_at ranges i.0) (range_at ranges j.0) a = rw (i.2, j.2) meets in
      let next = neighbours text i.0 j.0 i.1 j.1 there.0 in
      record {
        index = j.0;
        some = omega arith;
        before = j.1;
        within = j.1;
        meets = let same : i.0 ≡ j.0 - 1 = omega arith in subst (λ k. Meets (range_at ranges k) (range_at ranges j.0) a) same there;
      }
    where
      neighbours : AreTextRanges ranges → (i j : ℕ) → i < length ranges → j < length ranges
          → end_of (range_at ranges i) ≡ (range_at ranges j).start → j ≡ i + 1
      neighbours text i j h l meets = elim (cases_lt j (i + 1)) [
        | inl m ↦ elim (cases_lt j i) [
          | inl n ↦ absurd (omega (arith, apart ranges text j i n h, text.worded i h, text.worded j l))
          | inr n ↦ let same : j ≡ i = omega arith in absurd (omega (arith, rw same at meets, text.worded i h))
        ]
        | inr m ↦ elim (cases_lt (i + 1) j) [
          | inl n ↦ absurd (omega (
            arith,
            apart ranges text i (i + 1) (omega arith) (omega arith),
            apart ranges text (i + 1) j n l,
            text.worded (i + 1) (omega arith),
          ))
          | inr n ↦ omega arith
        ]
      ]
