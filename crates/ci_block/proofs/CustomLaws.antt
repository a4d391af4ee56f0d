-- Words of the custom opcodes, found range by range.
use Rattle.std.proofs.Common.{◌≡◌, ℕ, ◌+◌, ◌-◌, ◌*◌, ◌/◌, ◌<◌, inl, inr, List, length, sym, subst, arith}
use Rattle.std.proofs.lemmas.Bool.{cases_lt}
use Rattle.ci_isa.specs.Fields.{HasCustomOpcode}
use Rattle.ci_elf.specs.declared.ranges.Range.{Range}
use Rattle.ci_elf.specs.Executables.{Executable, IsTextWord, IsWellFormed, text_word}
use Rattle.ci_elf.specs.MemoryMap.{memory_top}
use Rattle.ci_block.specs.private.Marking.{range_at}
use Rattle.ci_elf.proofs.WordPlaceLaws.{nowhere}
use Rattle.ci_block.proofs.RangeLaws.{apart, holder, text_below_top, text_ranges, word_of_range}
use Rattle.ci_block.specs.private.CustomSearch.{HasNoCustomWordBefore, IsFirstCustomWordIn}
use Rattle.ci_block.specs.CustomWords.{HasNoCustomWord, IsFirstCustomWord}

module _ (image : Executable) (formed : IsWellFormed image) where
  -- a word of a range is a word of the text
  module _ (ranges : List Range) (is : ranges ≡ image.ranges) (index place : ℕ) (within : place < (range_at ranges index).words) where
    pub word_there : IsTextWord image.ranges ((range_at ranges index).start + 4 * place)
    word_there =
        subst (λ rs. IsTextWord image.ranges ((range_at rs index).start + 4 * place)) (sym is)
        (word_of_range image.ranges (text_ranges image formed) index place (subst (λ rs. place < (range_at rs index).words) is within))

    pub below_top : (range_at ranges index).start + 4 * place < memory_top
    below_top = text_below_top image.ranges (text_ranges image formed) ((range_at ranges index).start + 4 * place) word_there.1

  -- a word of the text is a word of a range
  pub record IsWordInRange (address : ℕ) : Type 0 where
    pub index : ℕ
    pub place : ℕ
    pub below : index < length image.ranges
    pub within : place < (range_at image.ranges index).words
    pub address_is : address ≡ (range_at image.ranges index).start + 4 * place

  word_of_some_range : (address : ℕ) → IsTextWord image.ranges address → IsWordInRange address
  word_of_some_range address text =
      let held = holder image.ranges address text.1 in
      let aligned = (text_ranges image formed).aligned held.0 in
      record {
        index = held.0;
        place = (address - (range_at image.ranges held.0).start) / 4;
        below = held.1.within;
        within = omega (arith, held.1.from nowhere, held.1.to nowhere, aligned, text.0);
        address_is = omega (arith, held.1.from nowhere, aligned, text.0);
      }

  -- where no range has one, the text has none
  pub none_at_all : HasNoCustomWordBefore image (length image.ranges) → HasNoCustomWord image
  none_at_all none address text =
      let word = word_of_some_range address text in
      subst (λ a. ¬ HasCustomOpcode (text_word image a)) (sym word.address_is) (none word.index word.below word.place word.within)

  -- the first of the first range that has one is the first of the text
  pub first_at_all : (i address word : ℕ) → i < length image.ranges → HasNoCustomWordBefore image i
      → IsFirstCustomWordIn image i address word → IsFirstCustomWord image address word
  first_at_all i address word below before found = record {
    text = subst (IsTextWord image.ranges) (sym found.address_is) (word_of_range image.ranges (text_ranges image formed) i found.place found.within);
    there = found.there;
    custom = found.custom;
    first = λ a text earlier.
        let w = word_of_some_range a text in
        subst (λ b. ¬ HasCustomOpcode (text_word image b)) (sym w.address_is) (elim (cases_lt w.index i) [
          | inl front ↦ before w.index front w.place w.within
          | inr late ↦ elim (cases_lt i w.index) [
            | inl behind ↦
                absurd (omega (
                  arith,
                  earlier,
                  w.address_is,
                  found.address_is,
                  found.within,
                  apart image.ranges (text_ranges image formed) i w.index behind w.below,
                ))
            | inr same ↦
                let is : w.index ≡ i = omega arith in
                let place : w.place < found.place = omega (
                  arith,
                  earlier,
                  found.address_is,
                  subst (λ j. a ≡ (range_at image.ranges j).start + 4 * w.place) is w.address_is,
                ) in
                subst (λ j. ¬ HasCustomOpcode (text_word image ((range_at image.ranges j).start + 4 * w.place))) (sym is) (found.first w.place place)
          ]
        ]);
  }
