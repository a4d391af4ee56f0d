-- A file has one image.
use Rattle.std.proofs.Common.{◌≡◌, ℕ, ◌<◌, List, get_or, sym, ◌∙◌, arith}
use Rattle.std.specs.Prelude.{nat_lt}
use Rattle.std.specs.List.{Contains}
use Rattle.std.proofs.lemmas.Bool.{ltb-true}
use Rattle.std.proofs.lemmas.List.Elements.{Contains-get_or}
use Rattle.std.proofs.lemmas.List.Sorted.{Contains-permutation, IsPermutation-sym}
use Rattle.ci_elf.specs.declared.ranges.Range.{Range}
use Rattle.ci_elf.specs.Fields.{e_shnum, is_text}
use Rattle.ci_elf.specs.Executables.{Executable, IsImageOf, has_words, range_of, ranges_of}
use Rattle.ci_elf.specs.Laws.{ImageIsOne}
use Rattle.ci_reading.proofs.BrokenLaws.{contained_those}
use Rattle.ci_elf.proofs.OneOrder.{Ascends, ascending_is_one}
use Rattle.ci_elf.proofs.SegmentLaws.{both}

module _ (bytes : List ℕ) where
  -- each range of a file has a word
  worded : (range : Range) → Contains (ranges_of bytes) range → 0 < range.words
  unfolding ranges_of
  worded range c =
      let from = contained_those (has_words bytes) (range_of bytes) (e_shnum bytes) range c in
      let words = (range_of bytes from.0).words in
      rw from.3 (ltb-true 0 words (both (is_text bytes from.0) (nat_lt 0 words) from.2))

  module _ (image : Executable) (is : IsImageOf bytes image) where
    of_file : (range : Range) → Contains image.ranges range → Contains (ranges_of bytes) range
    of_file range c =
        Contains-permutation image.ranges (ranges_of bytes) range
        (IsPermutation-sym (ranges_of bytes) image.ranges is.same_ranges) c

    of_image : (range : Range) → Contains (ranges_of bytes) range → Contains image.ranges range
    of_image range c = Contains-permutation (ranges_of bytes) image.ranges range is.same_ranges c

    -- ranges that ascend and have words ascend by their starts
    starts_ascend : Ascends (λ (range : Range). range.start) image.ranges
    starts_ascend i j d h l =
        let range = get_or image.ranges i d in
        let some = worded range (of_file range (Contains-get_or image.ranges i d (omega arith))) in
        omega (arith, is.ascending i j d h l, some)

pub image_is_one : ImageIsOne
image_is_one bytes left right l r =
    let ranges : left.ranges ≡ right.ranges =
    ascending_is_one (λ (range : Range). range.start) left.ranges right.ranges (starts_ascend bytes left l)
    (starts_ascend bytes right r) (λ range c. of_image bytes right r range (of_file bytes left l range c))
    (λ range c. of_image bytes left l range (of_file bytes right r range c)) in
    λ i. record {
      bytes = (l.same_bytes ∙ sym r.same_bytes) i;
      entry = (l.entry ∙ sym r.entry) i;
      segments = (l.segments ∙ sym r.segments) i;
      ranges = ranges i;
      symbols = (l.symbols ∙ sym r.symbols) i;
    }
