-- Reading a frame gives back what went in.
use Rattle.std.proofs.Common.{◌≡◌, ℕ, ◌+◌, ◌-◌, ◌*◌, ◌<◌, ◌≤◌, nat_lt, true, false, cond, List, [], ◌∷◌, ◌++◌, length, get_or, refl, sym, ◌∙◌, ap, arith}
use Rattle.std.specs.List.Sorted.{IsPermutation}
use Rattle.std.proofs.lemmas.List.Sorted.{Contains-permutation, length_permutation}
use Rattle.std.proofs.lemmas.Bool.Decides.{nat_tests}
use Rattle.ci_elf.specs.declared.segments.Segment.{Segment}
use Rattle.ci_elf.specs.declared.ranges.Range.{Range}
use Rattle.ci_elf.specs.Fields.{field, e_flags, e_phentsize, e_shentsize}
use Rattle.ci_elf.specs.Executables.{Executable, has_in_file, place_of}
use Rattle.ci_elf.specs.Rules.{KeepsRules, rules, file_header_rules, kind_rules}
use Rattle.ci_elf.specs.Frames.{frame_of, text_address, values_address}
use Rattle.ci_elf.specs.FrameImages.{FitFrame, FramesAreRead, FramesKeepRules, HoldsWords, framed_segments, text_range}
use Rattle.ci_elf.specs.FrameImages.{text_segment, values_segment, values_offset}
use Rattle.ci_elf.specs.WordLists.{AreWords}
use Rattle.ci_elf.proofs.OneAnswer.{none_broken, only_memory}
use Rattle.ci_elf.proofs.WordLaws.{StandAt}
use Rattle.ci_elf.proofs.FrameHeaderLaws.{frame_headers, text_stands, constants_stand, values_stand}
use Rattle.ci_elf.proofs.FrameMeaningLaws.{segments_are, symbols_are, ranges_are}
use Rattle.ci_elf.proofs.FrameRuleLaws.{rules_kept}

-- ---- a frame breaks no rule

module _ (text constants values : List ℕ) (fits : FitFrame text constants values) where
  abbrev frame : List ℕ
  frame = frame_of text constants values

  kind_kept : KeepsRules frame (file_header_rules ++ kind_rules)
  unfolding frame_of field e_flags e_phentsize e_shentsize
  kind_kept =
      let h = frame_headers text constants values fits in (
        omega (arith, h.long),
        (refl, (refl, (refl, (refl, (refl, (refl, (refl, (refl, (λ _. refl, (λ _. refl, tt)))))))))),
      )

  frame_kept : KeepsRules frame (rules frame)
  frame_kept =
      rules_kept frame (length text) (length constants) (length values) (frame_headers text constants values fits)
      kind_kept

pub frames_keep_rules : FramesKeepRules
frames_keep_rules text constants values fits fault failed =
    let bytes = frame_of text constants values in
    let all = frame_kept text constants values fits in
    only_memory fault (λ real. none_broken bytes (rules bytes) fault all (failed real))

-- ---- the image

single_permuted : (r : Range) (xs : List Range) → IsPermutation (r ∷ []) xs → xs ≡ r ∷ []
single_permuted r [] moved = absurd (omega (arith, length_permutation (r ∷ []) [] moved))
single_permuted r (x ∷ []) moved =
    let among = Contains-permutation (r ∷ []) (x ∷ []) r moved (0, omega arith, refl) in
    let first : among.0 ≡ 0 = omega (arith, among.1) in
    ap (λ y. y ∷ []) (ap (λ k. get_or (x ∷ []) k r) (sym first) ∙ among.2)
single_permuted r (x ∷ y ∷ xs) moved = absurd (omega (arith, length_permutation (r ∷ []) (x ∷ y ∷ xs) moved))

module _ (segment : Segment) (rest : List Segment) (address : ℕ) where
  place_here :
      segment.address ≤ address → address < segment.address + segment.file_size
      → place_of (segment ∷ rest) address ≡ segment.offset + (address - segment.address)
  unfolding place_of
  place_here from to =
      let here : has_in_file segment address ≡ true = grind (arith, nat_tests) in
      rw here refl

  place_behind :
      segment.address + segment.file_size ≤ address → place_of (segment ∷ rest) address ≡ place_of rest address
  unfolding place_of
  place_behind behind =
      let none : has_in_file segment address ≡ false = grind (arith, nat_tests) in
      rw none refl

-- words of a file that a segment loads
held :
    (image : Executable) (address place : ℕ) (numbers : List ℕ) → AreWords numbers → StandAt image.bytes place numbers
    → ((k : ℕ) → k < length numbers → place_of image.segments (address + 4 * k) ≡ place + 4 * k)
    → HoldsWords image address numbers
held image address place numbers words stand at k below = rw (at k below) (stand k below (words k))

module _ (text constants values : List ℕ) (fits : FitFrame text constants values) where
  abbrev bytes : List ℕ
  bytes = frame_of text constants values

  abbrev segments : List Segment
  segments = framed_segments text constants values

  abbrev middle : ℕ
  middle = values_offset text constants

  abbrev behind_text : List Segment
  behind_text = cond (nat_lt 0 (length values)) (values_segment text constants values ∷ []) []

  text_place :
      (address : ℕ) → 0x10000 ≤ address → address < 0x10000 + middle → place_of segments address ≡ address - 0x10000
  text_place address from to = place_here (text_segment text constants) behind_text address from to ∙ omega arith

  values_place :
      (address : ℕ) → values_address ≤ address → address < values_address + 4 * length values
      → place_of segments address ≡ middle + (address - values_address)
  values_place address from to =
      let some : nat_lt 0 (length values) ≡ true = grind (arith, nat_tests) in
      place_behind (text_segment text constants) behind_text address (omega (arith, fits.text_fits))
      ∙ rw some (place_here (values_segment text constants values) [] address from to)

  module _ (image : Executable) (same : image.bytes ≡ bytes) (are : image.segments ≡ segments) where
    text_held : HoldsWords image text_address text
    text_held =
        held image text_address 116 text fits.text_words (rw same (text_stands text constants values)) (λ k below.
        rw are (text_place (text_address + 4 * k) (omega arith) (omega arith) ∙ omega arith))

    constants_held : HoldsWords image (text_address + 4 * length text) constants
    constants_held =
        let start = text_address + 4 * length text in
        held image start (116 + 4 * length text) constants fits.constant_words
        (rw same (constants_stand text constants values)) (λ k below.
        rw are (text_place (start + 4 * k) (omega arith) (omega arith) ∙ omega arith))

    values_held : HoldsWords image values_address values
    values_held =
        held image values_address middle values fits.value_words
        (rw same (values_stand text constants values)) (λ k below.
        rw are (values_place (values_address + 4 * k) (omega arith) (omega arith) ∙ omega arith))

pub frames_are_read : FramesAreRead
frames_are_read text constants values fits image read =
    let is = read.1 in
    let bytes = frame_of text constants values in
    let t = length text in
    let c = length constants in
    let v = length values in
    let h = frame_headers text constants values fits in
    let segments = is.segments ∙ segments_are bytes t c v h in
    record {
      same_bytes = is.same_bytes;
      entry = is.entry ∙ h.entry;
      segments = segments;
      ranges = single_permuted (text_range text) image.ranges (rw (ranges_are bytes t c v h) at is.same_ranges);
      symbols = is.symbols ∙ symbols_are bytes t c v h;
      text_words = text_held text constants values fits image is.same_bytes segments;
      constant_words = constants_held text constants values fits image is.same_bytes segments;
      value_words = values_held text constants values fits image is.same_bytes segments;
    }
