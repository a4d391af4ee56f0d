-- What segments load from the file, and data words.
use Rattle.std.proofs.Common.{◌≡◌, ℕ, zero, suc, lit<, ◌+◌, ◌*◌, ◌/◌, ◌%◌, ◌<◌, ◌≤◌, ◌⊎◌, inl, inr, List, [], ◌∷◌, length, get_or, sym, ◌∙◌, subst, arith}
use Rattle.std.specs.Prelude.{Option, Some, None, IfSome}
use Rattle.byteorder.specs.Endian.{little_number}
use Rattle.std.specs.List.{Contains}
use Rattle.std.proofs.lemmas.Bool.{cases_lt}
use Rattle.std.proofs.lemmas.List.{get_or_default}
use Rattle.ci_elf.specs.declared.ranges.Range.{Range}
use Rattle.ci_elf.specs.declared.segments.Segment.{Segment}
use Rattle.ci_elf.specs.Executables.{Executable, InText, IsLoaded, IsWellFormed}
use Rattle.ci_elf.specs.Fields.{field}
use Rattle.ci_elf.specs.MemoryMap.{memory_top}
use Rattle.ci_elf.proofs.ImageLaws.{loaded_from, loaded_to}
use Rattle.ci_block.specs.private.Loading.{IsFromDataWords, IsFromSegments, end_word, first_word, segment_at}
use Rattle.ci_block.specs.private.Marking.{AreTextRanges}
use Rattle.ci_block.specs.private.Sources.{IsFromData}
use Rattle.ci_block.specs.Text.{IsDataWord, IsLoadedWord}
use Rattle.ci_elf.proofs.WordPlaceLaws.{nowhere}
use Rattle.ci_block.proofs.RangeLaws.{holder, text_at}

abbrev nothing : Segment
nothing = record { address = 0; memory_size = 0; offset = 0; file_size = 0 }

pub segment_top : (image : Executable) → IsWellFormed image → (s : Segment) → Contains image.segments s → s.address + s.file_size ≤ memory_top
segment_top image formed s there = omega (arith, formed.filled s there, formed.below_top s there)

-- ---- words

module _ (image : Executable) (address first second third fourth : ℕ) where
  abbrev pub these : List ℕ
  these = first ∷ second ∷ third ∷ fourth ∷ []

  pub word_of_bytes : IsLoaded image address first → IsLoaded image (address + 1) second → IsLoaded image (address + 2) third
      → IsLoaded image (address + 3) fourth → (value : ℕ) → value ≡ little_number 4 these → IsLoadedWord image address value
  unfolding field
  word_of_bytes a b c d value is = record { bytes = these; loaded = each; little_endian = sym is }
    where
      each : (k : ℕ) → k < 4 → IsLoaded image (address + k) (get_or these k 0)
      each zero h = let here : address ≡ address + 0 = omega arith in subst (λ x. IsLoaded image x first) here a
      each (suc zero) h = b
      each (suc (suc zero)) h = c
      each (suc (suc (suc zero))) h = d
      each (suc (suc (suc (suc k)))) h = absurd (omega arith)

  pub only_word : (value : ℕ) (w : IsLoadedWord image address value) → first ≡ get_or w.bytes 0 0 → second ≡ get_or w.bytes 1 0
      → third ≡ get_or w.bytes 2 0 → fourth ≡ get_or w.bytes 3 0 → (found : ℕ) → found ≡ little_number 4 these → found ≡ value
  unfolding field
  only_word value w a b c d found is = omega (arith, is, w.little_endian)

pub first_byte : (image : Executable) (address value : ℕ) (w : IsLoadedWord image address value) → IsLoaded image address (get_or w.bytes 0 0)
first_byte image address value w =
    let here : address + 0 ≡ address = omega arith in subst (λ x. IsLoaded image x (get_or w.bytes 0 0)) here (w.loaded 0 (lit< tt))

pub some_is : (a b : ℕ) → Some a ≡ Some b → a ≡ b
some_is a b is = cc

-- bytes of a word that begins at a multiple of four are text where its first one is
pub word_of_text : (ranges : List Range) → AreTextRanges ranges → (address k : ℕ) → address % 4 ≡ 0 → k < 4
    → InText ranges (address + k) → InText ranges address
word_of_text ranges text address k aligned h in_text =
    let held = holder ranges (address + k) in_text in
    text_at ranges address held.0 (omega (arith, held.1.from nowhere, text.aligned held.0)) (omega (arith, held.1.to nowhere))

pub as_data_word : (image : Executable) (address : ℕ) → address % 4 ≡ 0 → AreTextRanges image.ranges → ¬ InText image.ranges address
    → (value : Option ℕ) → IfSome value (λ v. IsLoadedWord image address v) → IfSome value (λ v. IsDataWord image address v)
as_data_word image address aligned text outside None h = tt
as_data_word image address aligned text outside (Some v) h =
    record { aligned = aligned; not_text = λ k l t. outside (word_of_text image.ranges text address k aligned l t); word = h }

-- ---- data words, one after the other

module _ (image : Executable) (first n : ℕ) (value : Option ℕ)
    (found : IfSome value (λ v. IsDataWord image (4 * n) v)) (only : (v : ℕ) → IsDataWord image (4 * n) v → value ≡ Some v)
    (from : first ≤ n) (a : ℕ) where
  this_one : (o : Option ℕ) → IfSome o (λ v. IsDataWord image (4 * n) v) → o ≡ Some a → IsDataWord image (4 * n) a
  this_one None h is = cc
  this_one (Some v) h is = let same : v ≡ a = cc in subst (IsDataWord image (4 * n)) same h

  pub from_data_word : IsFromDataWords image first n a ⊎ (value ≡ Some a) → IsFromDataWords image first (n + 1) a
  from_data_word (inl f) = record { number = f.number; from = f.from; to = omega (arith, f.to); word = f.word }
  from_data_word (inr is) = record { number = n; from = from; to = omega arith; word = this_one value found is }

  pub data_word_or_before : IsFromDataWords image first (n + 1) a → IsFromDataWords image first n a ⊎ (value ≡ Some a)
  data_word_or_before f = elim (cases_lt f.number n) [
    | inl l ↦ inl (record { number = f.number; from = f.from; to = l; word = f.word })
    | inr l ↦
        let same : f.number ≡ n = omega (arith, f.to) in
        inr (only a (subst (λ m. IsDataWord image (4 * m) a) same f.word))
  ]

-- ---- segment after segment

module _ (image : Executable) where
  pub from_segment : (count a : ℕ)
      → IsFromSegments image count a
      ⊎ IsFromDataWords image (first_word (segment_at image.segments count)) (end_word (segment_at image.segments count)) a
      → IsFromSegments image (count + 1) a
  from_segment count a (inl f) = record { index = f.index; before = omega (arith, f.before); words = f.words }
  from_segment count a (inr w) = record { index = count; before = omega arith; words = w }

  pub segment_or_before : (count a : ℕ) → IsFromSegments image (count + 1) a
      → IsFromSegments image count a
      ⊎ IsFromDataWords image (first_word (segment_at image.segments count)) (end_word (segment_at image.segments count)) a
  segment_or_before count a f = elim (cases_lt f.index count) [
    | inl l ↦ inl (record { index = f.index; before = l; words = f.words })
    | inr l ↦
        let same : f.index ≡ count = omega (arith, f.before) in
        inr (subst (λ i. IsFromDataWords image (first_word (segment_at image.segments i)) (end_word (segment_at image.segments i)) a) same f.words)
  ]

  pub data_from_segments : (count a : ℕ) → IsFromSegments image count a → IsFromData image a
  data_from_segments count a f = record { place = 4 * f.words.number; word = f.words.word }

  pub segments_from_data : (a : ℕ) → IsFromData image a → IsFromSegments image (length image.segments) a
  segments_from_data a f =
      let byte = f.word.word.loaded 0 (lit< tt) in
      let there = byte.there in
      let i = there.0 in
      let is : segment_at image.segments i ≡ byte.segment = get_or_default image.segments i nothing byte.segment there.1 ∙ there.2 in
      let number = f.place / 4 in
      let place : 4 * number ≡ f.place = omega (arith, f.word.aligned) in
      record {
        index = i;
        before = there.1;
        words = rw is (record {
          number = number;
          from = omega (arith, loaded_from byte.segment (f.place + 0) byte.loads, f.word.aligned);
          to = omega (arith, loaded_to byte.segment (f.place + 0) byte.loads, f.word.aligned);
          word = subst (λ p. IsDataWord image p a) (sym place) f.word;
        });
      }
