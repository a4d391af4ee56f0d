-- Words of the text that are written into a file.
use Rattle.std.proofs.Common.{◌≡◌, ◌≢◌, ℕ, ◌+◌, ◌-◌, ◌<◌, ◌≤◌, inl, inr, List, ◌++◌, length, take, drop, get_or, refl}
use Rattle.std.proofs.Common.{sym, ◌∙◌, ap, subst, arith, append_assoc, length-append, length-take, Ok}
use Rattle.std.proofs.lemmas.Bool.{cases_lt}
use Rattle.std.proofs.lemmas.List.{get_or-take, get_or-drop, get_or-append-add, get_or_append_left}
use Rattle.std.specs.List.{Contains}
use Rattle.std.proofs.lemmas.List.Sorted.{IsPermutation-refl}
use Rattle.byteorder.specs.Endian.{little_bytes, little_from}
use Rattle.byteorder.specs.Numbers.{length-bytes_low_first, little_number-reads_back}
use Rattle.ci_elf.specs.declared.segments.Segment.{Segment}
use Rattle.ci_elf.specs.Executables.{Executable, InText, IsTextWord, IsWellFormed, place_of, segments_of}
use Rattle.ci_elf.specs.TextChanges.{with_word}
use Rattle.ci_elf.specs.Fields.{field, p_filesz, p_offset, p_vaddr, sh_addr, sh_offset, sh_size}
use Rattle.ci_elf.specs.Rules.{Apart, IsReadAs, Within}
use Rattle.ci_elf.specs.TextChangeLaws.{NoneWritten, OneMoreWritten, OtherWordsStay, TextIsLoadedOnce, WordIsRead}
use Rattle.ci_elf.proofs.ImageLaws.{length_with_word, only_loader, place_found, word_loader}
use Rattle.ci_elf.proofs.RangeLaws.{range_holding, text_from}
use Rattle.ci_elf.proofs.SameFields.{field_same}
use Rattle.ci_elf.proofs.SectionLaws.{segment_among}
use Rattle.ci_elf.proofs.WordLaws.{from_behind}
use Rattle.ci_elf.proofs.TextPlaceLaws.{alone_at, formed, memory_kept, segments_kept, unshared_at, word_of}

module _ (bytes : List ℕ) (place word : ℕ) (within : place + 4 ≤ length bytes) where
  abbrev front : List ℕ
  front = take place bytes

  abbrev middle : List ℕ
  middle = little_bytes 4 word

  abbrev rest : List ℕ
  rest = drop (place + 4) bytes

  front_long : length front ≡ place
  front_long = length-take place bytes ∙ omega arith

  both_long : length (front ++ middle) ≡ place + 4
  both_long = omega (arith, length-append front middle, front_long, length-bytes_low_first 0 4 word)

  before : (i : ℕ) → i < place → get_or (with_word bytes place word) i 0 ≡ get_or bytes i 0
  before i h =
      get_or_append_left (front ++ middle) rest 0 i (omega (arith, both_long))
      ∙ get_or_append_left front middle 0 i (omega (arith, front_long))
      ∙ get_or-take place bytes i 0 h

  behind : (j : ℕ) → get_or (with_word bytes place word) (place + 4 + j) 0 ≡ get_or bytes (place + 4 + j) 0
  behind j =
      ap (λ k. get_or (with_word bytes place word) (k + j) 0) (sym both_long)
      ∙ get_or-append-add (front ++ middle) rest j 0
      ∙ get_or-drop (place + 4) bytes j 0

  -- a word that is written leaves the other bytes
  beside : (i : ℕ) → ¬ Within place 4 i → get_or (with_word bytes place word) i 0 ≡ get_or bytes i 0
  beside i out = elim (cases_lt i place) [
    | inl h ↦ before i h
    | inr h ↦ elim (cases_lt i (place + 4)) [
      | inl l ↦ absurd (out (h, l))
      | inr l ↦
          let there : place + 4 + (i - (place + 4)) ≡ i = omega arith in
          subst (λ k. get_or (with_word bytes place word) k 0 ≡ get_or bytes k 0) there (behind (i - (place + 4)))
    ]
  ]

-- a word of the text lies in the file
word_within :
    (file : Executable) → IsWellFormed file → (address : ℕ) → IsTextWord file.ranges address
    → place_of file.segments address + 4 ≤ length file.bytes
word_within file whole address text =
    let l = word_loader file whole address text in
    let place = place_found file.segments address l.0 l.1 l.2 (only_loader file whole address l.0 l.1 l.2) in
    omega (arith, place, l.3)

pub none_written : NoneWritten
none_written file = record { same_length = refl; same_else = λ place other. refl }

pub one_more_written : OneMoreWritten
one_more_written file bytes address word whole change text =
    let place = place_of file.segments address in
    let within : place + 4 ≤ length bytes = omega (arith, word_within file whole address text, change.same_length) in
    record {
      same_length = length_with_word bytes place word within ∙ change.same_length;
      same_else = λ i other. beside bytes place word within i (λ w. other (address, text, w)) ∙ change.same_else i other;
    }

-- a byte of a word of the text is text
byte_of_word :
    (file : Executable) → IsWellFormed file → (address byte : ℕ) → IsTextWord file.ranges address → Within address 4 byte
    → InText file.ranges byte
byte_of_word file whole address byte (aligned, text) within =
    let held = range_holding file.ranges address text in
    let start = whole.aligned held.1 (held.0, held.2, held.3) in
    text_from file.ranges byte (
      held.0,
      held.1,
      held.2,
      held.3,
      (omega (arith, held.4.0, within.0), omega (arith, aligned, start, held.4.0, held.4.1, within.1)),
    )

pub text_is_loaded_once : TextIsLoadedOnce
text_is_loaded_once old file read segment distance there within (address, text, at) =
    let kept = read.0 in
    let is = read.1 in
    let w = word_of old kept file is address text in
    let n = w.0 in
    let k = w.1 in
    let word = w.2 in
    let by = word.loaded in
    let s = segment_among old (segments_kept old kept) (memory_kept old kept) (segments_of old)
    (IsPermutation-refl (segments_of old)) segment (subst (λ list. Contains list segment) is.segments there) in
    let j = s.0 in
    let place = segment.offset + distance in
    let offset : segment.offset ≡ p_offset old j = ap (λ (r : Segment). r.offset) s.3 in
    let long : segment.file_size ≡ p_filesz old j = ap (λ (r : Segment). r.file_size) s.3 in
    let start : segment.address ≡ p_vaddr old j = ap (λ (r : Segment). r.address) s.3 in
    let in_text : Within (sh_offset old n) (sh_size old n) place =
    (omega (arith, word.from, at.0), omega (arith, word.to, at.1)) in
    let in_one : Within (p_offset old j) (p_filesz old j) place = (omega arith, omega arith) in
    let in_other : Within (p_offset old k) (p_filesz old k) place =
    (omega (arith, by.from, in_text.0), omega (arith, by.to, in_text.1)) in
    elim (cases_lt j k) [
      | inl h ↦ absurd (unshared_at old kept j k h by.exists s.2 by.loadable n word.exists word.text place in_text in_one in_other)
      | inr h ↦ elim (cases_lt k j) [
        | inl l ↦ absurd (unshared_at old kept k j l s.1 by.loadable s.2 n word.exists word.text place in_text in_other in_one)
        | inr l ↦
            let one : j ≡ k = omega arith in
            let same_offset : p_offset old k ≡ segment.offset = ap (p_offset old) (sym one) ∙ sym offset in
            let same_start : p_vaddr old k ≡ segment.address = ap (p_vaddr old) (sym one) ∙ sym start in
            byte_of_word file (formed old kept file is) address (segment.address + distance) text
            (omega (arith, at.0, word.place, word.behind), omega (arith, at.1, word.place, word.behind))
      ]
    ]

-- ---- words that are read

pub word_is_read : WordIsRead
unfolding field
word_is_read file bytes address word whole change text small =
    let place = place_of file.segments address in
    let within : place + 4 ≤ length bytes = omega (arith, word_within file whole address text, change.same_length) in
    let front = take place bytes in
    let middle = little_bytes 4 word in
    let rest = drop (place + 4) bytes in
    let there : length front + 0 ≡ place = omega (arith, front_long bytes place word within) in
    ap (λ list. little_from place 4 list) (append_assoc front middle rest)
    ∙ ap (λ k. little_from k 4 (front ++ (middle ++ rest))) (sym there)
    ∙ from_behind front (middle ++ rest) 0 4
    ∙ little_number-reads_back 4 word rest small

-- words at two addresses share no place in the file
words_apart :
    (old : List ℕ) (file : Executable) → IsReadAs old (Ok file) → (address other : ℕ) → IsTextWord file.ranges address
    → IsTextWord file.ranges other → other ≢ address
    → Apart (place_of file.segments other) 4 (place_of file.segments address) 4
words_apart old file read address other text other_text differ x at_other at =
    let kept = read.0 in
    let is = read.1 in
    let v = word_of old kept file is address text in
    let w = word_of old kept file is other other_text in
    let m = v.0 in
    let n = w.0 in
    let first = v.2 in
    let second = w.2 in
    let in_first : Within (sh_offset old m) (sh_size old m) x =
    (omega (arith, first.from, at.0), omega (arith, first.to, at.1)) in
    let in_second : Within (sh_offset old n) (sh_size old n) x =
    (omega (arith, second.from, at_other.0), omega (arith, second.to, at_other.1)) in
    elim (cases_lt m n) [
      | inl h ↦ (alone_at old kept n second.exists second.text).texts m h first.text x in_second in_first
      | inr h ↦ elim (cases_lt n m) [
        | inl l ↦ (alone_at old kept m first.exists first.text).texts n l second.text x in_first in_second
        | inr l ↦
            let one : m ≡ n = omega arith in
            let offset : sh_offset old m ≡ sh_offset old n = ap (sh_offset old) one in
            let start : sh_addr old m ≡ sh_addr old n = ap (sh_addr old) one in
            let a : place_of file.segments address + sh_addr old m ≡ address + sh_offset old m =
            omega (arith, first.place, first.behind, first.loaded.agrees) in
            let b : place_of file.segments other + sh_addr old n ≡ other + sh_offset old n =
            omega (arith, second.place, second.behind, second.loaded.agrees) in
            differ (omega (arith, a, b, offset, start, at.0, at.1, at_other.0, at_other.1, text.0, other_text.0))
      ]
    ]

pub other_words_stay : OtherWordsStay
other_words_stay old bytes file address other word read change text other_text differ =
    let place = place_of file.segments address in
    let there = place_of file.segments other in
    let whole = formed old read.0 file read.1 in
    let within : place + 4 ≤ length bytes = omega (arith, word_within file whole address text, change.same_length) in
    field_same (with_word bytes place word) bytes there 4 4 there (λ i at.
    beside bytes place word within i (words_apart old file read address other text other_text differ i at)) (omega arith) (omega arith)
