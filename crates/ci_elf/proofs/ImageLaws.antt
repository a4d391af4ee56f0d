-- What the segments of an image load from its file.
use Rattle.std.proofs.Common.{◌≡◌, ◌≢◌, ℕ, suc, zero, ◌+◌, ◌-◌, ◌<◌, ◌≤◌, ◌⊎◌, inl, inr, List, [], ◌∷◌, ◌++◌, length}
use Rattle.std.proofs.Common.{take, drop, get_or, refl, sym, ◌∙◌, ap, subst, arith, length-append, length-take}
use Rattle.std.proofs.Common.{length-drop, le-leb, lt-ltb, true≢false, append_assoc}
use Rattle.std.proofs.lemmas.List.{append-nil, take_rest, drop_all, drop-drop}
use borrow.Rule.Slice.PartMut.{put_mid}
use Rattle.byteorder.specs.Endian.{little_bytes}
use Rattle.byteorder.specs.Numbers.{length-bytes_low_first}
use Rattle.std.specs.Prelude.{nat_le, nat_lt, IsTrue}
use Rattle.std.specs.List.{AllPairs, Contains}
use Rattle.std.specs.List.Sorted.{IsPermutation}
use Rattle.std.proofs.lemmas.Bool.{cases_lt, cases_Bool, leb-true, ltb-true}
use Rattle.std.proofs.lemmas.List.{get_or_default, get_or_read}
use Rattle.std.proofs.Math.Seq.{take-length}
use Rattle.std.proofs.lemmas.List.Sorted.{Contains-permutation, IsPermutation-sym}
use Rattle.ci_elf.specs.declared.segments.Segment.{Segment}
use Rattle.ci_elf.specs.private.Checks.{IsLastBefore}
use Rattle.ci_elf.specs.private.SectionChecks.{AreLaidOut}
use Rattle.ci_elf.specs.Executables.{Executable, IsLoaded, IsTextWord, IsWellFormed, ShareNoMemory, has_in_file, place_of}
use Rattle.ci_elf.specs.TextChanges.{with_word}
use Rattle.ci_elf.specs.private.LoadedPlaces.{IsSound, IsLoadedFrom}
use Rattle.ci_elf.proofs.RangeLaws.{range_holding}
use Rattle.ci_elf.proofs.SegmentLaws.{both}
use Rattle.ci_elf.proofs.RangeLaws.{left_of}

-- the test whether a segment has a byte in the file, by the bounds of its file part
pub loads_between : (s : Segment) (address : ℕ) → s.address ≤ address → address < s.address + s.file_size → IsTrue (has_in_file s address)
loads_between s address from to = rw (le-leb s.address address from, lt-ltb address (s.address + s.file_size) to) refl

pub loaded_from : (s : Segment) (address : ℕ) → IsTrue (has_in_file s address) → s.address ≤ address
loaded_from s address h = leb-true s.address address (left_of (nat_le s.address address) (nat_lt address (s.address + s.file_size)) h)

pub loaded_to : (s : Segment) (address : ℕ) → IsTrue (has_in_file s address) → address < s.address + s.file_size
loaded_to s address h = ltb-true address (s.address + s.file_size) (both (nat_le s.address address) (nat_lt address (s.address + s.file_size)) h)

pub contains_tail : (t : Segment) (ts : List Segment) (s : Segment) → Contains ts s → Contains (t ∷ ts) s
contains_tail t ts s c = (suc c.0, omega (arith, c.1), c.2)

pub contained_later : (t : Segment) (ts : List Segment) (s : Segment) (k : ℕ) → k < length (t ∷ ts) → get_or (t ∷ ts) k s ≡ s → t ≢ s → Contains ts s
contained_later t ts s zero h e other = absurd (other e)
contained_later t ts s (suc k) h e other = (k, omega arith, e)

-- the place of a byte that a segment loads, where all that load it are one
pub place_found :
    (segments : List Segment) (address : ℕ) (s : Segment) → Contains segments s → IsTrue (has_in_file s address)
    → ((t : Segment) → Contains segments t → IsTrue (has_in_file t address) → t ≡ s) → place_of segments address ≡ s.offset + (address - s.address)
unfolding place_of
place_found [] address s c loads only = absurd (omega (arith, c.1))
place_found (t ∷ ts) address s c loads only = elim (cases_Bool (has_in_file t address)) [
  | inl is ↦ rw is (ap (λ r. r.offset + (address - r.address)) (only t (0, omega arith, refl) is))
  | inr is ↦
      let other : t ≢ s = λ same. true≢false (sym loads ∙ ap (λ r. has_in_file r address) (sym same) ∙ is) in
      rw is (place_found ts address s (contained_later t ts s c.0 c.1 c.2 other) loads (λ r d. only r (contains_tail t ts r d)))
]

-- ---- segments in the order of their addresses

pub loader : (segments : List Segment) (address : ℕ) (candidate s : Segment) → AreLaidOut segments → IsLastBefore segments address candidate
    → Contains segments s → IsTrue (has_in_file s address) → s ≡ candidate
loader segments address candidate s layout last c loads =
    let full : s.file_size ≤ s.memory_size = layout.filled s c in
    layout.one s candidate c last.among (last.last s c (loaded_from s address loads)) (omega (arith, last.before, loaded_to s address loads))

pub layout_permuted : (xs ys : List Segment) → IsPermutation xs ys → AreLaidOut xs → AreLaidOut ys
layout_permuted xs ys moved layout = record {
  filled = λ s c. layout.filled s (Contains-permutation ys xs s (IsPermutation-sym xs ys moved) c);
  one = λ s t c d. layout.one s t (Contains-permutation ys xs s (IsPermutation-sym xs ys moved) c)
      (Contains-permutation ys xs t (IsPermutation-sym xs ys moved) d);
}

-- of two elements of a list one stands before the other, or they are one
pub ordered : {A : Type 0} (R : A → A → Type 0) (xs : List A) (x y : A) → AllPairs R xs → Contains xs x → Contains xs y → R x y ⊎ (R y x ⊎ (x ≡ y))
ordered R xs x y pairs c d = elim (cases_lt c.0 d.0) [
  | inl h ↦ inl (subst (λ z. R z y) c.2 (subst (R (get_or xs c.0 x)) (get_or_default xs d.0 x y d.1 ∙ d.2) (pairs c.0 d.0 x h d.1)))
  | inr h ↦ elim (cases_lt d.0 c.0) [
    | inl l ↦ inr (inl (subst (λ z. R z x) d.2 (subst (R (get_or xs d.0 y)) (get_or_default xs c.0 y x c.1 ∙ c.2) (pairs d.0 c.0 y l c.1))))
    | inr l ↦
        let same : c.0 ≡ d.0 = omega arith in
        inr (inr (sym c.2 ∙ ap (λ k. get_or xs k x) same ∙ get_or_default xs d.0 x y d.1 ∙ d.2))
  ]
]

module _ (image : Executable) (formed : IsWellFormed image) where
  -- a segment that begins in the memory of one is that one
  one : (s t : Segment) → Contains image.segments s → Contains image.segments t → s.address ≤ t.address → t.address < s.address + s.memory_size → s ≡ t
  one s t c d from to = elim (ordered ShareNoMemory image.segments s t formed.apart c d) [
    | inl h ↦ absurd (omega (arith, formed.has_memory t d))
    | inr (inl h) ↦ absurd (omega (arith, formed.has_memory t d))
    | inr (inr same) ↦ same
  ]

  pub layout_of : AreLaidOut image.segments
  layout_of = record { filled = formed.filled; one = one }

  -- what loads a byte is one segment
  pub only_loader : (address : ℕ) (s : Segment) → Contains image.segments s → IsTrue (has_in_file s address)
      → (t : Segment) → Contains image.segments t → IsTrue (has_in_file t address) → t ≡ s
  only_loader address s c loads t d others = elim (cases_lt s.address t.address) [
    | inl l ↦ sym (one s t c d (omega arith) (omega (arith, loaded_to s address loads, loaded_from t address others, formed.filled s c)))
    | inr l ↦ one t s d c l (omega (arith, loaded_to t address others, loaded_from s address loads, formed.filled t d))
  ]

  -- a segment loads each word of the text, which lies in the file
  pub word_loader : (address : ℕ) → IsTextWord image.ranges address
      → (s : Segment) × Contains image.segments s × IsTrue (has_in_file s address) × (s.offset + (address - s.address) + 4 ≤ length image.bytes)
  word_loader address (aligned, text) =
      let held = range_holding image.ranges address text in
      let range = held.1 in
      let c : Contains image.ranges range = (held.0, held.2, held.3) in
      let l = formed.loaded range c in
      let loads = l.2 in (
        l.0,
        l.1,
        loads_between l.0 address (omega (arith, loads.from, held.4.0)) (omega (arith, loads.to, held.4.1)),
        omega (arith, aligned, formed.aligned range c, held.4.0, held.4.1, loads.from, loads.to, loads.in_file),
      )

-- ---- other bytes of the same length

pub formed_with : (image : Executable) (bytes : List ℕ) → length bytes ≡ length image.bytes → IsWellFormed image → IsWellFormed (record image { bytes = bytes })
formed_with image bytes same formed = record {
  ascending = formed.ascending;
  aligned = formed.aligned;
  worded = formed.worded;
  loaded = λ range c.
      let l = formed.loaded range c in
      let loads = l.2 in
      (l.0, l.1, record { from = loads.from; to = loads.to; in_file = omega (arith, loads.in_file) });
  in_file = λ s c some. omega (arith, formed.in_file s c some);
  filled = formed.filled;
  has_memory = formed.has_memory;
  below_top = formed.below_top;
  off_stack = formed.off_stack;
  apart = formed.apart;
  bounded = formed.bounded;
  entry = formed.entry;
}

-- ---- what is read through the segments by address

module _ (image : Executable) (by_address : List Segment) (sound : IsSound image by_address) where
  of_image : (s : Segment) → Contains by_address s → Contains image.segments s
  of_image s c = Contains-permutation by_address image.segments s (IsPermutation-sym image.segments by_address sound.same) c

  among : (s : Segment) → Contains image.segments s → Contains by_address s
  among s c = Contains-permutation image.segments by_address s sound.same c

  pub layout_by_address : AreLaidOut by_address
  layout_by_address = layout_permuted image.segments by_address sound.same (layout_of image sound.well_formed)

  module _ (address : ℕ) where
    abbrev pub Unloaded : Type 0
    Unloaded = (s : Segment) → Contains by_address s → ¬ IsTrue (has_in_file s address)

    pub word_is_loaded : IsTextWord image.ranges address → ¬ Unloaded
    word_is_loaded text none =
        let l = word_loader image sound.well_formed address text in
        none l.0 (among l.0 l.1) l.2

    module _ (place : ℕ) (from : IsLoadedFrom by_address address place) where
      one_loader : (s : Segment) → Contains image.segments s → IsTrue (has_in_file s address) → s ≡ from.segment
      one_loader = only_loader image sound.well_formed address from.segment (of_image from.segment from.there) from.loads

      pub place_is : place ≡ place_of image.segments address
      place_is =
          from.is ∙ sym (place_found image.segments address from.segment (of_image from.segment from.there) from.loads one_loader)

      pub word_in_file : IsTextWord image.ranges address → place + 4 ≤ length image.bytes
      word_in_file text =
          let l = word_loader image sound.well_formed address text in
          let fits : from.segment.offset + (address - from.segment.address) + 4 ≤ length image.bytes =
          subst (λ (s : Segment). s.offset + (address - s.address) + 4 ≤ length image.bytes) (one_loader l.0 l.1 l.2) l.3 in
          omega (arith, from.is, fits)

      pub byte_in_file : place < length image.bytes
      byte_in_file =
          let start = loaded_from from.segment address from.loads in
          let end = loaded_to from.segment address from.loads in
          omega (arith, from.is, start, end, sound.well_formed.in_file from.segment (of_image from.segment from.there) (omega (arith, start, end)))

      pub is_loaded : (byte : ℕ) → byte ≡ get_or image.bytes place byte → IsLoaded image address byte
      is_loaded byte is = record {
        segment = from.segment;
        there = of_image from.segment from.there;
        loads = from.loads;
        byte = ap (λ k. get_or image.bytes k 0) (sym from.is) ∙ sym (get_or_read image.bytes place byte byte_in_file is 0);
      }

      pub only_byte : (found byte : ℕ) → found ≡ get_or image.bytes place found → IsLoaded image address byte → found ≡ byte
      only_byte found byte is l =
          get_or_read image.bytes place found byte_in_file is 0 ∙ ap (λ k. get_or image.bytes k 0) from.is
          ∙ subst (λ (s : Segment). get_or image.bytes (s.offset + (address - s.address)) 0 ≡ byte)
          (one_loader l.segment l.there l.loads) l.byte

    pub not_loaded : Unloaded → (byte : ℕ) → ¬ IsLoaded image address byte
    not_loaded none byte l = none l.segment (among l.segment l.there) l.loads

-- what a write of a word leaves
pub written :
    (bytes new : List ℕ) (place word : ℕ) → place + 4 ≤ length bytes
    → new ≡ little_bytes 4 word ++ drop 4 (take (length bytes - place) (drop place bytes))
    → put_mid place (length bytes - place) bytes new ≡ with_word bytes place word
written bytes new place word within is =
    let rest : drop 4 (take (length bytes - place) (drop place bytes)) ≡ drop (place + 4) bytes =
    ap (drop 4) (take_rest bytes place) ∙ drop-drop 4 place bytes in
    let none : drop (length bytes - place) (drop place bytes) ≡ [] =
    drop_all (length bytes - place) (drop place bytes) (omega (arith, length-drop place bytes)) in
    rw (is, rest, none, append-nil (drop (place + 4) bytes)) (sym (append_assoc (take place bytes) (little_bytes 4 word) (drop (place + 4) bytes)))

pub length_with_word : (bytes : List ℕ) (place word : ℕ) → place + 4 ≤ length bytes → length (with_word bytes place word) ≡ length bytes
length_with_word bytes place word within =
    omega (
      arith,
      length-append (take place bytes ++ little_bytes 4 word) (drop (place + 4) bytes),
      length-append (take place bytes) (little_bytes 4 word),
      length-take place bytes,
      length-drop (place + 4) bytes,
      length-bytes_low_first 0 4 word,
    )

-- what a vector holds once all its bytes were replaced
pub replaced : (old new : List ℕ) (len : ℕ) → len ≡ length old → length new ≡ length old → take len (new ++ drop (length new) old) ≡ new
replaced old new len is same =
    rw (drop_all (length new) old (omega arith), append-nil, is, sym same) (take-length new)
