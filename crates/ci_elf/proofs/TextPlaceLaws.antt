-- Where in a file that keeps the rules its text stands.
use Rattle.std.proofs.Common.{◌≡◌, ℕ, ◌+◌, ◌-◌, ◌<◌, ◌≤◌, true, List, [], ◌∷◌, ◌++◌, sym, ap, subst, arith}
use Rattle.std.specs.Prelude.{IsTrue}
use Rattle.std.specs.List.{Contains}
use Rattle.ci_elf.specs.declared.ranges.Range.{Range}
use Rattle.ci_reading.specs.Broken.{each_below}
use Rattle.ci_elf.specs.Fields.{e_entry, e_phnum, e_shnum, is_loadable, is_text, sh_offset, sh_size}
use Rattle.ci_elf.specs.Executables.{Executable, IsImageOf, IsTextWord, IsWellFormed, has_in_file, place_of, range_of, segment_of, segments_of}
use Rattle.ci_elf.specs.Rules.{Rule, Holds, IsLoadedBy, KeepsRules, MemoryIsBounded, HasSymbols, TextIsLoaded}
use Rattle.ci_elf.specs.Rules.{TextIsAlone, TextIsUnshared, IsAlone, Within, rules, segment_rules, memory_rules}
use Rattle.ci_elf.specs.Rules.{section_rules, sharing_rules}
use Rattle.ci_elf.specs.TextChanges.{IsTextPlace}
use Rattle.ci_reading.proofs.BrokenLaws.{those_contain, kept_at, kept_front, kept_back}
use Rattle.ci_elf.proofs.ImageLaws.{loads_between, place_found, only_loader}
use Rattle.ci_elf.proofs.RangeLaws.{loaded_at, range_holding, words_some}
use Rattle.ci_elf.proofs.ReadingLaws.{header_stage, last_stage, range_among, well_formed_from}

module _ (bytes : List ℕ) (kept : KeepsRules bytes (rules bytes)) where
  -- ---- the rules by their parts

  abbrev from_sections : List Rule
  from_sections = section_rules bytes ++ (sharing_rules bytes ++ last_stage)

  abbrev from_memory : List Rule
  from_memory = memory_rules bytes ++ (MemoryIsBounded ∷ from_sections)

  segments_on : KeepsRules bytes (segment_rules bytes ++ from_memory)
  segments_on = kept_back (Holds bytes) header_stage (segment_rules bytes ++ from_memory) kept

  pub segments_kept : KeepsRules bytes (segment_rules bytes)
  segments_kept = kept_front (Holds bytes) (segment_rules bytes) from_memory segments_on

  memory_on : KeepsRules bytes from_memory
  memory_on = kept_back (Holds bytes) (segment_rules bytes) from_memory segments_on

  pub memory_kept : KeepsRules bytes (memory_rules bytes)
  memory_kept = kept_front (Holds bytes) (memory_rules bytes) (MemoryIsBounded ∷ from_sections) memory_on

  bounded_on : KeepsRules bytes (MemoryIsBounded ∷ from_sections)
  bounded_on = kept_back (Holds bytes) (memory_rules bytes) (MemoryIsBounded ∷ from_sections) memory_on

  sections_kept : KeepsRules bytes (section_rules bytes)
  sections_kept = kept_front (Holds bytes) (section_rules bytes) (sharing_rules bytes ++ last_stage) bounded_on.1

  sharing_on : KeepsRules bytes (sharing_rules bytes ++ last_stage)
  sharing_on = kept_back (Holds bytes) (section_rules bytes) (sharing_rules bytes ++ last_stage) bounded_on.1

  pub alone_at : (n : ℕ) → n < e_shnum bytes → is_text bytes n ≡ true → IsAlone bytes n
  alone_at n h is =
      (kept_at (Holds bytes) (e_shnum bytes) n (λ k. HasSymbols k ∷ TextIsLoaded k ∷ TextIsAlone k ∷ []) h sections_kept).1.1.0 is

  pub unshared_at : (m n : ℕ) → m < n → n < e_phnum bytes → Holds bytes (TextIsUnshared m n)
  unshared_at m n h l =
      (kept_at (Holds bytes) n m (λ k. TextIsUnshared k n ∷ []) h
      (kept_at (Holds bytes) (e_phnum bytes) n (λ k. each_below k (λ m. TextIsUnshared m k ∷ [])) l
      (kept_front (Holds bytes) (sharing_rules bytes) last_stage sharing_on))).0

  -- ---- the image

  module _ (file : Executable) (is : IsImageOf bytes file) where
    pub formed : IsWellFormed file
    formed =
        let canonical : Executable = record {
          bytes = bytes;
          entry = e_entry bytes;
          segments = segments_of bytes;
          ranges = file.ranges;
          symbols = file.symbols;
        } in
        let same : canonical ≡ file = λ i. record {
          bytes = sym is.same_bytes i;
          entry = sym is.entry i;
          segments = sym is.segments i;
          ranges = file.ranges;
          symbols = file.symbols;
        } in
        subst IsWellFormed same
        (well_formed_from bytes segments_kept memory_kept sections_kept file.ranges is.same_ranges file.symbols
        bounded_on.0 is.ascending (kept_back (Holds bytes) (sharing_rules bytes) last_stage sharing_on).1.0)

    segment_there :
        (k : ℕ) → k < e_phnum bytes → is_loadable bytes k ≡ true → Contains file.segments (segment_of bytes k)
    unfolding segments_of
    segment_there k h loadable =
        subst (λ list. Contains list (segment_of bytes k)) (sym is.segments)
        (those_contain (is_loadable bytes) (segment_of bytes) (e_phnum bytes) k h loadable)

    -- a word of the text stands in a text section, which a segment loads
    pub record IsWordOf (address n k : ℕ) : Type 0 where
      pub exists : n < e_shnum bytes
      pub text : is_text bytes n ≡ true
      pub loaded : IsLoadedBy bytes k n
      pub loads : IsTrue (has_in_file (segment_of bytes k) address)
      pub from : sh_offset bytes n ≤ place_of file.segments address
      pub to : place_of file.segments address + 4 ≤ sh_offset bytes n + sh_size bytes n
      pub place : place_of file.segments address ≡ (segment_of bytes k).offset + (address - (segment_of bytes k).address)
      pub behind : (segment_of bytes k).address ≤ address

    pub word_of : (address : ℕ) → IsTextWord file.ranges address → (n k : ℕ) × IsWordOf address n k
    word_of address (aligned, text) =
        let held = range_holding file.ranges address text in
        let range = held.1 in
        let r = range_among bytes file.ranges is.same_ranges range (held.0, held.2, held.3) in
        let words = words_some bytes segments_kept sections_kept memory_kept r.0 r.2 in
        let l = loaded_at bytes segments_kept sections_kept r.0 r.1 words.0 in
        let by = l.1 in
        let start : range.start ≡ (range_of bytes r.0).start = ap (λ (s : Range). s.start) r.3 in
        let many : range.words ≡ (range_of bytes r.0).words = ap (λ (s : Range). s.words) r.3 in
        let segment = segment_of bytes l.0 in
        let begins : segment.address ≤ address = omega (arith, start, held.4.0, by.agrees, by.from) in
        let ends : address + 4 ≤ segment.address + segment.file_size =
        omega (arith, aligned, start, many, held.4.0, held.4.1, by.agrees, by.from, by.to, words.1) in
        let loads = loads_between segment address begins (omega arith) in
        let there = segment_there l.0 by.exists by.loadable in
        let place =
        place_found file.segments address segment there loads (only_loader file formed address segment there loads) in (
          r.0,
          l.0,
          record {
            exists = r.1;
            text = words.0;
            loaded = by;
            loads = loads;
            from = omega (arith, place, start, held.4.0, by.agrees, by.from);
            to = omega (arith, aligned, place, start, many, held.4.0, held.4.1, by.agrees, by.from, by.to, words.1);
            place = place;
            behind = begins;
          },
        )

    -- a place of the text is one of a text section
    pub text_place :
        (place : ℕ) → IsTextPlace file place
        → (n : ℕ) × (n < e_shnum bytes) × (is_text bytes n ≡ true) × Within (sh_offset bytes n) (sh_size bytes n) place
    text_place place (address, text, within) =
        let w = word_of address text in
        let word = w.2 in
        (w.0, word.exists, word.text, (omega (arith, word.from, within.0), omega (arith, word.to, within.1)))
