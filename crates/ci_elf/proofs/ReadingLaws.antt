-- From the rules, tested in stages, to what reading answers.
use Rattle.std.proofs.Common.{◌≡◌, ◌≢◌, ℕ, ◌+◌, ◌<◌, ◌≤◌, true, List, [], ◌∷◌, ◌++◌, length, refl, sym, ◌∙◌, ap, subst, arith, append_assoc, Result, IsErrAnd}
use Rattle.std.proofs.lemmas.Result.{err_from_is_err_and}
use Rattle.std.specs.List.{AllPairs, Contains}
use Rattle.std.specs.List.Sorted.{IsPermutation}
use Rattle.std.proofs.lemmas.List.Sorted.{Contains-permutation, IsPermutation-sym, IsPermutation-refl}
use Rattle.ci_elf.specs.declared.faults.ElfFault.{ElfFault}
use Rattle.ci_elf.specs.declared.faults.ElfFault.TheVariants.{NoMemory}
use Rattle.ci_elf.specs.declared.ranges.Range.{Range}
use Rattle.ci_elf.specs.declared.segments.Segment.{Segment}
use Rattle.ci_elf.specs.Fields.{e_entry, e_phnum, e_shnum, is_loadable, p_offset, p_vaddr, p_filesz, p_memsz}
use Rattle.ci_elf.specs.Executables.{Executable, IsImageOf, IsWellFormed, ShareNoMemory, IsAscending, IsTextWord}
use Rattle.ci_elf.specs.Executables.{LoadsRange, range_of, has_words, ranges_of, segment_of, segments_of, symbols_of}
use Rattle.ci_elf.specs.private.Checks.{SegmentFits}
use Rattle.ci_elf.specs.Rules.{Rule, NamesNoInterpreter, HasFilePart, IsPlaced, MemoryIsBounded, TextIsBounded}
use Rattle.ci_elf.specs.Rules.{EntryIsText, Holds, LiesIn, KeepsRules, BreaksFirst, IsReadAs, rules, file_header_rules}
use Rattle.ci_elf.specs.Rules.{kind_rules, table_rules, segment_rules, memory_rules, section_rules, sharing_rules}
use Rattle.ci_reading.proofs.BrokenLaws.{kept_at, contained_those, those_contain, those_pairs}
use Rattle.ci_elf.proofs.CheckLaws.{keeps_append}
use Rattle.ci_elf.proofs.SegmentLaws.{apart_means, fits_to, has_memory}
use Rattle.ci_elf.proofs.SectionLaws.{apart_at, segment_among, text_filled}
use Rattle.ci_elf.proofs.RangeLaws.{loaded_at, words_some, text_permuted}

-- what the rules say of a loadable segment that has memory
record IsLoadedSegment (bytes : List ℕ) (segment : Segment) : Type 0 where
  in_file : 0 < segment.file_size → segment.offset + segment.file_size ≤ length bytes
  has_memory : 0 < segment.memory_size
  fits : SegmentFits segment

abbrev pub header_stage : List Rule
header_stage = file_header_rules ++ (kind_rules ++ table_rules)

abbrev pub loading_stage : List ℕ → List Rule
loading_stage bytes = segment_rules bytes ++ (memory_rules bytes ++ MemoryIsBounded ∷ [])

abbrev pub text_stage : List ℕ → List Rule
text_stage bytes = section_rules bytes ++ sharing_rules bytes

abbrev pub last_stage : List Rule
last_stage = TextIsBounded ∷ EntryIsText ∷ []

module _ (bytes : List ℕ) where
  pub stages : header_stage ++ (loading_stage bytes ++ (text_stage bytes ++ last_stage)) ≡ rules bytes
  stages =
      ap (λ l. header_stage ++ l)
      (append_assoc (segment_rules bytes) (memory_rules bytes ++ MemoryIsBounded ∷ []) (text_stage bytes ++ last_stage)
      ∙ ap (λ l. segment_rules bytes ++ l)
      (append_assoc (memory_rules bytes) (MemoryIsBounded ∷ []) (text_stage bytes ++ last_stage)
      ∙ ap (λ l. memory_rules bytes ++ (MemoryIsBounded ∷ l)) (append_assoc (section_rules bytes) (sharing_rules bytes) last_stage)))

  pub kept_stages :
      KeepsRules bytes header_stage → KeepsRules bytes (loading_stage bytes) → KeepsRules bytes (text_stage bytes) → KeepsRules bytes last_stage
      → KeepsRules bytes (rules bytes)
  kept_stages header loading text last =
      subst (KeepsRules bytes) stages
      (keeps_append bytes header_stage (loading_stage bytes ++ (text_stage bytes ++ last_stage)) header
      (keeps_append bytes (loading_stage bytes) (text_stage bytes ++ last_stage) loading
      (keeps_append bytes (text_stage bytes) last_stage text last)))

  -- the exit of a `?` that hands a fault of the stages on
  pub read_handed_on :
      (result : Result Executable ElfFault) (fault : ElfFault) → IsErrAnd result (λ f. f ≡ fault)
      → (fault ≢ NoMemory → BreaksFirst bytes (header_stage ++ (loading_stage bytes ++ (text_stage bytes ++ last_stage))) fault) → IsReadAs bytes result
  read_handed_on result fault err b =
      let p = err_from_is_err_and result err in
      rw (p.1, p.2) (λ real. subst (λ l. BreaksFirst bytes l fault) stages (b real))

  -- a range of the text is that of a section
  pub range_among :
      (ranges : List Range) → IsPermutation (ranges_of bytes) ranges → (range : Range) → Contains ranges range
      → (n : ℕ) × (n < e_shnum bytes) × (has_words bytes n ≡ true) × (range ≡ range_of bytes n)
  unfolding ranges_of
  range_among ranges moved range c =
      contained_those (has_words bytes) (range_of bytes) (e_shnum bytes) range
      (Contains-permutation ranges (ranges_of bytes) range (IsPermutation-sym (ranges_of bytes) ranges moved) c)

  module _ (placed : KeepsRules bytes (segment_rules bytes)) (memory : KeepsRules bytes (memory_rules bytes))
      (sections : KeepsRules bytes (section_rules bytes))
      (ranges : List Range) (moved : IsPermutation (ranges_of bytes) ranges) where
    file_part : (k : ℕ) → k < e_phnum bytes → is_loadable bytes k ≡ true → LiesIn bytes (p_offset bytes k) (p_filesz bytes k)
    file_part k h is = (kept_at (Holds bytes) (e_phnum bytes) k (λ n. NamesNoInterpreter n ∷ HasFilePart n ∷ IsPlaced n ∷ []) h placed).1.0 is

    loaded_segment : (k : ℕ) → k < e_phnum bytes → is_loadable bytes k ≡ true → IsLoadedSegment bytes (segment_of bytes k)
    loaded_segment k h is = record {
      in_file = file_part k h is;
      has_memory = has_memory bytes k is;
      fits = fits_to bytes k (has_memory bytes k is)
          ((kept_at (Holds bytes) (e_phnum bytes) k (λ n. NamesNoInterpreter n ∷ HasFilePart n ∷ IsPlaced n ∷ []) h placed).1.1.0 is);
    }

    segments_apart : AllPairs ShareNoMemory (segments_of bytes)
    unfolding segments_of
    segments_apart =
        those_pairs ShareNoMemory (is_loadable bytes) (segment_of bytes) (e_phnum bytes)
        (λ j k h l is other.
        apart_means (p_vaddr bytes j) (p_memsz bytes j) (p_vaddr bytes k) (p_memsz bytes k) (has_memory bytes j is)
        (has_memory bytes k other) (apart_at bytes placed memory j k h l is other))

    range_loaded : (range : Range) → Contains ranges range → (s : Segment) × Contains (segments_of bytes) s × LoadsRange bytes s range
    unfolding segments_of
    range_loaded range c =
        let r = range_among ranges moved range c in
        let words = words_some bytes placed sections memory r.0 r.2 in
        let l = loaded_at bytes placed sections r.0 r.1 words.0 in
        let by = l.1 in
        let some = text_filled bytes r.0 words.0 in (
          segment_of bytes l.0,
          those_contain (is_loadable bytes) (segment_of bytes) (e_phnum bytes) l.0 by.exists by.loadable,
          subst (LoadsRange bytes (segment_of bytes l.0)) (sym r.3) (record {
            from = omega (arith, by.from, by.agrees);
            to = omega (arith, by.to, by.agrees, by.from, words.1);
            in_file = file_part l.0 by.exists by.loadable (omega (arith, by.from, by.to, some));
          }),
        )

    segment_fits : (s : Segment) → Contains (segments_of bytes) s → IsLoadedSegment bytes s
    segment_fits s c =
        let r = segment_among bytes placed memory (segments_of bytes) (IsPermutation-refl (segments_of bytes)) s c in
        subst (IsLoadedSegment bytes) (sym r.3) (loaded_segment r.0 r.1 r.2)

    pub well_formed_from :
        (symbols : List ℕ) → Holds bytes MemoryIsBounded → IsAscending ranges → IsTextWord (ranges_of bytes) (e_entry bytes)
        → IsWellFormed (record { bytes = bytes; entry = e_entry bytes; segments = segments_of bytes; ranges = ranges; symbols = symbols })
    well_formed_from symbols bounded ascending entry = record {
      ascending = ascending;
      aligned = λ range c. let r = range_among ranges moved range c in rw r.3 (omega arith);
      worded = λ range c. let r = range_among ranges moved range c in rw r.3 ((words_some bytes placed sections memory r.0 r.2).1);
      loaded = range_loaded;
      in_file = λ s c. (segment_fits s c).in_file;
      filled = λ s c. (segment_fits s c).fits.filled;
      has_memory = λ s c. (segment_fits s c).has_memory;
      below_top = λ s c. (segment_fits s c).fits.below_top;
      off_stack = λ s c. (segment_fits s c).fits.off_stack;
      apart = segments_apart;
      bounded = bounded;
      entry = (entry.0, text_permuted (ranges_of bytes) ranges (e_entry bytes) moved entry.1);
    }

    pub image_from :
        IsAscending ranges
        → IsImageOf bytes (record { bytes = bytes; entry = e_entry bytes; segments = segments_of bytes; ranges = ranges; symbols = symbols_of bytes })
    image_from ascending = record {
      same_bytes = refl;
      entry = refl;
      segments = refl;
      symbols = refl;
      same_ranges = moved;
      ascending = ascending;
    }
