-- A file with the headers of a frame keeps the rules.
use Rattle.std.proofs.Common.{◌≡◌, ℕ, ◌+◌, ◌*◌, ◌≤◌, nat_lt, Bool, true, false, cond, List, [], ◌∷◌, ◌++◌, length, refl, arith, lit<}
use Rattle.std.specs.List.{sum_by}
use Rattle.ci_elf.specs.declared.segments.Segment.{Segment}
use Rattle.ci_elf.specs.declared.ranges.Range.{Range}
use Rattle.ci_elf.specs.Fields.{e_phnum, e_shnum, is_symbol_table, is_text}
use Rattle.ci_reading.specs.Broken.{each_below}
use Rattle.ci_elf.specs.MemoryMap.{stack_start}
use Rattle.ci_elf.specs.Rules.{Rule, NamesNoInterpreter, HasFilePart, IsPlaced, MemoryIsApart, MemoryIsBounded}
use Rattle.ci_elf.specs.Rules.{HasSymbols, TextIsLoaded, TextIsAlone, TextIsUnshared, TextIsBounded, EntryIsText, Holds}
use Rattle.ci_elf.specs.Rules.{KeepsRules, rules, file_header_rules, kind_rules, table_rules, segment_rules}
use Rattle.ci_elf.specs.Rules.{memory_rules, section_rules, sharing_rules}
use Rattle.ci_elf.proofs.RangeLaws.{text_from}
use Rattle.ci_reading.proofs.BrokenLaws.{kept_each}
use Rattle.ci_elf.proofs.CheckLaws.{keeps_append}
use Rattle.ci_elf.proofs.ReadingLaws.{kept_stages}
use Rattle.ci_elf.proofs.FrameHeaderLaws.{IsLoad, HasFrameHeaders}
use Rattle.ci_elf.proofs.FrameMeaningLaws.{below_two, below_four, loaded, text_is_loadable, segments_are, no_symbols}
use Rattle.ci_elf.proofs.FrameMeaningLaws.{empty_is_no_text, constants_are_no_text, values_are_no_text, only_text}
use Rattle.ci_elf.proofs.FrameMeaningLaws.{ranges_are}

abbrev segment_list : ℕ → List Rule
segment_list n = NamesNoInterpreter n ∷ HasFilePart n ∷ IsPlaced n ∷ []

abbrev section_list : ℕ → List Rule
section_list n = HasSymbols n ∷ TextIsLoaded n ∷ TextIsAlone n ∷ []

module _ (bytes : List ℕ) (t c v : ℕ) (h : HasFrameHeaders bytes t c v) where
  -- ---- tables and segments

  tables_kept : KeepsRules bytes table_rules
  tables_kept = (
    λ _. rw (h.program_table, h.programs) (omega (arith, h.long)),
    (λ _. rw (h.section_table, h.sections) (omega (arith, h.long)), tt),
  )

  load_kept :
      (n from to long : ℕ) → IsLoad bytes n from to long → from + long ≤ length bytes → to + long ≤ stack_start
      → KeepsRules bytes (segment_list n)
  load_kept n from to long load in_file below = (
    λ names. absurd (omega (arith, load.kind, names)),
    (
      λ _ _. rw (load.offset, load.file_size) in_file,
      (
        λ _. record {
          filled = omega (arith, load.file_size, load.memory_size);
          below_top = omega (arith, load.address, load.memory_size);
          off_stack = λ x at there. omega (arith, load.address, load.memory_size, at.1, there.0);
        },
        tt,
      ),
    ),
  )

  segments_kept : KeepsRules bytes (segment_rules bytes)
  segments_kept = kept_each (Holds bytes) (e_phnum bytes) segment_list (λ k below.
      below_two (λ n. KeepsRules bytes (segment_list n))
      (load_kept 0 0 0x10000 (116 + 4 * t + 4 * c) h.text_segment (omega (arith, h.long)) (omega arith))
      (load_kept 1 (116 + 4 * t + 4 * c) 0x20000 (4 * v) h.values_segment (omega (arith, h.long)) (omega arith))
      k (rw h.programs at below))

  -- a rule on pairs of segments, of which there is one
  module _ (rule : ℕ → ℕ → Rule) (holds : Holds bytes (rule 0 1)) where
    abbrev pair_list : ℕ → List Rule
    pair_list n = each_below n (λ m. rule m n ∷ [])

    pair_kept : KeepsRules bytes (each_below (e_phnum bytes) pair_list)
    pair_kept = kept_each (Holds bytes) (e_phnum bytes) pair_list (λ k below.
        below_two (λ n. KeepsRules bytes (pair_list n))
        (kept_each (Holds bytes) 0 (λ m. rule m 0 ∷ []) (λ m none. absurd (omega arith)))
        (kept_each (Holds bytes) 1 (λ m. rule m 1 ∷ []) (λ m one.
        let first : m ≡ 0 = omega arith in
        rw first (holds, tt)))
        k (rw h.programs at below))

  memory_kept : KeepsRules bytes (memory_rules bytes)
  memory_kept = pair_kept MemoryIsApart (λ _ _ x at there.
      omega (arith, h.text_segment.address, h.text_segment.memory_size, h.values_segment.address, at.1, there.0))

  -- ---- sections

  not_text_kept :
      (n : ℕ) → is_symbol_table bytes n ≡ false → is_text bytes n ≡ false → KeepsRules bytes (section_list n)
  not_text_kept n no_table no_text = (λ is. absurd (cc), (λ is. absurd (cc), (λ is. absurd (cc), tt)))

  text_loaded : Holds bytes (TextIsLoaded 1)
  text_loaded _ = (
    0,
    record {
      exists = omega (arith, h.programs);
      loadable = text_is_loadable bytes t c v h;
      from = omega (arith, h.text_segment.offset);
      to = omega (arith, h.text_segment.offset, h.text_segment.file_size, h.text.offset, h.text.size);
      agrees = omega (arith, h.text_segment.offset, h.text_segment.address, h.text.offset, h.text.address);
    },
  )

  text_alone : Holds bytes (TextIsAlone 1)
  text_alone _ = record {
    file_header = λ x at there. omega (arith, h.text.offset, at.0, there.1);
    program_table = λ x at there. omega (arith, h.text.offset, h.program_table, h.programs, at.0, there.1);
    section_table = λ x at there. omega (arith, h.text.offset, h.text.size, h.section_table, at.1, there.0);
    symbols = λ k below is. absurd (cc (no_symbols bytes t c v h k (rw h.sections at below)));
    texts = λ k below is x. absurd (omega (arith, only_text bytes t c v h k (omega arith) is));
  }

  sections_kept : KeepsRules bytes (section_rules bytes)
  sections_kept =
      let no_table = no_symbols bytes t c v h in
      kept_each (Holds bytes) (e_shnum bytes) section_list (λ k below.
      below_four (λ n. KeepsRules bytes (section_list n))
      (not_text_kept 0 (no_table 0 (lit< tt)) (empty_is_no_text bytes t c v h))
      (λ is. absurd (cc (no_table 1 (lit< tt))), (text_loaded, (text_alone, tt)))
      (not_text_kept 2 (no_table 2 (lit< tt)) (constants_are_no_text bytes t c v h))
      (not_text_kept 3 (no_table 3 (lit< tt)) (values_are_no_text bytes t c v h))
      k (rw h.sections at below))

  sharing_kept : KeepsRules bytes (sharing_rules bytes)
  sharing_kept = pair_kept TextIsUnshared (λ _ _ n below is x at first second.
      let one = only_text bytes t c v h n (rw h.sections at below) is in
      let text = rw one at at in
      omega (arith, h.text.offset, h.text.size, h.values_segment.offset, text.1, second.0))

  -- ---- sizes and the entry

  either_sum :
      (b : Bool) (first second : Segment)
      → sum_by (λ segment. segment.memory_size) (first ∷ cond b (second ∷ []) [])
      ≤ first.memory_size + second.memory_size
  either_sum true first second = omega arith
  either_sum false first second = omega arith

  memory_bounded : Holds bytes MemoryIsBounded
  memory_bounded =
      let text = loaded 0 0x10000 (116 + 4 * t + 4 * c) in
      let values = loaded (116 + 4 * t + 4 * c) 0x20000 (4 * v) in
      rw (segments_are bytes t c v h) (omega (arith, either_sum (nat_lt 0 v) text values, h.text_fits, h.values_fit))

  text_bounded : Holds bytes TextIsBounded
  text_bounded = rw (ranges_are bytes t c v h) (omega (arith, h.text_fits))

  entry_is_text : Holds bytes EntryIsText
  entry_is_text =
      let range : Range = record { start = 0x10074; words = t } in
      rw (ranges_are bytes t c v h, h.entry)
      (refl, text_from (range ∷ []) 0x10074 (0, range, lit< tt, refl, (omega arith, omega (arith, h.some_text))))

  -- the rules behind those of the file header and of the kind of file
  pub rules_kept : KeepsRules bytes (file_header_rules ++ kind_rules) → KeepsRules bytes (rules bytes)
  rules_kept kind =
      kept_stages bytes (keeps_append bytes (file_header_rules ++ kind_rules) table_rules kind tables_kept)
      (keeps_append bytes (segment_rules bytes) (memory_rules bytes ++ MemoryIsBounded ∷ []) segments_kept
      (keeps_append bytes (memory_rules bytes) (MemoryIsBounded ∷ []) memory_kept (memory_bounded, tt)))
      (keeps_append bytes (section_rules bytes) (sharing_rules bytes) sections_kept sharing_kept)
      (text_bounded, (entry_is_text, tt))
