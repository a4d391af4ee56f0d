-- A file with the headers and symbols of one that keeps the rules keeps them, and means the same.
use Rattle.std.proofs.Common.{◌≡◌, ℕ, ◌+◌, ◌<◌, ◌≤◌, List, [], ◌∷◌, ◌++◌, refl, sym, ◌∙◌, arith, lit≤, length, subst}
use Rattle.std.specs.Prelude.{IsTrue, ⊤}
use Rattle.std.specs.List.{AllByRecursion}
use Rattle.ci_reading.specs.Broken.{each_below}
use Rattle.ci_elf.specs.Fields.{e_phnum, e_shnum, is_loadable, is_symbol_table, is_text}
use Rattle.ci_elf.specs.Executables.{Executable, IsImageOf, ranges_of, segments_of}
use Rattle.ci_elf.specs.Rules.{Rule, HasFileHeader, HasMagic, FieldIs, HasNoCompressedCode, HasProgramEntrySize}
use Rattle.ci_elf.specs.Rules.{HasSectionEntrySize, HasProgramTable, HasSectionTable, NamesNoInterpreter, HasFilePart}
use Rattle.ci_elf.specs.Rules.{IsPlaced, MemoryIsApart, MemoryIsBounded, HasSymbols, TextIsLoaded, TextIsAlone}
use Rattle.ci_elf.specs.Rules.{TextIsUnshared, TextIsBounded, EntryIsText, Holds, IsLoadedBy, IsAlone, KeepsRules}
use Rattle.ci_elf.specs.Rules.{rules, segment_rules, memory_rules, section_rules, sharing_rules}
use Rattle.ci_elf.specs.TextChangeLaws.{TextMayChange}
use Rattle.ci_reading.proofs.BrokenLaws.{kept_append, kept_each}
use Rattle.ci_elf.proofs.ReadingLaws.{header_stage, last_stage}
use Rattle.ci_elf.proofs.SameFields.{each_same, field_same, take_same}
use Rattle.ci_elf.proofs.SameHeaders.{HaveSameHeaders, same_headers}

-- the rule is on headers that the file has
abbrev IsOf : List ℕ → Rule → Type 0
IsOf bytes (FieldIs width offset value) = offset + width ≤ 52
IsOf bytes (NamesNoInterpreter n) = n < e_phnum bytes
IsOf bytes (HasFilePart n) = n < e_phnum bytes
IsOf bytes (IsPlaced n) = n < e_phnum bytes
IsOf bytes (MemoryIsApart m n) = (m < n) × (n < e_phnum bytes)
IsOf bytes (HasSymbols n) = n < e_shnum bytes
IsOf bytes (TextIsLoaded n) = n < e_shnum bytes
IsOf bytes (TextIsAlone n) = n < e_shnum bytes
IsOf bytes (TextIsUnshared m n) = (m < n) × (n < e_phnum bytes)
IsOf bytes rule = ⊤

module _ (bytes : List ℕ) where
  abbrev AllOf : List Rule → Type 0
  AllOf = AllByRecursion (IsOf bytes)

  pairs_of : (rule : ℕ → ℕ → Rule) → ((m n : ℕ) → (m < n) × (n < e_phnum bytes) → IsOf bytes (rule m n))
      → AllOf (each_below (e_phnum bytes) (λ n. each_below n (λ m. rule m n ∷ [])))
  pairs_of rule of =
      kept_each (IsOf bytes) (e_phnum bytes) _ (λ n h. kept_each (IsOf bytes) n _ (λ m l. (of m n (l, h), tt)))

  all_of : AllOf (rules bytes)
  all_of =
      let segments = kept_each (IsOf bytes) (e_phnum bytes) _ (λ n h. (h, (h, (h, tt)))) in
      let sections = kept_each (IsOf bytes) (e_shnum bytes) _ (λ n h. (h, (h, (h, tt)))) in
      let sharing = kept_append (IsOf bytes) (sharing_rules bytes) last_stage (pairs_of TextIsUnshared (λ m n h. h)) (tt, (tt, tt)) in
      let texts = kept_append (IsOf bytes) (section_rules bytes) (sharing_rules bytes ++ last_stage) sections sharing in
      let memory = kept_append (IsOf bytes) (memory_rules bytes) (MemoryIsBounded ∷ section_rules bytes ++ (sharing_rules bytes ++ last_stage))
      (pairs_of MemoryIsApart (λ m n h. h)) (tt, texts) in
      kept_append (IsOf bytes) header_stage _
      (tt, (tt, (lit≤ tt, (lit≤ tt, (lit≤ tt, (lit≤ tt, (lit≤ tt, (lit≤ tt, (tt, (tt, (tt, (tt, (tt, tt)))))))))))))
      (kept_append (IsOf bytes) (segment_rules bytes) _ segments memory)

module _ (old new : List ℕ) (same : HaveSameHeaders new old) where
  -- ---- the image

  segments_are : segments_of new ≡ segments_of old
  unfolding segments_of
  segments_are =
      rw same.programs (each_same (e_phnum old) _ _ (λ k h.
      let s = same.program k h in
      rw (s.loadable, s.address, s.memory_size, s.offset, s.file_size) refl))

  ranges_are : ranges_of new ≡ ranges_of old
  unfolding ranges_of
  ranges_are =
      rw same.sections (each_same (e_shnum old) _ _ (λ k h.
      let s = same.section k h in
      rw (s.text, s.address, s.size) refl))

  pub same_image : (file : Executable) → IsImageOf old file → IsImageOf new (record file { bytes = new })
  same_image file is = record {
    same_bytes = refl;
    entry = is.entry ∙ sym same.entry;
    segments = is.segments ∙ sym segments_are;
    symbols = is.symbols ∙ sym same.symbols;
    same_ranges = rw ranges_are is.same_ranges;
    ascending = is.ascending;
  }

  -- ---- a rule

  loadable : (n : ℕ) → n < e_phnum old → IsTrue (is_loadable new n) → IsTrue (is_loadable old n)
  loadable n exists h = sym (same.program n exists).loadable ∙ h

  table : (n : ℕ) → n < e_shnum old → IsTrue (is_symbol_table new n) → IsTrue (is_symbol_table old n)
  table n exists h = sym (same.section n exists).table ∙ h

  text : (n : ℕ) → n < e_shnum old → IsTrue (is_text new n) → IsTrue (is_text old n)
  text n exists h = sym (same.section n exists).text ∙ h

  loaded : (n k : ℕ) → n < e_shnum old → IsLoadedBy old k n → IsLoadedBy new k n
  loaded n k exists l =
      let s = same.section n exists in
      let p = same.program k l.exists in
      record {
        exists = rw same.programs l.exists;
        loadable = p.loadable ∙ l.loadable;
        from = rw (p.offset, s.offset) l.from;
        to = rw (p.offset, p.file_size, s.offset, s.size) l.to;
        agrees = rw (p.offset, p.address, s.offset, s.address) l.agrees;
      }

  alone : (n : ℕ) → n < e_shnum old → IsAlone old n → IsAlone new n
  alone n exists a =
      let s = same.section n exists in
      record {
        file_header = rw (s.offset, s.size) a.file_header;
        program_table = rw (s.offset, s.size, same.program_table, same.programs) a.program_table;
        section_table = rw (s.offset, s.size, same.section_table, same.sections) a.section_table;
        symbols = λ k h is.
            let there : k < e_shnum old = omega (arith, same.sections) in
            let t = same.section k there in
            rw (s.offset, s.size, t.offset, t.size) (a.symbols k there (table k there is));
        texts = λ k h is.
            let there : k < e_shnum old = omega arith in
            let t = same.section k there in
            rw (s.offset, s.size, t.offset, t.size) (a.texts k h (text k there is));
      }

  -- each rule on headers that the file has is a property of fields that are the same
  carried : (rule : Rule) → 52 ≤ length old → IsOf old rule → Holds old rule → Holds new rule
  carried HasFileHeader long of h = rw same.long h
  carried HasMagic long of h =
      take_same 4 new old (omega (arith, same.long)) (omega arith) (λ i w. same.front i (w.0, omega (arith, w.1))) ∙ h
  carried (FieldIs width offset value) long of h = field_same new old 0 52 width offset same.front (omega arith) of ∙ h
  carried HasNoCompressedCode long of h = rw same.flags h
  carried HasProgramEntrySize long of h = rw (same.programs, same.program_size) h
  carried HasSectionEntrySize long of h = rw (same.sections, same.section_size) h
  carried HasProgramTable long of h = rw (same.program_table, same.programs, same.long) h
  carried HasSectionTable long of h = rw (same.section_table, same.sections, same.long) h
  carried (NamesNoInterpreter n) long of h = rw (same.program n of).kind h
  carried (HasFilePart n) long of h = λ loads.
      let s = same.program n of in
      rw (s.offset, s.file_size, same.long) (h (loadable n of loads))
  carried (IsPlaced n) long of h = λ loads.
      let s = same.program n of in
      let fits = h (loadable n of loads) in
      record {
        filled = rw (s.file_size, s.memory_size) fits.filled;
        below_top = rw (s.address, s.memory_size) fits.below_top;
        off_stack = rw (s.address, s.memory_size) fits.off_stack;
      }
  carried (MemoryIsApart m n) long (l, of) h = λ first second.
      let before : m < e_phnum old = omega arith in
      let s = same.program m before in
      let t = same.program n of in
      rw (s.address, s.memory_size, t.address, t.memory_size) (h (loadable m before first) (loadable n of second))
  carried MemoryIsBounded long of h = rw segments_are h
  carried (HasSymbols n) long of h = λ is.
      let s = same.section n of in
      let t = h (table n of is) in
      record {
        in_file = rw (s.offset, s.size, same.long) t.in_file;
        entry_size = s.entry_size ∙ t.entry_size;
        whole = rw s.size t.whole;
      }
  carried (TextIsLoaded n) long of h = λ is. let l = h (text n of is) in (l.0, loaded n l.0 of l.1)
  carried (TextIsAlone n) long of h = λ is. alone n of (h (text n of is))
  carried (TextIsUnshared m n) long (l, of) h = λ first second t below is x at one other.
      let before : m < e_phnum old = omega arith in
      let there : t < e_shnum old = omega (arith, same.sections) in
      let r = same.section t there in
      let s = same.program m before in
      let u = same.program n of in
      h (loadable m before first) (loadable n of second) t there (text t there is) x (rw (r.offset, r.size) at at)
      (rw (s.offset, s.file_size) at one) (rw (u.offset, u.file_size) at other)
  carried TextIsBounded long of h = rw ranges_are h
  carried EntryIsText long of h = rw (ranges_are, same.entry) h

  all_carried :
      (list : List Rule) → 52 ≤ length old → AllByRecursion (IsOf old) list → KeepsRules old list → KeepsRules new list
  all_carried [] long of kept = tt
  all_carried (rule ∷ list) long of kept = (carried rule long of.0 kept.0, all_carried list long of.1 kept.1)

  pub same_rules : KeepsRules old (rules old) → KeepsRules new (rules new)
  same_rules kept =
      let list : rules new ≡ rules old = rw (same.programs, same.sections) refl in
      subst (KeepsRules new) (sym list) (all_carried (rules old) kept.0 (all_of old) kept)

pub text_may_change : TextMayChange
text_may_change old new file read change =
    let same = same_headers old new file read.0 read.1 change in
    (same_rules old new same read.0, same_image old new same file read.1)
