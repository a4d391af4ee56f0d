-- That a text section is loaded, and meets nothing else.
use Rattle.std.proofs.Common.{◌≡◌, ℕ, suc, zero, ◌+◌, ◌-◌, ◌*◌, ◌^◌, ◌<◌, ◌≤◌, inl, inr, true, ◌&&◌, nat_eq, nat_lt, List, [], ◌∷◌, sym, ◌∙◌, ap, subst, arith}
use Rattle.std.specs.Prelude.{IsTrue, bit_and}
use borrow.Author.Tests.{ltb-true}
use Rattle.std.specs.List.{Contains}
use Rattle.std.specs.List.Sorted.{IsPermutation}
use Rattle.std.proofs.lemmas.Bool.{cases_lt}
use Rattle.std.proofs.lemmas.List.Sorted.{Contains-permutation, IsPermutation-sym}
use Rattle.std.proofs.lemmas.List.{get_or-append-add}
use Rattle.ci_elf.specs.declared.segments.Segment.{Segment}
use Rattle.ci_elf.specs.declared.sections.Section.{Section}
use Rattle.ci_elf.specs.declared.parts.Part.{Part}
use Rattle.ci_elf.specs.Fields.{e_phoff, e_phnum, e_shoff, e_shnum, is_loadable, is_text, is_symbol_table, p_vaddr}
use Rattle.ci_elf.specs.Fields.{p_memsz, p_filesz, sh_offset, sh_size, sh_type, sh_flags}
use Rattle.ci_elf.specs.Executables.{segment_of, segments_of}
use Rattle.ci_reading.specs.Broken.{each_below}
use Rattle.ci_elf.specs.Rules.{NamesNoInterpreter, HasFilePart, IsPlaced, MemoryIsApart, Holds, IsLoadedBy, IsAlone, KeepsRules, segment_rules, memory_rules}
use Rattle.ci_elf.specs.private.Checks.{IsLastBefore}
use Rattle.ci_elf.specs.private.Parts.{Covers, IsCoverage, IsNext, IsFirstMeeting, part, part_at, parts_below, text_of, symbols_at, tables_of}
use Rattle.ci_elf.specs.private.SectionChecks.{HoldsSection, AreLaidOut, section_of}
use Rattle.ci_reading.proofs.BrokenLaws.{kept_at, contained_those, those_contain, singles_at, length_singles}
use Rattle.ci_elf.proofs.SegmentLaws.{has_memory, both}
use Rattle.ci_elf.proofs.CoverageLaws.{covers_within}
use Rattle.ci_elf.proofs.MemoryLaws.{overlap_breaks, chosen_part, overlap_chosen, overlap_symmetric, place_chosen}

-- ---- segments

module _ (bytes : List ℕ) (placed : KeepsRules bytes (segment_rules bytes)) (memory : KeepsRules bytes (memory_rules bytes)) where
  placed_at : (k : ℕ) → k < e_phnum bytes → IsTrue (is_loadable bytes k) → p_filesz bytes k ≤ p_memsz bytes k
  placed_at k h is =
      let rules = kept_at (Holds bytes) (e_phnum bytes) k (λ n. NamesNoInterpreter n ∷ HasFilePart n ∷ IsPlaced n ∷ []) h placed in
      (rules.1.1.0 is).filled

  pub apart_at : (j k : ℕ) → j < k → k < e_phnum bytes → Holds bytes (MemoryIsApart j k)
  apart_at j k h l =
      (kept_at (Holds bytes) k j (λ m. MemoryIsApart m k ∷ []) h
      (kept_at (Holds bytes) (e_phnum bytes) k (λ n. each_below n (λ m. MemoryIsApart m n ∷ [])) l memory)).0

  one_at :
      (j k : ℕ) → j < e_phnum bytes → k < e_phnum bytes → IsTrue (is_loadable bytes j) → IsTrue (is_loadable bytes k)
      → p_vaddr bytes j ≤ p_vaddr bytes k → p_vaddr bytes k < p_vaddr bytes j + p_memsz bytes j → j ≡ k
  one_at j k h l a b from to =
      let some = has_memory bytes k b in
      elim (cases_lt j k) [
        | inl m ↦ absurd (apart_at j k m l a b (p_vaddr bytes k) (from, to) (omega arith, omega arith))
        | inr m ↦ elim (cases_lt k j) [
          | inl n ↦ absurd (apart_at k j n h b a (p_vaddr bytes k) (omega arith, omega arith) (from, to))
          | inr n ↦ omega arith
        ]
      ]

  module _ (sorted : List Segment) (moved : IsPermutation (segments_of bytes) sorted) where
    pub segment_among : (s : Segment) → Contains sorted s → (k : ℕ) × (k < e_phnum bytes) × (is_loadable bytes k ≡ true) × (s ≡ segment_of bytes k)
    unfolding segments_of
    segment_among s c =
        contained_those (is_loadable bytes) (segment_of bytes) (e_phnum bytes) s
        (Contains-permutation sorted (segments_of bytes) s (IsPermutation-sym (segments_of bytes) sorted moved) c)

    pub among_sorted : (k : ℕ) → k < e_phnum bytes → is_loadable bytes k ≡ true → Contains sorted (segment_of bytes k)
    unfolding segments_of
    among_sorted k h is =
        Contains-permutation (segments_of bytes) sorted (segment_of bytes k) moved
        (those_contain (is_loadable bytes) (segment_of bytes) (e_phnum bytes) k h is)

    pub laid_out : AreLaidOut sorted
    laid_out = record {
      filled = λ s c. let r = segment_among s c in rw r.3 (placed_at r.0 r.1 r.2);
      one = λ s t c e from to.
          let r = segment_among s c in
          let q = segment_among t e in
          let same : r.0 ≡ q.0 = one_at r.0 q.0 r.1 q.1 r.2 q.2 (rw (r.3, q.3) at from) (rw (r.3, q.3) at to) in
          r.3 ∙ ap (segment_of bytes) same ∙ sym q.3;
    }

    pub loaded_from : (n : ℕ) → (s : Segment) × Contains sorted s × HoldsSection s (section_of bytes n) → (k : ℕ) × IsLoadedBy bytes k n
    loaded_from n h =
        let r = segment_among h.0 h.1 in
        let holds : HoldsSection (segment_of bytes r.0) (section_of bytes n) = subst (λ s. HoldsSection s (section_of bytes n)) r.3 h.2 in
        (r.0, record { exists = r.1; loadable = r.2; from = holds.from; to = holds.to; agrees = holds.agrees })

    pub loaded_to : (n : ℕ) → (k : ℕ) × IsLoadedBy bytes k n → (s : Segment) × Contains sorted s × HoldsSection s (section_of bytes n)
    loaded_to n h =
        (segment_of bytes h.0, among_sorted h.0 h.1.exists h.1.loadable, record { from = h.1.from; to = h.1.to; agrees = h.1.agrees })

-- the only segment that can hold a section is the last one before its address
pub holder : (segments : List Segment) (text : Section) (candidate : Segment) → AreLaidOut segments → IsLastBefore segments text.address candidate
    → 0 < text.size → (h : (s : Segment) × Contains segments s × HoldsSection s text) → h.0 ≡ candidate
holder segments text candidate layout last some h =
    let holds = h.2 in
    let begins : h.0.address ≤ text.address = omega (arith, holds.from, holds.agrees) in
    let full : h.0.file_size ≤ h.0.memory_size = layout.filled h.0 h.1 in
    let behind : h.0.address ≤ candidate.address = last.last h.0 h.1 begins in
    layout.one h.0 candidate h.1 last.among behind (omega (arith, holds.from, holds.to, holds.agrees, last.before))

pub no_holder : (segments : List Segment) (text : Section) → ((s : Segment) → Contains segments s → text.address < s.address)
    → 0 < text.size → ¬ ((s : Segment) × Contains segments s × HoldsSection s text)
no_holder segments text none some h =
    let holds = h.2 in
    omega (arith, holds.from, holds.agrees, none h.0 h.1)

-- ---- texts that are alone

module _ (bytes : List ℕ) where
  pub text_filled : (n : ℕ) → is_text bytes n ≡ true → 0 < sh_size bytes n
  unfolding is_text
  text_filled n is =
      ltb-true 0 (sh_size bytes n)
      (both (nat_eq (bit_and (sh_flags bytes n) 6) 6) (nat_lt 0 (sh_size bytes n))
      (both (nat_eq (sh_type bytes n) 1) (nat_eq (bit_and (sh_flags bytes n) 6) 6 && nat_lt 0 (sh_size bytes n)) is))

  text_is : (n : ℕ) → is_text bytes n ≡ true → text_of bytes n ≡ part (sh_offset bytes n) (sh_size bytes n)
  text_is n is = chosen_part (is_text bytes n) (part (sh_offset bytes n) (sh_size bytes n)) is

  symbols_are : (k : ℕ) → is_symbol_table bytes k ≡ true → symbols_at bytes k ≡ part (sh_offset bytes k) (sh_size bytes k)
  symbols_are k is = chosen_part (is_symbol_table bytes k) (part (sh_offset bytes k) (sh_size bytes k)) is

  symbols_part : (k : ℕ) → k < e_shnum bytes → part_at (tables_of bytes) (3 + k) ≡ symbols_at bytes k
  symbols_part k h =
      get_or-append-add (part 0 52 ∷ part (e_phoff bytes) (32 * e_phnum bytes) ∷ part (e_shoff bytes) (40 * e_shnum bytes) ∷ [])
      (parts_below (e_shnum bytes) (symbols_at bytes)) k (record { start = 0; end = 0 })
      ∙ singles_at (symbols_at bytes) (e_shnum bytes) k (record { start = 0; end = 0 }) h

  module _ (n : ℕ) (is : is_text bytes n ≡ true) where
    -- a part that has a place of an alone text is none of the tables
    covered_breaks : (x : ℕ) → sh_offset bytes n ≤ x → x < sh_offset bytes n + sh_size bytes n → Covers (tables_of bytes) x → ¬ IsAlone bytes n
    covered_breaks x from to c alone = met c.0 c.1 c.2
      where
        met : (i : ℕ) → (part_at (tables_of bytes) i).start ≤ x → x < (part_at (tables_of bytes) i).end → ⊥
        met zero a b = alone.file_header x (from, to) (a, b)
        met (suc zero) a b = alone.program_table x (from, to) (a, b)
        met (suc (suc zero)) a b = alone.section_table x (from, to) (a, b)
        met (suc (suc (suc k))) a b =
            let within = covers_within (tables_of bytes) (suc (suc (suc k))) x b in
            let exists : k < e_shnum bytes = omega (arith, within, length_singles (symbols_at bytes) (e_shnum bytes)) in
            let here = singles_at (symbols_at bytes) (e_shnum bytes) k (record { start = 0; end = 0 }) exists in
            let table = place_chosen (is_symbol_table bytes k) (part (sh_offset bytes k) (sh_size bytes k)) x (rw here at b) in
            alone.symbols k exists table x (from, to) (rw (here, symbols_are k table) at a, rw (here, symbols_are k table) at b)

    pub alone_from :
        (coverage : List Part) (next m : ℕ) → n < e_shnum bytes → IsCoverage (tables_of bytes) coverage → IsNext coverage (sh_offset bytes n) next
        → sh_offset bytes n + sh_size bytes n ≤ next → IsFirstMeeting bytes m → n < m → IsAlone bytes n
    alone_from coverage next m exists covers is_next behind meeting before = record {
      file_header = λ x at there. free x at (0, there.0, there.1);
      program_table = λ x at there. free x at (1, there.0, there.1);
      section_table = λ x at there. free x at (2, there.0, there.1);
      symbols = λ k h table x at there.
          free x at (3 + k, rw (symbols_part k h, symbols_are k table) there.0, rw (symbols_part k h, symbols_are k table) there.1);
      texts = λ k h text x at there.
          let known = rw (text_is k text, text_is n is) at (meeting.apart k n h before) in
          omega (arith, known, at.0, at.1, there.0, there.1);
    }
      where
        free : (x : ℕ) → (sh_offset bytes n ≤ x) × (x < sh_offset bytes n + sh_size bytes n) → ¬ Covers (tables_of bytes) x
        free x at c = is_next.first x at.0 (omega (arith, at.1)) (covers.covered x c)

    pub table_met :
        (coverage : List Part) (next : ℕ) → IsCoverage (tables_of bytes) coverage → IsNext coverage (sh_offset bytes n) next
        → next < sh_offset bytes n + sh_size bytes n → next < 2 ^ 64 - 1 → ¬ IsAlone bytes n
    table_met coverage next covers is_next before small alone =
        covered_breaks next is_next.behind before (covers.covers next (is_next.covered small)) alone

  -- the first text that meets an earlier one isn't alone
  pub text_met : (n : ℕ) → n < e_shnum bytes → IsFirstMeeting bytes n → (is_text bytes n ≡ true) × (¬ IsAlone bytes n)
  text_met n h meeting =
      let met = meeting.meets h in
      let first = overlap_chosen (is_text bytes met.0) (part (sh_offset bytes met.0) (sh_size bytes met.0)) (text_of bytes n) met.2 in
      let second = overlap_chosen (is_text bytes n) (part (sh_offset bytes n) (sh_size bytes n)) (text_of bytes met.0)
      (overlap_symmetric (text_of bytes met.0) (text_of bytes n) met.2) in
      let known = rw (text_is met.0 first, text_is n second) at met.2 in (
        second,
        λ alone. overlap_breaks (sh_offset bytes n) (sh_size bytes n) (sh_offset bytes met.0) (sh_size bytes met.0) (omega (arith, known))
            (alone.texts met.0 met.1 first),
      )
