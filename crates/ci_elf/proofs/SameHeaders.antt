-- The headers and symbols of a file stay where its text alone is changed.
use Rattle.std.proofs.Common.{lit≤, add-zero, ◌==◌, ◌&&◌, nat_lt, bit_and, ◌≡◌, ℕ, zero, suc, ◌+◌, ◌*◌, ◌<◌, ◌≤◌, ◌||◌, inl, inr, true}
use Rattle.std.proofs.Common.{cond, List, [], length, get_or, refl, ◌∙◌, ap, arith}
use Rattle.std.proofs.lemmas.Bool.{cases_Bool}
use Rattle.ci_elf.specs.Fields.{field, e_entry, e_phoff, e_shoff, e_flags, e_phentsize, e_phnum, e_shentsize, e_shnum}
use Rattle.ci_elf.specs.Fields.{program_header, p_type, p_offset, p_vaddr, p_filesz, p_memsz, is_loadable}
use Rattle.ci_elf.specs.Fields.{section_header, sh_type, sh_flags, sh_addr, sh_offset, sh_size, sh_entsize}
use Rattle.ci_elf.specs.Fields.{is_symbol_table, is_text, st_value}
use Rattle.ci_elf.specs.Executables.{Executable, IsImageOf, has_entry, has_entry_below, symbol_count, symbols_in, symbols_of}
use Rattle.ci_elf.specs.Rules.{KeepsRules, IsApartFrom, IsAlone, rules}
use Rattle.ci_elf.specs.TextChanges.{ChangeText}
use Rattle.ci_elf.proofs.SameFields.{AgreeIn, field_same, each_same}
use Rattle.ci_elf.proofs.TextPlaceLaws.{alone_at, text_place}

-- program header n says the same
pub record HaveSameProgram (new old : List ℕ) (n : ℕ) : Type 0 where
  pub kind : p_type new n ≡ p_type old n
  pub offset : p_offset new n ≡ p_offset old n
  pub address : p_vaddr new n ≡ p_vaddr old n
  pub file_size : p_filesz new n ≡ p_filesz old n
  pub memory_size : p_memsz new n ≡ p_memsz old n
  pub loadable : is_loadable new n ≡ is_loadable old n

-- section header n says the same
pub record HaveSameSection (new old : List ℕ) (n : ℕ) : Type 0 where
  pub address : sh_addr new n ≡ sh_addr old n
  pub offset : sh_offset new n ≡ sh_offset old n
  pub size : sh_size new n ≡ sh_size old n
  pub entry_size : sh_entsize new n ≡ sh_entsize old n
  pub table : is_symbol_table new n ≡ is_symbol_table old n
  pub text : is_text new n ≡ is_text old n

-- both files have one length, the same headers, and the same symbols
pub record HaveSameHeaders (new old : List ℕ) : Type 0 where
  pub long : length new ≡ length old
  pub front : AgreeIn new old 0 52
  pub entry : e_entry new ≡ e_entry old
  pub flags : e_flags new ≡ e_flags old
  pub program_table : e_phoff new ≡ e_phoff old
  pub program_size : e_phentsize new ≡ e_phentsize old
  pub programs : e_phnum new ≡ e_phnum old
  pub section_table : e_shoff new ≡ e_shoff old
  pub section_size : e_shentsize new ≡ e_shentsize old
  pub sections : e_shnum new ≡ e_shnum old
  pub program : (n : ℕ) → n < e_phnum old → HaveSameProgram new old n
  pub section : (n : ℕ) → n < e_shnum old → HaveSameSection new old n
  pub symbols : symbols_of new ≡ symbols_of old

module _ (old new : List ℕ) (file : Executable) (kept : KeepsRules old (rules old)) (is : IsImageOf old file) (change : ChangeText file new) where
  -- a part that no text section meets
  agree :
      (start size : ℕ) → ((n : ℕ) → n < e_shnum old → IsAlone old n → IsApartFrom old n start size)
      → AgreeIn new old start size
  agree start size apart i within =
      change.same_else i (λ text.
      let t = text_place old kept file is i text in
      apart t.0 t.1 (alone_at old kept t.0 t.1 t.2) i t.3 within)
      ∙ ap (λ bytes. get_or bytes i 0) is.same_bytes

  header_agrees : AgreeIn new old 0 52
  header_agrees = agree 0 52 (λ n h alone. alone.file_header)

  in_header : (width offset : ℕ) → offset + width ≤ 52 → field width offset new ≡ field width offset old
  in_header width offset within = field_same new old 0 52 width offset header_agrees (omega arith) within

  programs_begin : e_phoff new ≡ e_phoff old
  unfolding e_phoff
  programs_begin = in_header 4 28 (lit≤ tt)

  sections_begin : e_shoff new ≡ e_shoff old
  unfolding e_shoff
  sections_begin = in_header 4 32 (lit≤ tt)

  section_count : e_shnum new ≡ e_shnum old
  unfolding e_shnum
  section_count = in_header 2 48 (lit≤ tt)

  -- ---- a program header

  module _ (n : ℕ) (exists : n < e_phnum old) where
    in_program : (d : ℕ) → d + 4 ≤ 32 → field 4 (program_header new n + d) new ≡ field 4 (program_header old n + d) old
    in_program d within =
        rw programs_begin (field_same new old (e_phoff old) (32 * e_phnum old) 4 (program_header old n + d)
        (agree (e_phoff old) (32 * e_phnum old) (λ n h alone. alone.program_table)) (omega arith) (omega arith))

    same_program : HaveSameProgram new old n
    unfolding p_type p_offset p_vaddr p_filesz p_memsz is_loadable
    same_program =
        let kind : p_type new n ≡ p_type old n = simp add-zero at (in_program 0 (lit≤ tt)) in
        let memory_size = in_program 20 (lit≤ tt) in
        record {
          kind = kind;
          offset = in_program 4 (lit≤ tt);
          address = in_program 8 (lit≤ tt);
          file_size = in_program 16 (lit≤ tt);
          memory_size = memory_size;
          loadable = λ i. (kind i == 1) && nat_lt 0 (memory_size i);
        }

  -- ---- a section header, and symbols

  module _ (n : ℕ) (exists : n < e_shnum old) where
    in_section : (d : ℕ) → d + 4 ≤ 40 → field 4 (section_header new n + d) new ≡ field 4 (section_header old n + d) old
    in_section d within =
        rw sections_begin (field_same new old (e_shoff old) (40 * e_shnum old) 4 (section_header old n + d)
        (agree (e_shoff old) (40 * e_shnum old) (λ n h alone. alone.section_table)) (omega arith) (omega arith))

    same_section : HaveSameSection new old n
    unfolding sh_type sh_flags sh_addr sh_offset sh_size sh_entsize is_symbol_table is_text
    same_section =
        let kind = in_section 4 (lit≤ tt) in
        let flags = in_section 8 (lit≤ tt) in
        let size = in_section 20 (lit≤ tt) in
        record {
          address = in_section 12 (lit≤ tt);
          offset = in_section 16 (lit≤ tt);
          size = size;
          entry_size = in_section 36 (lit≤ tt);
          table = λ i. kind i == 2;
          text = λ i. (kind i == 1) && ((bit_and (flags i) 6 == 6) && nat_lt 0 (size i));
        }

    value_same : is_symbol_table old n ≡ true → (k : ℕ) → k < symbol_count old n → st_value new n k ≡ st_value old n k
    unfolding st_value
    value_same table k below =
        rw same_section.offset (field_same new old (sh_offset old n) (sh_size old n) 4 (sh_offset old n + 16 * k + 4)
        (agree (sh_offset old n) (sh_size old n) (λ m _ alone. alone.symbols n exists table)) (omega arith) (omega arith))

    entry_same : (place : ℕ) → has_entry new n place ≡ has_entry old n place
    unfolding has_entry
    entry_same place = rw (same_section.table, same_section.offset, same_section.size) refl

  entries_same : (n : ℕ) → n ≤ e_shnum old → (place : ℕ) → has_entry_below new n place ≡ has_entry_below old n place
  unfolding has_entry_below
  entries_same zero h place = refl
  entries_same (suc n) h place = λ i. entry_same n (omega arith) place i || entries_same n (omega arith) place i

  values_same : (n : ℕ) → n < e_shnum old → cond (is_symbol_table new n) (symbols_in new n) [] ≡ cond (is_symbol_table old n) (symbols_in old n) []
  values_same n h =
      let section = same_section n h in
      rw (section.table, section.size) (elim (cases_Bool (is_symbol_table old n)) [
        | inl is ↦ rw is (each_same (symbol_count old n) _ _ (λ k below.
            rw (section.offset, entries_same n (omega arith) (sh_offset old n + 16 * k), value_same n h is k below) refl))
        | inr is ↦ rw is refl
      ])

  pub same_headers : HaveSameHeaders new old
  unfolding e_entry e_flags e_phentsize e_phnum e_shentsize symbols_of
  same_headers = record {
    long = change.same_length ∙ ap length is.same_bytes;
    front = header_agrees;
    entry = in_header 4 24 (lit≤ tt);
    flags = in_header 4 36 (lit≤ tt);
    program_table = programs_begin;
    program_size = in_header 2 42 (lit≤ tt);
    programs = in_header 2 44 (lit≤ tt);
    section_table = sections_begin;
    section_size = in_header 2 46 (lit≤ tt);
    sections = section_count;
    program = same_program;
    section = same_section;
    symbols = rw section_count (each_same (e_shnum old) _ _ values_same);
  }
