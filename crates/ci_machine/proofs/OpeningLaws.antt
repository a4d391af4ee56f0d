-- The text in the memory in which a run opens.
use Rattle.std.proofs.Common.{◌≡◌, ℕ, zero, suc, ◌+◌, ◌-◌, ◌*◌, ◌%◌, ◌^◌, ◌<◌, ◌≤◌, inl, inr, refl, ap, sym, subst, ◌∙◌}
use Rattle.std.proofs.Common.{arith, List, [], ◌∷◌, map, Some, None, is_some}
use Rattle.std.specs.Prelude.{Bool, true, false, ◌==◌, ◌&&◌, max, if◌then◌else◌, IsTrue, slice_index, slice_index_or}
use Rattle.std.specs.List.{list_all, Contains}
use Rattle.std.specs.Option.{option_map}
use Rattle.std.proofs.lemmas.Bool.{cases_lt, lt-ltb}
use Rattle.std.proofs.lemmas.Bool.Decides.{nat_tests}
use Rattle.ci_elf.specs.declared.segments.Segment.{Segment}
use Rattle.ci_elf.specs.Fields.{field}
use Rattle.ci_elf.specs.Executables.{Executable, InText, IsTextWord, IsWellFormed, has_in_file, place_of, end_of, text_word}
use Rattle.ci_elf.proofs.ImageLaws.{contained_later, loaded_from, loaded_to, loads_between, contains_tail, place_found, layout_of}
use Rattle.ci_machine.specs.Accesses.{addresses, bytes_at, number_of_bytes}
use Rattle.ci_machine.specs.ByteLists.{bytes_from}
use Rattle.ci_machine.specs.Programs.{extent_of, maximum_end, heap_start, in_text, lies_in, loaded_byte, loaded_memory, loaded_program, opening}
use Rattle.ci_machine.specs.Steps.{Meaning, word_at, insn_in, following}
use Rattle.ci_isa.specs.declared.instruction.Insn.{Insn}
use Rattle.ci_machine.specs.Runs.{after}
use Rattle.ci_machine.specs.Touches.{LeavesTextFor}
use Rattle.ci_machine.specs.Blocks.{StandAt}
use Rattle.ci_machine.specs.Texts.{HasText, IsFileInsn, AreFileInsns}
use Rattle.ci_machine.proofs.TestLaws.{by_test}
use Rattle.ci_machine.proofs.TestLaws.{lies_in-bounds, bounds-lies_in}
use Rattle.ci_machine.proofs.AccessLaws.{bytes_at_row}
use Rattle.ci_machine.proofs.BlockSteps.{same_insn}
use Rattle.ci_machine.proofs.TextLaws.{text_stays_for}
use Rattle.ci_machine.proofs.WordLaws.{text_top}
use Rattle.ci_machine.proofs.TextRanges.{text_within, holder}

-- ---- bytes of text

module _ (bytes : List ℕ) (address : ℕ) (t : Segment) (loads : IsTrue (has_in_file t address)) where
  abbrev within : Segment → Bool
  within u = lies_in u.address (u.address + u.memory_size) address

  loaded_there : loaded_byte bytes t (address - t.address) ≡ slice_index bytes (t.offset + (address - t.address))
  loaded_there =
      let low = loaded_from t address loads in
      let high = loaded_to t address loads in
      ap (λ b. if b then slice_index bytes (t.offset + (address - t.address)) else 0) (lt-ltb (address - t.address) t.file_size (omega arith))

  loaded_by : (segments : List Segment) → within t ≡ true → ((u : Segment) → Contains segments u → within u ≡ true → u ≡ t) → Contains segments t
      → loaded_memory bytes segments address ≡ Some (slice_index bytes (t.offset + (address - t.address)))
  loaded_by [] inside only c = absurd (omega (arith, c.1))
  loaded_by (u ∷ us) inside only c =
      by_test (within u)
      (λ is. ap (λ b. if b then Some (loaded_byte bytes u (address - u.address)) else loaded_memory bytes us address) is
      ∙ ap (λ s. Some (loaded_byte bytes s (address - s.address))) (only u (0, omega arith, refl) is) ∙ ap Some loaded_there)
      (λ none. ap (λ b. if b then Some (loaded_byte bytes u (address - u.address)) else loaded_memory bytes us address) none
      ∙ loaded_by us inside (λ s d. only s (contains_tail u us s d))
      (contained_later u us t c.0 c.1 c.2 (λ same. let never : true ≡ false = sym inside ∙ ap within (sym same) ∙ none in cc)))

module _ (file : Executable) (formed : IsWellFormed file) where
  inside : (t : Segment) → Contains file.segments t → (address : ℕ) → IsTrue (has_in_file t address)
      → lies_in t.address (t.address + t.memory_size) address ≡ true
  inside t c address loads =
      bounds-lies_in t.address (t.address + t.memory_size) address (loaded_from t address loads) (omega (arith, loaded_to t address loads, formed.filled t c))

  one : (t : Segment) → Contains file.segments t → (address : ℕ) → IsTrue (has_in_file t address)
      → (u : Segment) → Contains file.segments u → lies_in u.address (u.address + u.memory_size) address ≡ true → u ≡ t
  one t c address loads u d is =
      let b = lies_in-bounds u.address (u.address + u.memory_size) address is in
      elim (cases_lt u.address t.address) [
        | inl l ↦ (layout_of file formed).one u t d c (omega arith) (omega (arith, b.1, loaded_from t address loads))
        | inr l ↦ sym ((layout_of file formed).one t u c d l (omega (arith, b.0, loaded_to t address loads, formed.filled t c)))
      ]

  pub loaded_is : (t : Segment) → Contains file.segments t → (address : ℕ) → IsTrue (has_in_file t address)
      → loaded_memory file.bytes file.segments address ≡ Some (slice_index file.bytes (t.offset + (address - t.address)))
  loaded_is t c address loads = loaded_by file.bytes address t loads file.segments (inside t c address loads) (one t c address loads) c

  place_is : (t : Segment) → Contains file.segments t → (address : ℕ) → IsTrue (has_in_file t address)
      → place_of file.segments address ≡ t.offset + (address - t.address)
  place_is t c address loads =
      place_found file.segments address t c loads (λ u d others. one t c address loads u d (inside u d address others))

  -- a byte of text is mapped
  text_mapped : (address : ℕ) → InText file.ranges address → is_some (loaded_memory file.bytes file.segments address) ≡ true
  text_mapped address held =
      let h = holder file.ranges address held in
      let l = formed.loaded h.range h.there in
      let loads = loads_between l.0 address (omega (arith, l.2.from, h.from)) (omega (arith, l.2.to, h.to)) in
      ap is_some (loaded_is l.0 l.1 address loads)

  ends_above : (segments : List Segment) (s : Segment) → Contains segments s → s.address + s.memory_size ≤ maximum_end (map extent_of segments)
  ends_above [] s c = absurd (omega (arith, c.1))
  ends_above (t ∷ ts) s (zero, lt, is) =
      subst (λ (r : Segment). r.address + r.memory_size ≤ max (t.address + t.memory_size) (maximum_end (map extent_of ts))) is (omega arith)
  ends_above (t ∷ ts) s (suc k, lt, is) = omega (arith, ends_above ts s (k, omega arith, is))

  text_below : (address : ℕ) → InText file.ranges address → address < heap_start (loaded_program file)
  text_below address held =
      let h = holder file.ranges address held in
      let l = formed.loaded h.range h.there in
      omega (arith, l.2.to, h.to, formed.filled l.0 l.1, ends_above file.segments l.0 l.1)

  pub opening_text : (input : List ℕ) → HasText (loaded_program file) (opening file input).core
  opening_text input = record {
    mapped = text_mapped;
    below = text_below;
    heap = omega arith;
  }

  -- ---- words of text

  -- a range that has the first byte of a word has all of it
  word_end : (address : ℕ) (text : IsTextWord file.ranges address) → address + 4 ≤ end_of (holder file.ranges address text.1).range
  word_end address text =
      let h = holder file.ranges address text.1 in
      omega (arith, text.0, formed.aligned h.range h.there, h.from, h.to)

  number_from : (n i : ℕ) (bytes : List ℕ) → number_of_bytes (bytes_from n bytes i) ≡ field n i bytes
  unfolding field
  number_from zero i bytes = refl
  number_from (suc n) i bytes =
      let next : i + 1 ≡ suc i = omega arith in
      ap (λ (more : ℕ). slice_index bytes i + 256 * more) (number_from n (i + 1) bytes ∙ ap (λ (j : ℕ). field n j bytes) next)

  pub opening_word : (input : List ℕ) (address : ℕ) → IsTextWord file.ranges address
      → word_at (opening file input).core.memory address ≡ Some (text_word file address)
  opening_word input address (aligned, held) =
      let h = holder file.ranges address held in
      let l = formed.loaded h.range h.there in
      let loads = l.2 in
      let t = l.0 in
      let whole = word_end address (aligned, held) in
      let low : t.address ≤ address = omega (arith, loads.from, h.from) in
      let there = λ (k : ℕ) (lt : k < 4). loads_between t (address + k) (omega arith) (omega (arith, whole, loads.to)) in
      let place = place_is t l.1 address (loads_between t address low (omega (arith, whole, loads.to))) in
      let row : bytes_at (loaded_memory file.bytes file.segments) (addresses 4 address) ≡ Some (bytes_from 4 file.bytes (t.offset + (address - t.address))) =
      bytes_at_row (loaded_memory file.bytes file.segments) 4 address file.bytes (t.offset + (address - t.address))
      (omega (arith, text_top file formed address held, aligned))
      (λ k lt. loaded_is t l.1 (address + k) (there k lt) ∙ ap (λ (j : ℕ). Some (slice_index file.bytes j)) (omega arith)) in
      ap (λ found. option_map number_of_bytes found) row
      ∙ ap Some (number_from 4 (t.offset + (address - t.address)) file.bytes ∙ ap (λ (j : ℕ). field 4 j file.bytes) (sym place))

  -- a word of text is four bytes of text
  pub whole_words : (address : ℕ) → IsTextWord file.ranges address → list_all (in_text (loaded_program file)) (addresses 4 address) ≡ true
  whole_words address (aligned, held) =
      let h = holder file.ranges address held in
      let whole = word_end address (aligned, held) in
      let top = text_top file formed address held in
      let here = λ (a : ℕ) (from : address ≤ a) (to : a < address + 4).
      text_within file.ranges (a % 2 ^ 32) h.range h.there (omega (arith, h.from, top)) (omega (arith, whole, top)) in
      all_four _ _ _ _ (here address (omega arith) (omega arith)) (here (address + 1) (omega arith) (omega arith))
      (here (address + 1 + 1) (omega arith) (omega arith)) (here (address + 1 + 1 + 1) (omega arith) (omega arith))
    where
      all_four : (a b c d : ℕ) → in_text (loaded_program file) a ≡ true → in_text (loaded_program file) b ≡ true
          → in_text (loaded_program file) c ≡ true → in_text (loaded_program file) d ≡ true
          → list_all (in_text (loaded_program file)) (a ∷ b ∷ c ∷ d ∷ []) ≡ true
      all_four a b c d ha hb hc hd i = ha i && (hb i && (hc i && (hd i && true)))

  -- ---- instructions of text

  text_tests : (address : ℕ) → IsTextWord file.ranges address → ((address % 4 == 0) && in_text (loaded_program file) address) ≡ true
  text_tests address (aligned, held) =
      both (address % 4) aligned (in_text (loaded_program file) address) held
    where
      both : (n : ℕ) → n ≡ 0 → (p : Bool) → p ≡ true → ((n == 0) && p) ≡ true
      both n none p is = grind (arith, nat_tests)

  pub opening_insn : (meaning : Meaning) (input : List ℕ) (address : ℕ) → IsTextWord file.ranges address
      → insn_in meaning (loaded_program file) (opening file input).core.memory address ≡ Some (meaning.insn (text_word file address))
  opening_insn meaning input address text =
      ap (λ test. if test then option_map meaning.insn (word_at (opening file input).core.memory address) else None) (text_tests address text)
      ∙ ap (option_map meaning.insn) (opening_word input address text)

  -- as one meaning reads them, in a run by another
  pub later_insn : (meaning reading : Meaning) (input : List ℕ) (n : ℕ) → LeavesTextFor meaning (loaded_program file) n (opening file input)
      → (address : ℕ) → IsTextWord file.ranges address
      → insn_in reading (loaded_program file) (after meaning (loaded_program file) n (opening file input)).state.core.memory address
      ≡ Some (reading.insn (text_word file address))
  later_insn meaning reading input n clear address text =
      let kept = text_stays_for meaning (loaded_program file) n (opening file input) (opening_text input) clear in
      sym (same_insn reading (loaded_program file) _ _ address kept.same (whole_words address text))
      ∙ opening_insn reading input address text

  -- instructions that the file has from an address on
  pub insns_stand : (meaning : Meaning) (input : List ℕ) (n : ℕ) → LeavesTextFor meaning (loaded_program file) n (opening file input)
      → (insns : List Insn) (address : ℕ) → AreFileInsns meaning file address insns
      → StandAt meaning (loaded_program file) (after meaning (loaded_program file) n (opening file input)).state.core.memory address insns
  insns_stand meaning input n clear [] address each = tt
  insns_stand meaning input n clear (insn ∷ insns) address each =
      let first = each 0 insn (omega arith) in
      let here : address + 4 * 0 ≡ address = omega arith in
      let text : IsTextWord file.ranges address = subst (IsTextWord file.ranges) here first.text in
      let next : address + 4 ≡ following address = omega (arith, text_top file formed address text.1) in
      let reads : meaning.insn (text_word file address) ≡ insn =
      subst (λ (a : ℕ). meaning.insn (text_word file a) ≡ insn) here first.reads in (
        later_insn meaning meaning input n clear address text ∙ ap Some reads,
        whole_words address text,
        insns_stand meaning input n clear insns (following address)
            (λ k d lt.
            let at : address + 4 * suc k ≡ following address + 4 * k = omega (arith, next) in
            subst (λ (a : ℕ). IsFileInsn meaning file a (slice_index_or insns k d)) at (each (suc k) d (omega arith))),
      )
