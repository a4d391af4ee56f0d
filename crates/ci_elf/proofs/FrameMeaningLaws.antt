-- What a file with the headers of a frame means: its segments, its text and its symbols.
use Rattle.std.proofs.Common.{◌≡◌, ℕ, suc, zero, ◌+◌, ◌-◌, ◌*◌, ◌/◌, ◌<◌, nat_lt, true, false, cond, List, [], ◌∷◌, refl, arith, lit<}
use Rattle.std.proofs.lemmas.Bool.Decides.{nat_tests}
use Rattle.ci_elf.specs.declared.segments.Segment.{Segment}
use Rattle.ci_elf.specs.Fields.{is_loadable, is_symbol_table, is_text, sh_addr, sh_size}
use Rattle.ci_reading.specs.Broken.{each_below}
use Rattle.ci_elf.specs.Executables.{segments_of, segment_of, symbols_of, ranges_of}
use Rattle.ci_elf.proofs.FrameHeaderLaws.{IsLoad, HasFrameHeaders}

pub below_two : (P : ℕ → Type 0) → P 0 → P 1 → (n : ℕ) → n < 2 → P n
below_two P a b zero h = a
below_two P a b (suc zero) h = b
below_two P a b (suc (suc n)) h = absurd (omega arith)

pub below_four : (P : ℕ → Type 0) → P 0 → P 1 → P 2 → P 3 → (n : ℕ) → n < 4 → P n
below_four P a b c d zero h = a
below_four P a b c d (suc zero) h = b
below_four P a b c d (suc (suc n)) h = below_two (λ k. P (suc (suc k))) c d n (omega arith)

-- the segment that is at this place of the file, and of memory
abbrev pub loaded : (from to long : ℕ) → Segment
loaded from to long = record { address = to; memory_size = long; offset = from; file_size = long }

module _ (bytes : List ℕ) (t c v : ℕ) (h : HasFrameHeaders bytes t c v) where
  -- ---- segments

  pub text_is_loadable : is_loadable bytes 0 ≡ true
  unfolding is_loadable
  text_is_loadable = rw (h.text_segment.kind, h.text_segment.memory_size) (grind (arith, nat_tests))

  values_are_loadable : is_loadable bytes 1 ≡ nat_lt 0 v
  unfolding is_loadable
  values_are_loadable = rw (h.values_segment.kind, h.values_segment.memory_size) (grind (arith, nat_tests))

  segment_is : (n from to long : ℕ) → IsLoad bytes n from to long → segment_of bytes n ≡ loaded from to long
  segment_is n from to long load =
      λ i. record {
        address = load.address i;
        memory_size = load.memory_size i;
        offset = load.offset i;
        file_size = load.file_size i;
      }

  pub segments_are :
      segments_of bytes
      ≡ loaded 0 0x10000 (116 + 4 * t + 4 * c)
      ∷ cond (nat_lt 0 v) (loaded (116 + 4 * t + 4 * c) 0x20000 (4 * v) ∷ []) []
  unfolding segments_of each_below
  segments_are =
      let first = segment_is 0 0 0x10000 (116 + 4 * t + 4 * c) h.text_segment in
      let second = segment_is 1 (116 + 4 * t + 4 * c) 0x20000 (4 * v) h.values_segment in
      rw (h.programs, text_is_loadable, values_are_loadable) (λ i. first i ∷ cond (nat_lt 0 v) (second i ∷ []) [])

  -- ---- sections

  pub no_symbols : (n : ℕ) → n < 4 → is_symbol_table bytes n ≡ false
  unfolding is_symbol_table
  no_symbols =
      below_four (λ n. is_symbol_table bytes n ≡ false) (rw h.empty.kind refl) (rw h.text.kind refl)
      (rw h.constants.kind refl) (rw h.values.kind refl)

  pub symbols_are : symbols_of bytes ≡ []
  unfolding symbols_of each_below
  symbols_are =
      let none : (n : ℕ) → n < 4 → is_symbol_table bytes n ≡ false = no_symbols in
      rw (h.sections, none 0 (lit< tt), none 1 (lit< tt), none 2 (lit< tt), none 3 (lit< tt)) refl

  text_is : is_text bytes 1 ≡ true
  unfolding is_text
  text_is = let some = h.some_text in rw (h.text.kind, h.text.flags, h.text.size) (grind (arith, nat_tests))

  pub empty_is_no_text : is_text bytes 0 ≡ false
  unfolding is_text
  empty_is_no_text = rw h.empty.kind refl

  pub constants_are_no_text : is_text bytes 2 ≡ false
  unfolding is_text
  constants_are_no_text = rw (h.constants.kind, h.constants.flags) refl

  pub values_are_no_text : is_text bytes 3 ≡ false
  unfolding is_text
  values_are_no_text = rw (h.values.kind, h.values.flags) refl

  pub only_text : (n : ℕ) → n < 4 → is_text bytes n ≡ true → n ≡ 1
  only_text =
      below_four (λ n. is_text bytes n ≡ true → n ≡ 1) (λ is. absurd (cc empty_is_no_text)) (λ is. refl)
      (λ is. absurd (cc constants_are_no_text)) (λ is. absurd (cc values_are_no_text))

  pub ranges_are : ranges_of bytes ≡ record { start = 0x10074; words = t } ∷ []
  unfolding ranges_of each_below
  ranges_are =
      let start : (sh_addr bytes 1 + 3) / 4 * 4 ≡ 0x10074 = omega (arith, h.text.address) in
      let many : (sh_addr bytes 1 + sh_size bytes 1) / 4 - (sh_addr bytes 1 + 3) / 4 ≡ t =
      omega (arith, h.text.address, h.text.size) in
      let some : nat_lt 0 t ≡ true = let more = h.some_text in grind (arith, nat_tests) in
      rw (h.sections, empty_is_no_text, text_is, constants_are_no_text, values_are_no_text, many, start, some) refl
