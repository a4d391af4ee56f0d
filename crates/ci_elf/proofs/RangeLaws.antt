-- The ranges of the text: below the top of memory, apart from each other, and in which of them an address lies.
use Rattle.std.proofs.Common.{◌≡◌, ℕ, suc, zero, ◌+◌, ◌-◌, ◌*◌, ◌/◌, ◌<◌, ◌≤◌, ◌⊎◌, inl, inr, Bool, true, false, cond}
use Rattle.std.proofs.Common.{◌&&◌, nat_lt, List, [], ◌∷◌, ◌++◌, length, get_or, refl, sym, ◌∙◌, ap, subst, arith}
use Rattle.std.specs.Prelude.{IsTrue}
use Rattle.std.specs.List.{AllPairs, Any}
use Rattle.std.proofs.lemmas.Bool.Decides.{nat_tests}
use Rattle.std.proofs.lemmas.List.Folds.{Any-from_list_any, list_any-from_Any}
use Rattle.std.specs.List.Sorted.{IsNonDecreasingBy, IsPermutation}
use Rattle.std.proofs.lemmas.Bool.{cases_lt}
use Rattle.std.proofs.lemmas.List.{get_or_default, append-nil}
use Rattle.std.proofs.lemmas.List.Elements.{Contains-get_or}
use Rattle.std.proofs.lemmas.List.Quantifiers.{all_pairs_push}
use Rattle.std.proofs.lemmas.List.Sorted.{Contains-permutation, IsPermutation-sym, list_any-IsPermutation}
use borrow.Author.Tests.{ltb-true}
use Rattle.ci_elf.specs.declared.ranges.Range.{Range}
use Rattle.ci_elf.specs.Fields.{e_phnum, e_shnum, is_text, is_loadable, sh_addr, sh_offset, sh_size, p_vaddr, p_memsz}
use Rattle.ci_reading.specs.Broken.{each_below, those_below}
use Rattle.ci_elf.specs.Executables.{range_of, has_words, ranges_of, end_of, has_byte, HoldsAddress, InText, IsAscending}
use Rattle.ci_elf.specs.MemoryMap.{memory_top}
use Rattle.ci_elf.specs.Rules.{NamesNoInterpreter, HasFilePart, IsPlaced, HasSymbols, TextIsLoaded, TextIsAlone, Holds}
use Rattle.ci_elf.specs.Rules.{FitsMemory, IsLoadedBy, IsAlone, KeepsRules, segment_rules, memory_rules, section_rules}
use Rattle.ci_reading.proofs.BrokenLaws.{kept_at, contained_those}
use Rattle.ci_elf.proofs.PairLaws.{pairs_permuted}
use Rattle.ci_elf.proofs.SegmentLaws.{apart_means, has_memory, both}
use Rattle.ci_elf.proofs.SectionLaws.{apart_at, text_filled}

pub left_of : (a b : Bool) → (a && b) ≡ true → a ≡ true
left_of true b h = refl
left_of false b h = h

-- ---- lists of those that pass a test

module _ {A : Type 0} (R : A → A → Type 0) (test : ℕ → Bool) (f : ℕ → A) where
  pairs_step : (b : Bool) (n : ℕ) → AllPairs R (those_below n test f)
      → (b ≡ true → (k : ℕ) (d : A) → k < length (those_below n test f)
      → R (get_or (those_below n test f) k d) (f n))
      → AllPairs R (those_below n test f ++ cond b (f n ∷ []) [])
  pairs_step true n all here = all_pairs_push R (those_below n test f) (f n) all (here refl)
  pairs_step false n all here = rw append-nil all

  pub pairs_those : (n : ℕ) → ((j k : ℕ) → j < k → k < n → test j ≡ true → test k ≡ true → R (f j) (f k)) → AllPairs R (those_below n test f)
  unfolding each_below
  pairs_those zero all = λ i j d h l. absurd (omega arith)
  pairs_those (suc n) all =
      pairs_step (test n) n (pairs_those n (λ j k h l. all j k h (omega arith))) (λ is k d h.
      let found = contained_those test f n (get_or (those_below n test f) k d) (Contains-get_or (those_below n test f) k d h) in
      rw found.3 (all found.0 n found.1 (omega arith) found.2 is))

-- ---- ranges of a file that keeps the rules

module _ (bytes : List ℕ) (placed : KeepsRules bytes (segment_rules bytes)) (sections : KeepsRules bytes (section_rules bytes)) where
  fits_at : (k : ℕ) → k < e_phnum bytes → IsTrue (is_loadable bytes k) → FitsMemory bytes k
  fits_at k h is = (kept_at (Holds bytes) (e_phnum bytes) k (λ n. NamesNoInterpreter n ∷ HasFilePart n ∷ IsPlaced n ∷ []) h placed).1.1.0 is

  pub loaded_at : (n : ℕ) → n < e_shnum bytes → is_text bytes n ≡ true → (k : ℕ) × IsLoadedBy bytes k n
  loaded_at n h is = (kept_at (Holds bytes) (e_shnum bytes) n (λ k. HasSymbols k ∷ TextIsLoaded k ∷ TextIsAlone k ∷ []) h sections).1.0 is

  alone_at : (n : ℕ) → n < e_shnum bytes → is_text bytes n ≡ true → IsAlone bytes n
  alone_at n h is = (kept_at (Holds bytes) (e_shnum bytes) n (λ k. HasSymbols k ∷ TextIsLoaded k ∷ TextIsAlone k ∷ []) h sections).1.1.0 is

  -- text lies below the top of memory
  pub text_top : (n : ℕ) → n < e_shnum bytes → is_text bytes n ≡ true → sh_addr bytes n + sh_size bytes n ≤ memory_top
  text_top n h is =
      let l = loaded_at n h is in
      let by = l.1 in
      let fits = fits_at l.0 by.exists by.loadable in
      omega (arith, by.from, by.to, by.agrees, fits.filled, fits.below_top)

  module _ (memory : KeepsRules bytes (memory_rules bytes)) where
    -- two texts are apart in memory
    texts_apart : (j k : ℕ) → j < k → k < e_shnum bytes → is_text bytes j ≡ true → is_text bytes k ≡ true
        → (sh_addr bytes j + sh_size bytes j ≤ sh_addr bytes k) ⊎ (sh_addr bytes k + sh_size bytes k ≤ sh_addr bytes j)
    texts_apart j k h l is_j is_k =
        let load_j = loaded_at j (omega arith) is_j in
        let load_k = loaded_at k l is_k in
        let a = load_j.1 in
        let b = load_k.1 in
        let fits_j = fits_at load_j.0 a.exists a.loadable in
        let fits_k = fits_at load_k.0 b.exists b.loadable in
        let some_j = text_filled bytes j is_j in
        let some_k = text_filled bytes k is_k in
        elim (cases_lt load_j.0 load_k.0) [
          | inl m ↦ elim (apart_means (p_vaddr bytes load_j.0) (p_memsz bytes load_j.0) (p_vaddr bytes load_k.0) (p_memsz bytes load_k.0)
              (has_memory bytes load_j.0 a.loadable) (has_memory bytes load_k.0 b.loadable)
              (apart_at bytes placed memory load_j.0 load_k.0 m b.exists a.loadable b.loadable)) [
                | inl e ↦ inl (omega (arith, a.from, a.to, a.agrees, b.from, b.to, b.agrees, fits_j.filled, fits_k.filled))
                | inr e ↦ inr (omega (arith, a.from, a.to, a.agrees, b.from, b.to, b.agrees, fits_j.filled, fits_k.filled))
              ]
          | inr m ↦ elim (cases_lt load_k.0 load_j.0) [
            | inl o ↦ elim (apart_means (p_vaddr bytes load_k.0) (p_memsz bytes load_k.0) (p_vaddr bytes load_j.0) (p_memsz bytes load_j.0)
                (has_memory bytes load_k.0 b.loadable) (has_memory bytes load_j.0 a.loadable)
                (apart_at bytes placed memory load_k.0 load_j.0 o a.exists b.loadable a.loadable)) [
                  | inl e ↦ inr (omega (arith, a.from, a.to, a.agrees, b.from, b.to, b.agrees, fits_j.filled, fits_k.filled))
                  | inr e ↦ inl (omega (arith, a.from, a.to, a.agrees, b.from, b.to, b.agrees, fits_j.filled, fits_k.filled))
                ]
            | inr o ↦
                let same : load_j.0 ≡ load_k.0 = omega arith in
                let c : IsLoadedBy bytes load_k.0 j = subst (λ s. IsLoadedBy bytes s j) same a in
                elim (apart_means (sh_offset bytes k) (sh_size bytes k) (sh_offset bytes j) (sh_size bytes j) some_k some_j
                ((alone_at k l is_k).texts j h is_j)) [
                  | inl e ↦ inr (omega (arith, c.from, c.agrees, b.from, b.agrees))
                  | inr e ↦ inl (omega (arith, c.from, c.agrees, b.from, b.agrees))
                ]
          ]
        ]

    -- two ranges share no address
    abbrev pub RangesApart : Range → Range → Type 0
    RangesApart p q = (end_of p ≤ q.start) ⊎ (end_of q ≤ p.start)

    pub words_some : (n : ℕ) → has_words bytes n ≡ true → (is_text bytes n ≡ true) × (0 < (range_of bytes n).words)
    words_some n is = (
      left_of (is_text bytes n) (nat_lt 0 (range_of bytes n).words) is,
      ltb-true 0 (range_of bytes n).words (both (is_text bytes n) (nat_lt 0 (range_of bytes n).words) is),
    )

    ranges_apart : AllPairs RangesApart (ranges_of bytes)
    unfolding ranges_of
    ranges_apart =
        pairs_those RangesApart (has_words bytes) (range_of bytes) (e_shnum bytes) (λ j k h l is_j is_k.
        let a = words_some j is_j in
        let b = words_some k is_k in
        elim (texts_apart j k h l a.0 b.0) [
          | inl e ↦ inl (omega (arith, a.1, b.1))
          | inr e ↦ inr (omega (arith, a.1, b.1))
        ])

    pub ascending : (sorted : List Range) → IsPermutation (ranges_of bytes) sorted → IsNonDecreasingBy (λ r. r.start) sorted → IsAscending sorted
    unfolding ranges_of
    ascending sorted moved order i j d h l =
        let apart = pairs_permuted RangesApart flipped (ranges_of bytes) sorted moved ranges_apart i j d h l in
        let among = contained_those (has_words bytes) (range_of bytes) (e_shnum bytes) (get_or sorted j d)
        (Contains-permutation sorted (ranges_of bytes) (get_or sorted j d) (IsPermutation-sym (ranges_of bytes) sorted moved) (Contains-get_or sorted j d l)) in
        let some : 0 < (get_or sorted j d).words = rw among.3 ((words_some among.0 among.2).1) in
        elim apart [
          | inl e ↦ e
          | inr e ↦ omega (arith, order i j d (omega arith) l)
        ]
      where
        flipped : (p q : Range) → RangesApart p q → RangesApart q p
        flipped p q (inl e) = inr e
        flipped p q (inr e) = inl e

-- ---- in which range an address lies

abbrev HasByte : ℕ → Range → Type 0
HasByte address range = (range.start ≤ address) × (address < end_of range)

pub has_bounds : (range : Range) (address : ℕ) → has_byte range address ≡ true → HasByte address range
has_bounds range address h = (grind (arith, nat_tests), grind (arith, nat_tests))

-- text lies in a range
pub range_holding : (ranges : List Range) (address : ℕ) → InText ranges address → Any (HasByte address) ranges
range_holding ranges address text =
    let h = Any-from_list_any (λ range. has_byte range address) ranges text in
    (h.0, h.1, h.2, h.3, has_bounds h.1 address h.4)

-- and what a range has is text
pub text_from : (ranges : List Range) (address : ℕ) → Any (HasByte address) ranges → InText ranges address
text_from ranges address h =
    list_any-from_Any (λ range. has_byte range address) ranges
    (h.0, h.1, h.2, h.3, let from = h.4.0 in let to = h.4.1 in grind (arith, nat_tests))

module _ (ranges : List Range) (sorted : IsAscending ranges) (address after : ℕ)
    (before : (k : ℕ) (d : Range) → k < after → (get_or ranges k d).start ≤ address)
    (behind : (k : ℕ) (d : Range) → after ≤ k → k < length ranges → address < (get_or ranges k d).start) where
  pub none_held : after ≡ 0 → ¬ InText ranges address
  none_held none text =
      let h = range_holding ranges address text in
      omega (arith, rw h.3 at (behind h.0 h.1 (omega arith) h.2), h.4.0)

  module _ (some : 0 < after) (within : after ≤ length ranges) where
    pub held : (d : Range) → address < end_of (get_or ranges (after - 1) d) → HoldsAddress ranges address (after - 1)
    held d h = record {
      within = omega arith;
      from = λ e. before (after - 1) e (omega arith);
      to = λ e. rw (get_or_default ranges (after - 1) e d (omega arith)) h;
    }

    pub not_held : (d : Range) → end_of (get_or ranges (after - 1) d) ≤ address → ¬ InText ranges address
    not_held d past text =
        let h = range_holding ranges address text in
        elim (cases_lt h.0 after) [
          | inl l ↦ elim (cases_lt h.0 (after - 1)) [
            | inl m ↦
                let apart = sorted h.0 (after - 1) h.1 m (omega arith) in
                omega (arith, rw h.3 at apart, before (after - 1) h.1 (omega arith), h.4.1)
            | inr m ↦
                let last : h.0 ≡ after - 1 = omega arith in
                let here : get_or ranges (after - 1) d ≡ h.1 =
                get_or_default ranges (after - 1) d h.1 (omega arith) ∙ ap (λ k. get_or ranges k h.1) (sym last) ∙ h.3 in
                omega (arith, rw here at past, h.4.1)
          ]
          | inr l ↦ omega (arith, rw h.3 at (behind h.0 h.1 l h.2), h.4.0)
        ]

-- an address that a range has is text
pub text_held : (ranges : List Range) (address i : ℕ) → HoldsAddress ranges address i → InText ranges address
text_held ranges address i h = text_from ranges address (
  i,
  get_or ranges i (record { start = 0; words = 0 }),
  h.within,
  get_or_default ranges i (get_or ranges i (record { start = 0; words = 0 })) (record { start = 0; words = 0 }) h.within,
  (h.from (record { start = 0; words = 0 }), h.to (record { start = 0; words = 0 })),
)

-- text is text in any order
pub text_permuted : (xs ys : List Range) (address : ℕ) → IsPermutation xs ys → InText xs address → InText ys address
text_permuted xs ys address moved h = sym (list_any-IsPermutation (λ range. has_byte range address) xs ys moved) ∙ h

pub starts_rise : (ranges : List Range) → IsAscending ranges → IsNonDecreasingBy (λ r. r.start) ranges
starts_rise ranges sorted i j d h l = elim (cases_lt i j) [
  | inl m ↦ omega (arith, sorted i j d m l)
  | inr m ↦
      let same : i ≡ j = omega arith in
      rw same (omega arith)
]

-- an address behind a start, in words
pub within_words : (address start words : ℕ) → start ≤ address → (address - start) / 4 < words → address < start + 4 * words
within_words address start words h l = omega arith

pub past_words : (address start words : ℕ) → start ≤ address → words ≤ (address - start) / 4 → start + 4 * words ≤ address
past_words address start words h l = omega arith
