-- Places of words: that a word of the text has one, that two words have two, and how a place is found.
use Rattle.std.proofs.Common.{Bool, ◌≡◌, ℕ, suc, zero, ◌+◌, ◌-◌, ◌*◌, ◌/◌, ◌%◌, ◌<◌, ◌≤◌, ◌^◌, inl, inr, true, false}
use Rattle.std.proofs.Common.{ap, sym, ◌∙◌, refl, arith, List, [], ◌∷◌, ◌++◌, length, length-append, take, get_or}
use Rattle.std.proofs.Common.{Option, Some, None, eq-eqb}
use Rattle.std.specs.Prelude.{◌==◌, ◌||◌, MatchOption, is_some, if◌then◌else◌}
use Rattle.std.specs.Option.{option_map}
use Rattle.std.proofs.lemmas.Bool.{cases_Bool, cases_lt, eqb-true, ne_eqb}
use Rattle.std.proofs.lemmas.Bool.Decides.{nat_tests}
use Rattle.std.proofs.lemmas.List.{get_or_default, get_or_append_left, take_all}
use Rattle.std.proofs.lemmas.List.Sums.{sum_by-cons, sum_by_more}
use Rattle.std.proofs.Math.Seq.{get_or-append_seam}
use Rattle.ci_elf.specs.declared.ranges.Range.{Range}
use Rattle.ci_elf.specs.Executables.{HoldsAddress, InText, IsAscending, IsTextWord, end_of, has_byte, in_text}
use Rattle.ci_elf.specs.private.RangeChecks.{AreFirstPlaces}
use Rattle.ci_elf.specs.WordPlaces.{place_in, word_count, word_place}
use Rattle.ci_elf.proofs.RangeLaws.{has_bounds, text_held}

-- ---- what a place says of the text

in_one : (b : Bool) (n : ℕ) (o : Option ℕ) (q : ℕ)
    → is_some (if b then Some q else option_map (λ place. n + place) o) ≡ (b || is_some o)
in_one true n o q = refl
in_one false n None q = refl
in_one false n (Some place) q = refl

-- the bytes of the text are those with a place
pub text_has_place : (ranges : List Range) (address : ℕ) → in_text ranges address ≡ is_some (place_in ranges address)
text_has_place [] address = refl
text_has_place (range ∷ ranges) address =
    ap (λ b. has_byte range address || b) (text_has_place ranges address) ∙ sym (in_one _ _ _ _)

is_some_place : (place : Option ℕ) → is_some place ≡ true → (p : ℕ) × (place ≡ Some p)
is_some_place None is = cc
is_some_place (Some p) is = (p, refl)

pub word_has_place : (ranges : List Range) (address : ℕ) → IsTextWord ranges address → (p : ℕ) × (word_place ranges address ≡ Some p)
unfolding word_place
word_has_place ranges address (aligned, text) =
    let found = is_some_place (place_in ranges address) (sym (text_has_place ranges address) ∙ text) in
    (found.0, rw (eq-eqb (address % 4) 0 aligned) found.1)

pub word_placed : (ranges : List Range) (address p : ℕ) → word_place ranges address ≡ Some p
    → (address % 4 ≡ 0) × (place_in ranges address ≡ Some p)
unfolding word_place
word_placed ranges address p is = elim (cases_Bool (address % 4 == 0)) [
  | inl aligned ↦ (eqb-true (address % 4) 0 aligned, rw aligned at is)
  | inr other ↦ let none = rw other at is in cc
]

pub text_word : (ranges : List Range) (address p : ℕ) → word_place ranges address ≡ Some p → IsTextWord ranges address
text_word ranges address p is =
    let placed = word_placed ranges address p is in
    (placed.0, text_has_place ranges address ∙ ap is_some placed.1)

-- what has no place is no word
pub no_text_word : (ranges : List Range) (address : ℕ) → word_place ranges address ≡ None → ¬ IsTextWord ranges address
no_text_word ranges address none word = let there = word_has_place ranges address word in absurd (cc (sym none ∙ there.1))

-- ---- two words have two places, below the number of words

-- where an address has its place: in the first range, or behind it
data IsPlace (range : Range) (ranges : List Range) (address place : ℕ) : Type 0 where
  first : range.start ≤ address → address < end_of range → place ≡ (address - range.start) / 4 → IsPlace range ranges address place
  later : (p : ℕ) → place_in ranges address ≡ Some p → place ≡ range.words + p → IsPlace range ranges address place

placed : (range : Range) (ranges : List Range) (address place : ℕ) → place_in (range ∷ ranges) address ≡ Some place → IsPlace range ranges address place
placed range ranges address place is = elim (cases_Bool (has_byte range address)) [
  | inl here ↦ let bounds = has_bounds range address here in first bounds.0 bounds.1 (let e = rw here at is in cc)
  | inr none ↦ behind (place_in ranges address) refl (rw none at is)
]
  where
    behind : (o : Option ℕ) → place_in ranges address ≡ o → option_map (λ p. range.words + p) o ≡ Some place → IsPlace range ranges address place
    behind None rest is = cc
    behind (Some p) rest is = later p rest (let e = is in cc)

pub place_below : (ranges : List Range) (address place : ℕ) → place_in ranges address ≡ Some place → place < word_count ranges
place_below [] address place is = cc
place_below (range ∷ ranges) address place is = elim (placed range ranges address place is) [
  | first from below here ↦ omega (arith, sum_by-cons (λ (r : Range). r.words) range ranges)
  | later p rest behind ↦ omega (arith, place_below ranges address p rest, sum_by-cons (λ (r : Range). r.words) range ranges)
]

place_is_one : (ranges : List Range) (a b place : ℕ) → a % 4 ≡ 0 → b % 4 ≡ 0
    → place_in ranges a ≡ Some place → place_in ranges b ≡ Some place → a ≡ b
place_is_one [] a b place aligned_a aligned_b of_a of_b = cc
place_is_one (range ∷ ranges) a b place aligned_a aligned_b of_a of_b =
    elim (placed range ranges a place of_a) [
      | first from_a below_a here_a ↦ elim (placed range ranges b place of_b) [
        | first from_b below_b here_b ↦ omega arith
        | later p rest behind ↦ absurd (omega arith)
      ]
      | later p rest behind ↦ elim (placed range ranges b place of_b) [
        | first from_b below_b here_b ↦ absurd (omega arith)
        | later q rest_b behind_b ↦
            let same : q ≡ p = omega arith in
            place_is_one ranges a b p aligned_a aligned_b rest (rest_b ∙ ap Some same)
      ]
    ]

pub one_word : (ranges : List Range) (a b place : ℕ) → word_place ranges a ≡ Some place → word_place ranges b ≡ Some place → a ≡ b
one_word ranges a b place of_a of_b =
    let at_a = word_placed ranges a place of_a in
    let at_b = word_placed ranges b place of_b in
    place_is_one ranges a b place at_a.0 at_b.0 at_a.1 at_b.1

pub word_below : (ranges : List Range) (address place : ℕ) → word_place ranges address ≡ Some place → place < word_count ranges
word_below ranges address place is = place_below ranges address place (word_placed ranges address place is).1

-- ---- the place by the range that has the address

abbrev pub nowhere : Range
nowhere = record { start = 0; words = 0 }

-- ranges that ascend have fewer words before range k than there are addresses
pub words_before : (ranges : List Range) (k : ℕ) → IsAscending ranges → k < length ranges
    → 4 * word_count (take k ranges) ≤ (get_or ranges k nowhere).start
words_before ranges zero ascending h = omega arith
words_before ranges (suc k) ascending h =
    let next : suc k ≡ k + 1 = omega arith in
    let more = ap (λ j. word_count (take j ranges)) next ∙ sum_by_more (λ (r : Range). r.words) ranges k nowhere (omega arith) in
    omega (arith, words_before ranges k ascending (omega arith), more, ascending k (suc k) nowhere (omega arith) h)

-- a range that has the address gives its place
pub place_held : (ranges : List Range) → IsAscending ranges → (address i : ℕ) → HoldsAddress ranges address i
    → place_in ranges address ≡ Some (word_count (take i ranges) + (address - (get_or ranges i nowhere).start) / 4)
place_held [] ascending address i held = absurd (omega (arith, held.within))
place_held (range ∷ ranges) ascending address zero held =
    let here : has_byte range address ≡ true = let from = held.from nowhere in let to = held.to nowhere in grind (arith, nat_tests) in
    rw here (ap Some (omega arith))
place_held (range ∷ ranges) ascending address (suc i) held =
    let none : has_byte range address ≡ false =
    let past : end_of range ≤ address = omega (arith, ascending 0 (suc i) nowhere (omega arith) held.within, held.from nowhere) in
    grind (arith, nat_tests) in
    let rest = place_held ranges (λ j k d h l. ascending (suc j) (suc k) d (omega arith) (omega arith)) address i
    (record { within = omega (arith, held.within); from = held.from; to = held.to }) in
    rw (none, rest) (ap Some (omega (arith, sum_by-cons (λ (r : Range). r.words) range (take i ranges))))

-- by what is kept of the ranges
pub place_at : (ranges : List Range) (firsts : List ℕ) (count : ℕ) → AreFirstPlaces ranges firsts count
    → (address i : ℕ) → HoldsAddress ranges address i → (n : ℕ) → n ≡ get_or firsts i n → (range : Range) → range ≡ get_or ranges i range
    → place_in ranges address ≡ Some (n + (address - range.start) / 4)
place_at ranges firsts count kept address i held n is range is_range =
    let here : n ≡ word_count (take i ranges) =
    is ∙ get_or_default firsts i n 0 (omega (arith, held.within, kept.many)) ∙ kept.first i held.within in
    let start = ap (λ (r : Range). r.start) (is_range ∙ get_or_default ranges i range nowhere held.within) in
    place_held ranges kept.ascending address i held ∙ ap Some (omega (arith, here, start))

-- ---- what a look-up of the range says

pub looked_up : (ranges : List Range) (address : ℕ) (found : Option ℕ) → MatchOption found (¬ InText ranges address) (HoldsAddress ranges address)
    → is_some found ≡ in_text ranges address
looked_up ranges address None none = elim (cases_Bool (in_text ranges address)) [ inl is ↦ absurd (none is) | inr is ↦ sym is ]
looked_up ranges address (Some i) held = sym (text_held ranges address i held)

pub not_aligned : (ranges : List Range) (address : ℕ) → ¬ (address % 4 ≡ 0) → None ≡ word_place ranges address
unfolding word_place
not_aligned ranges address odd = rw (ne_eqb (address % 4) 0 odd) refl

none_is : (place : Option ℕ) → ¬ (is_some place ≡ true) → None ≡ place
none_is None empty = refl
none_is (Some p) empty = absurd (empty refl)

pub no_place : (ranges : List Range) (address : ℕ) → address % 4 ≡ 0 → ¬ InText ranges address → None ≡ word_place ranges address
unfolding word_place
no_place ranges address aligned none =
    rw (eq-eqb (address % 4) 0 aligned) (none_is (place_in ranges address) (λ is. none (text_has_place ranges address ∙ is)))

pub placed_word : (ranges : List Range) (address p : ℕ) → address % 4 ≡ 0 → place_in ranges address ≡ Some p → Some p ≡ word_place ranges address
unfolding word_place
placed_word ranges address p aligned is = rw (eq-eqb (address % 4) 0 aligned) (sym is)

-- ---- first places, range after range

-- the places of the first words of the ranges below i
pub record AreFirstsBelow (ranges : List Range) (i : ℕ) (firsts : List ℕ) (count : ℕ) : Type 0 where
  pub many : length firsts ≡ i
  pub first : (k : ℕ) → k < i → get_or firsts k 0 ≡ word_count (take k ranges)
  pub all : count ≡ word_count (take i ranges)

pub no_firsts : (ranges : List Range) → AreFirstsBelow ranges 0 [] 0
no_firsts ranges = record { many = refl; first = λ k h. absurd (omega arith); all = refl }

pub firsts_more : (ranges : List Range) (i : ℕ) (firsts : List ℕ) (count words : ℕ) → i < length ranges → words ≡ (get_or ranges i nowhere).words
    → AreFirstsBelow ranges i firsts count → AreFirstsBelow ranges (i + 1) (firsts ++ count ∷ []) (count + words)
firsts_more ranges i firsts count words below is so_far = record {
  many = length-append firsts (count ∷ []) ∙ omega (arith, so_far.many);
  first = λ k h. elim (cases_lt k i) [
    | inl l ↦ get_or_append_left firsts (count ∷ []) 0 k (omega (arith, so_far.many)) ∙ so_far.first k l
    | inr l ↦
        let same : k ≡ length firsts = omega (arith, so_far.many) in
        ap (λ j. get_or (firsts ++ count ∷ []) j 0) same ∙ get_or-append_seam firsts count [] 0 ∙ so_far.all
        ∙ ap (λ j. word_count (take j ranges)) (sym so_far.many ∙ sym same)
  ];
  all = omega (arith, so_far.all, is, sum_by_more (λ (r : Range). r.words) ranges i nowhere below);
}

pub all_firsts : (ranges : List Range) (i : ℕ) (firsts : List ℕ) (count : ℕ) → IsAscending ranges → i ≡ length ranges → AreFirstsBelow ranges i firsts count
    → count < 2 ^ 64 → AreFirstPlaces ranges firsts count
all_firsts ranges i firsts count ascending whole below fits = record {
  ascending = ascending;
  many = below.many ∙ whole;
  first = λ k h. below.first k (omega arith);
  all = below.all ∙ ap word_count (ap (λ j. take j ranges) whole ∙ take_all (length ranges) ranges (omega arith));
  fits = fits;
}
