-- What each call does to the words, said of the set that they hold.
use Rattle.std.proofs.Common.{◌≡◌, ◌≢◌, ℕ, zero, suc, ◌+◌, ◌-◌, ◌*◌, ◌/◌, ◌%◌, ◌^◌, ◌<◌, ◌≤◌, ◌⊎◌, max, min, Bool, true}
use Rattle.std.proofs.Common.{false, cond, not, ◌&&◌, ◌||◌, nat_eq, nat_lt, List, [], ◌∷◌, length, slice_index, IsTrue}
use Rattle.std.proofs.Common.{◌↔◌, bit_and, bit_or, count_ones, refl, sym, ap, ◌∙◌, inl, inr, arith, zero-add, add_comm}
use Rattle.std.proofs.Common.{pow_pos, pow-suc, lit<, w64, nat_cmp}
use Rattle.std.proofs.Math.ListN.{set as list_set, length-set}
use Rattle.std.specs.Cmp.{nat_cmp_total}
use Rattle.std.specs.FinSet as set
use Rattle.std.specs.Int.{bit_at, bit_not, trailing_zeros}
use Rattle.std.specs.Int.Count.{ones-ones}
use lib.Count.{count_leading_zeros}
use Rattle.std.proofs.lemmas.Bool.{lt-ltb, le-ltb, ltb-true, and_parts, cases_eq, cases_lt, eq-eqb, ne_eqb, eqb-true, eqb-false, not-true, false_from_ne_true}
use Rattle.std.proofs.lemmas.Bool.Decides.{nat_tests}
use Rattle.std.proofs.lemmas.Grind.{get_or-set_at}
use Rattle.std.proofs.lemmas.List.{get_or-set_other}
use Rattle.std.proofs.lemmas.Nat.{and_le_l, or_lt, le_or_l, le_or_r, mod_below, div_below, le-div, shr_split, ones_cat, ones-le, leading_top}
use Rattle.std.proofs.lemmas.Nat.Bits.{shr_and_one, bit_at-zero, bit_at-lt, bit_at_and, bit_at_or, bit_at_not}
use Rattle.std.proofs.lemmas.Nat.Bits.{bit_at_cat_low, bit_at_set_same, bit_at_set_other, bit_at_clear_same}
use Rattle.std.proofs.lemmas.Nat.Bits.{bit_at_clear_other, bit_at-trailing_zeros, bit_at_above}
use Rattle.ci_word.specs.Numbers.{count_below, Meets, IsGreatest}
use Rattle.ci_word.proofs.NumberLaws.{same_numbers, contains-insert_nat, contains-remove_nat, count_below-same, count_below-add}
use Rattle.ci_word.specs.private.Words.{is_in, numbers_in, AreRowWords, four_words}
use Rattle.ci_word.specs.private.WordLaws.{contains-numbers_in, is_in-at}

-- ---- what a row contains

pub numbers_in-below : (words : List ℕ) (s : set.FinSet nat_cmp) → numbers_in words ≡ s → (k : ℕ) → IsTrue (set.contains s k) → k < 256
numbers_in-below words s is k e =
    ltb-true k 256 (and_parts (nat_lt k 256) (is_in words k) (sym (contains-numbers_in words k) ∙ ap (λ t. set.contains t k) is ∙ e)).0

contains_is_in : (words : List ℕ) (s : set.FinSet nat_cmp) → numbers_in words ≡ s → (n : ℕ) → n < 256 → set.contains s n ≡ is_in words n
contains_is_in words s is n below =
    ap (λ t. set.contains t n) (sym is) ∙ contains-numbers_in words n ∙ ap (λ t. t && is_in words n) (lt-ltb n 256 below)

-- the test `(word >> bit) & 1 == 1`
pub contains_by_shift : (words : List ℕ) (s : set.FinSet nat_cmp) → numbers_in words ≡ s → (n : ℕ) → n < 256
    → nat_eq (bit_and (slice_index words (n / 64) / 2 ^ (n % 64)) 1) 1 ≡ set.contains s n
contains_by_shift words s is n below =
    ap (λ b. nat_eq b 1) (shr_and_one (slice_index words (n / 64)) (n % 64)) ∙ sym (contains_is_in words s is n below)

-- the four words with no bit set
pub numbers_in_zeros : numbers_in (0 ∷ 0 ∷ 0 ∷ 0 ∷ []) ≡ set.empty
numbers_in_zeros = same_numbers _ _ (λ q. contains-numbers_in zeros q ∙ ap (λ t. nat_lt q 256 && t) (none q)
    ∙ never (nat_lt q 256) ∙ sym (set.contains-empty nat_cmp q))
  where
    zeros : List ℕ
    zeros = 0 ∷ 0 ∷ 0 ∷ 0 ∷ []

    word : (k : ℕ) → slice_index zeros k ≡ 0
    word zero = refl
    word (suc zero) = refl
    word (suc (suc zero)) = refl
    word (suc (suc (suc zero))) = refl
    word (suc (suc (suc (suc k)))) = refl

    none : (q : ℕ) → is_in zeros q ≡ false
    none q = ap (λ x. nat_eq (bit_at x (q % 64)) 1) (word (q / 64)) ∙ ap (λ b. nat_eq b 1) (bit_at-zero (q % 64))

    never : (b : Bool) → (b && false) ≡ false
    never true = refl
    never false = refl

-- ---- a word written

pub AreRowWords-set : (words : List ℕ) (i w : ℕ) → AreRowWords words → i < 4 → w < 2 ^ 64 → AreRowWords (list_set words i w)
AreRowWords-set words i w (four, below) within fits = (
  length-set words i w ∙ four,
  λ k. elim (cases_eq k i) [
    | inl same ↦ let at : slice_index (list_set words i w) k ≡ w = get_or-set_at words i k w 0 same (omega arith) in omega arith
    | inr other ↦ let at : slice_index (list_set words i w) k ≡ slice_index words k = get_or-set_other words i k w 0 other in omega (arith, below k)
  ],
)

is_in-set_same : (words : List ℕ) (n w : ℕ) → n / 64 < length words → is_in (list_set words (n / 64) w) n ≡ nat_eq (bit_at w (n % 64)) 1
is_in-set_same words n w within = ap (λ x. nat_eq (bit_at x (n % 64)) 1) (get_or-set_at words (n / 64) (n / 64) w 0 refl within)

-- where a word keeps its other bits, the row keeps its other numbers
is_in-set_other : (words : List ℕ) (n q w : ℕ) → n / 64 < length words → q ≢ n
    → ((b : ℕ) → b < 64 → b ≢ n % 64 → bit_at w b ≡ bit_at (slice_index words (n / 64)) b)
    → is_in (list_set words (n / 64) w) q ≡ is_in words q
is_in-set_other words n q w within apart kept =
    elim (cases_eq (q / 64) (n / 64)) [
      | inl same ↦
          ap (λ x. nat_eq (bit_at x (q % 64)) 1) (get_or-set_at words (n / 64) (q / 64) w 0 same within)
          ∙ ap (λ b. nat_eq b 1) (kept (q % 64) (omega arith) (omega arith))
          ∙ ap (λ k. nat_eq (bit_at (slice_index words k) (q % 64)) 1) (sym same)
      | inr other ↦ ap (λ x. nat_eq (bit_at x (q % 64)) 1) (get_or-set_other words (n / 64) (q / 64) w 0 other)
    ]

-- a set that differs from the row's in n alone is what the row holds once that bit is written
numbers_in-set : (words : List ℕ) (s t : set.FinSet nat_cmp) (n w : ℕ) → numbers_in words ≡ s → length words ≡ 4
    → n < 256 → ((b : ℕ) → b < 64 → b ≢ n % 64 → bit_at w b ≡ bit_at (slice_index words (n / 64)) b)
    → nat_eq (bit_at w (n % 64)) 1 ≡ set.contains t n → ((q : ℕ) → q ≢ n → set.contains s q ≡ set.contains t q)
    → numbers_in (list_set words (n / 64) w) ≡ t
numbers_in-set words s t n w is four below kept here others =
    same_numbers _ _
    (λ q. contains-numbers_in (list_set words (n / 64) w) q ∙ elim (cases_eq q n) [
      | inl same ↦ rw same ((λ i. lt-ltb n 256 below i && is_in-set_same words n w (omega arith) i) ∙ here)
      | inr other ↦
          ap (λ b. nat_lt q 256 && b) (is_in-set_other words n q w (omega arith) other kept)
          ∙ sym (contains-numbers_in words q) ∙ ap (λ u. set.contains u q) is ∙ others q other
    ])

-- `word | 1 << bit`
pub numbers_in-insert : (words : List ℕ) (s : set.FinSet nat_cmp) (n : ℕ) → numbers_in words ≡ s → length words ≡ 4
    → n < 256 → numbers_in (list_set words (n / 64)
    (bit_or (slice_index words (n / 64)) (1 * 2 ^ (n % 64) % 2 ^ 64))) ≡ set.insert s n
numbers_in-insert words s n is four below =
    numbers_in-set words s (set.insert s n) n _ is four below
    (λ b h other. bit_at_set_other w64 _ (n % 64) (omega arith) b other)
    (ap (λ b. nat_eq b 1) (bit_at_set_same w64 (slice_index words (n / 64)) (n % 64) (omega arith))
    ∙ sym (contains-insert_nat s n n ∙ ap (λ b. b || set.contains s n) (eq-eqb n n refl)))
    (λ q other. sym (contains-insert_nat s n q ∙ ap (λ b. b || set.contains s q) (ne_eqb q n other)))

-- `word & !(1 << bit)`
pub numbers_in-remove : (words : List ℕ) (s : set.FinSet nat_cmp) (n : ℕ) → numbers_in words ≡ s → length words ≡ 4
    → n < 256 → numbers_in (list_set words (n / 64)
    (bit_and (slice_index words (n / 64)) (bit_not w64 (1 * 2 ^ (n % 64) % 2 ^ 64)))) ≡ set.remove s n
numbers_in-remove words s n is four below =
    numbers_in-set words s (set.remove s n) n _ is four below
    (λ b h other. bit_at_clear_other w64 _ (n % 64) (omega arith) b h other)
    (ap (λ b. nat_eq b 1) (bit_at_clear_same w64 (slice_index words (n / 64)) (n % 64) (omega arith))
    ∙ sym (contains-remove_nat s n n ∙ ap (λ b. not b && set.contains s n) (eq-eqb n n refl)))
    (λ q other. sym (contains-remove_nat s n q ∙ ap (λ b. not b && set.contains s q) (ne_eqb q n other)))

-- ---- four words at once

-- the list of four values, by index
four_at : (f : ℕ → ℕ) (k : ℕ) → k < 4 → slice_index (four_words f) k ≡ f k
four_at f zero within = refl
four_at f (suc zero) within = refl
four_at f (suc (suc zero)) within = refl
four_at f (suc (suc (suc zero))) within = refl
four_at f (suc (suc (suc (suc k)))) within = absurd (omega arith)

past_four : (f : ℕ → ℕ) (k : ℕ) → 4 ≤ k → slice_index (four_words f) k ≡ 0
past_four f zero past = absurd (omega arith)
past_four f (suc zero) past = absurd (omega arith)
past_four f (suc (suc zero)) past = absurd (omega arith)
past_four f (suc (suc (suc zero))) past = absurd (omega arith)
past_four f (suc (suc (suc (suc k)))) past = refl

AreRowWords_four : (f : ℕ → ℕ) → ((k : ℕ) → f k < 2 ^ 64) → AreRowWords (four_words f)
AreRowWords_four f below = (
  refl,
  λ k. elim (cases_lt k 4) [
    | inl within ↦ let at = four_at f k within in omega (arith, below k)
    | inr past ↦ let at = past_four f k past in omega arith
  ],
)

-- a row whose bits are an operation on the bits of two rows holds the operation on their sets
contains_combined :
    (op : Bool → Bool → Bool) (a b : List ℕ) (f : ℕ → ℕ) → op false false ≡ false
    → ((k i : ℕ) → i < 64 → nat_eq (bit_at (f k) i) 1 ≡ op (nat_eq (bit_at (slice_index a k) i) 1) (nat_eq (bit_at (slice_index b k) i) 1))
    → (q : ℕ) → set.contains (numbers_in (four_words f)) q ≡ op (set.contains (numbers_in a) q) (set.contains (numbers_in b) q)
contains_combined op a b f none bits q =
    contains-numbers_in (four_words f) q ∙ each (cases_lt q 256)
    ∙ (λ i. op (sym (contains-numbers_in a q) i) (sym (contains-numbers_in b q) i))
  where
    each : (q < 256) ⊎ (256 ≤ q) → (nat_lt q 256 && is_in (four_words f) q) ≡ op (nat_lt q 256 && is_in a q) (nat_lt q 256 && is_in b q)
    each (inl below) =
        rw (lt-ltb q 256 below)
        (ap (λ word. nat_eq (bit_at word (q % 64)) 1) (four_at f (q / 64) (omega arith)) ∙ bits (q / 64) (q % 64) (omega arith))
    each (inr past) = rw (le-ltb q 256 past) (sym none)

-- the words of two rows, joined by `|`
abbrev joined : List ℕ → List ℕ → ℕ → ℕ
joined a b k = bit_or (slice_index a k) (slice_index b k)

pub AreRowWords_joined : (a b : List ℕ) → AreRowWords a → AreRowWords b → AreRowWords (four_words (joined a b))
AreRowWords_joined a b (_, in_a) (_, in_b) = AreRowWords_four (joined a b) (λ k. or_lt 64 (slice_index a k) (slice_index b k) (in_a k) (in_b k))

bit_or_test : (x y : ℕ) → x < 2 → y < 2 → nat_eq (max x y) 1 ≡ (nat_eq x 1 || nat_eq y 1)
bit_or_test x y p q = grind (arith, nat_tests)

-- the set of the joined words is the union
pub numbers_in_joined :
    (a b : List ℕ) (s t : set.FinSet nat_cmp) → numbers_in a ≡ s → numbers_in b ≡ t
    → numbers_in (four_words (joined a b)) ≡ set.union s t
numbers_in_joined a b s t is_s is_t =
    same_numbers _ _
    (λ q.
    contains_combined (λ x y. x || y) a b (joined a b) refl joined_bits q
    ∙ sym (set.contains-union nat_cmp_total (numbers_in a) (numbers_in b) q))
    ∙ (λ i. set.union (is_s i) (is_t i))
  where
    joined_bits :
        (k i : ℕ) → i < 64
        → nat_eq (bit_at (joined a b k) i) 1 ≡ (nat_eq (bit_at (slice_index a k) i) 1 || nat_eq (bit_at (slice_index b k) i) 1)
    joined_bits k i below =
        let x : ℕ = slice_index a k in
        let y : ℕ = slice_index b k in
        ap (λ bit. nat_eq bit 1) (bit_at_or x y i) ∙ bit_or_test (bit_at x i) (bit_at y i) (bit_at-lt x i) (bit_at-lt y i)

-- the words of a row without the bits of another one
abbrev left_over : List ℕ → List ℕ → ℕ → ℕ
left_over a b k = bit_and (slice_index a k) (bit_not w64 (slice_index b k))

pub AreRowWords_left_over : (a b : List ℕ) → AreRowWords a → AreRowWords (four_words (left_over a b))
AreRowWords_left_over a b (_, in_a) =
    AreRowWords_four (left_over a b) (λ k. let least = and_le_l (slice_index a k) (bit_not w64 (slice_index b k)) in omega (arith, least, in_a k))

bit_and_not_test : (x y : ℕ) → x < 2 → y < 2 → nat_eq (min x (1 - y)) 1 ≡ (nat_eq x 1 && not (nat_eq y 1))
bit_and_not_test x y p q = grind (arith, nat_tests)

-- the set of what is left over is the difference
pub numbers_in_left_over :
    (a b : List ℕ) (s t : set.FinSet nat_cmp) → numbers_in a ≡ s → numbers_in b ≡ t → AreRowWords b
    → numbers_in (four_words (left_over a b)) ≡ set.difference s t
numbers_in_left_over a b s t is_s is_t (_, fits) =
    same_numbers _ _
    (λ q.
    contains_combined (λ x y. x && not y) a b (left_over a b) refl bits_left q
    ∙ sym (set.contains-difference nat_cmp_total (numbers_in a) (numbers_in b) q))
    ∙ (λ i. set.difference (is_s i) (is_t i))
  where
    bits_left :
        (k i : ℕ) → i < 64
        → nat_eq (bit_at (left_over a b k) i) 1 ≡ (nat_eq (bit_at (slice_index a k) i) 1 && not (nat_eq (bit_at (slice_index b k) i) 1))
    bits_left k i below =
        let x : ℕ = slice_index a k in
        let y : ℕ = slice_index b k in
        ap (λ bit. nat_eq bit 1) (bit_at_and x (bit_not w64 y) i ∙ ap (λ bit. min (bit_at x i) bit) (bit_at_not w64 y i (fits k) below))
        ∙ bit_and_not_test (bit_at x i) (bit_at y i) (bit_at-lt x i) (bit_at-lt y i)

-- ---- a number in both rows

-- the words of two rows, met by `&`
abbrev shared : List ℕ → List ℕ → ℕ → ℕ
shared a b k = bit_and (slice_index a k) (slice_index b k)

abbrev any_of_four : (ℕ → ℕ) → ℕ
any_of_four f = bit_or (bit_or (bit_or (f 0) (f 1)) (f 2)) (f 3)

each_of_none : (f : ℕ → ℕ) → any_of_four f ≡ 0 → (k : ℕ) → k < 4 → f k ≡ 0
each_of_none f none k within =
    let in_two = le_or_l (bit_or (f 0) (f 1)) (f 2) in
    let in_three = le_or_l (bit_or (bit_or (f 0) (f 1)) (f 2)) (f 3) in
    let first : f 0 ≡ 0 = omega (arith, le_or_l (f 0) (f 1)) in
    let second : f 1 ≡ 0 = omega (arith, le_or_r (f 0) (f 1)) in
    let third : f 2 ≡ 0 = omega (arith, le_or_r (bit_or (f 0) (f 1)) (f 2)) in
    let fourth : f 3 ≡ 0 = omega (arith, le_or_r (bit_or (bit_or (f 0) (f 1)) (f 2)) (f 3)) in
    sym (four_at f k within) ∙ (λ i. slice_index (first i ∷ second i ∷ third i ∷ fourth i ∷ []) k) ∙ four_at (λ _. 0) k within

some_of_four : (f : ℕ → ℕ) → any_of_four f ≢ 0 → (k : ℕ) × (k < 4) × (f k ≢ 0)
some_of_four f some =
    elim (cases_eq (f 0) 0) [
      | inr here ↦ (0, lit< tt, here)
      | inl none_0 ↦ elim (cases_eq (f 1) 0) [
        | inr here ↦ (1, lit< tt, here)
        | inl none_1 ↦ elim (cases_eq (f 2) 0) [
          | inr here ↦ (2, lit< tt, here)
          | inl none_2 ↦ elim (cases_eq (f 3) 0) [
            | inr here ↦ (3, lit< tt, here)
            | inl none_3 ↦ absurd (some (λ i. bit_or (bit_or (bit_or (none_0 i) (none_1 i)) (none_2 i)) (none_3 i)))
          ]
        ]
      ]
    ]

-- a bit in both words is a number in both sets
meets_at_word : (a b : List ℕ) (s t : set.FinSet nat_cmp) → numbers_in a ≡ s → numbers_in b ≡ t → AreRowWords a → (k : ℕ) → k < 4 → shared a b k ≢ 0 → Meets s t
meets_at_word a b s t is_s is_t (_, fits) k within some =
    let small = and_le_l (slice_index a k) (slice_index b k) in
    let fit = fits k in
    let lowest = bit_at-trailing_zeros w64 (shared a b k) (omega arith) (omega arith) in
    let i : ℕ = trailing_zeros w64 (shared a b k) in
    let low : i < 64 = lowest.0 in
    let both = bit_at_and (slice_index a k) (slice_index b k) i in
    let in_a = bit_at-lt (slice_index a k) i in
    let in_b = bit_at-lt (slice_index b k) i in
    let place : k * 64 + i < 256 = omega arith in (
      k * 64 + i,
      contains_is_in a s is_s (k * 64 + i) place ∙ is_in-at a k i low ∙ eq-eqb (bit_at (slice_index a k) i) 1 (omega (arith, lowest.1)),
      contains_is_in b t is_t (k * 64 + i) place ∙ is_in-at b k i low ∙ eq-eqb (bit_at (slice_index b k) i) 1 (omega (arith, lowest.1)),
    )

-- a number in both sets is a bit in both words
word_of_meets : (a b : List ℕ) (s t : set.FinSet nat_cmp) → numbers_in a ≡ s → numbers_in b ≡ t → (n : ℕ)
    → IsTrue (set.contains s n) → IsTrue (set.contains t n) → shared a b (n / 64) ≢ 0
word_of_meets a b s t is_s is_t n in_s in_t none =
    let below = numbers_in-below a s is_s n in_s in
    let x = eqb-true (bit_at (slice_index a (n / 64)) (n % 64)) 1 (sym (contains_is_in a s is_s n below) ∙ in_s) in
    let y = eqb-true (bit_at (slice_index b (n / 64)) (n % 64)) 1 (sym (contains_is_in b t is_t n below) ∙ in_t) in
    let both = bit_at_and (slice_index a (n / 64)) (slice_index b (n / 64)) (n % 64) in
    let zero_bit = ap (λ w. bit_at w (n % 64)) none ∙ bit_at-zero (n % 64) in
    omega arith

pub meets_iff : (a b : List ℕ) (s t : set.FinSet nat_cmp) → numbers_in a ≡ s → numbers_in b ≡ t → AreRowWords a
    → IsTrue (not (nat_eq (any_of_four (shared a b)) 0)) ↔ Meets s t
meets_iff a b s t is_s is_t words = (
  λ some. let found = some_of_four (shared a b) (eqb-false (any_of_four (shared a b)) 0 (not-true _ some)) in
      meets_at_word a b s t is_s is_t words found.0 found.1 found.2,
  λ (n, in_s, in_t). ap not (ne_eqb (any_of_four (shared a b)) 0
      (λ none. word_of_meets a b s t is_s is_t n in_s in_t
      (each_of_none (shared a b) none (n / 64) (div_below n 64 4 (lit< tt) (numbers_in-below a s is_s n in_s))))),
)

-- ---- the greatest number

-- the highest bit of a word
top_bit : (word j : ℕ) → 2 ^ j ≤ word → word < 2 ^ suc j → bit_at word j ≡ 1
top_bit word j least below =
    let double = pow-suc 2 j in
    let one = le-div 1 word (2 ^ j) (pow_pos j) (omega arith) in
    let two = div_below word (2 ^ j) 2 (pow_pos j) (omega arith) in
    omega arith

module _ (words : List ℕ) (s : set.FinSet nat_cmp) (is : numbers_in words ≡ s) (fit : AreRowWords words) where
  -- a number that is in is a bit of its word
  bit_of_number : (k : ℕ) → IsTrue (set.contains s k) → bit_at (slice_index words (k / 64)) (k % 64) ≡ 1
  bit_of_number k in_s = eqb-true _ 1 (sym (contains_is_in words s is k (numbers_in-below words s is k in_s)) ∙ in_s)

  pub no_number : ((k : ℕ) → slice_index words k ≡ 0) → s ≡ set.empty
  no_number none = same_numbers s set.empty
      (λ k. false_from_ne_true (set.contains s k)
      (λ in_s. omega (arith, bit_of_number k in_s, ap (λ w. bit_at w (k % 64)) (none (k / 64)), bit_at-zero (k % 64)))
      ∙ sym (set.contains-empty nat_cmp k))

  -- it is the highest bit of the last word that has one
  pub greatest_in_word : (i n : ℕ) → i < 4 → ((k : ℕ) → i < k → slice_index words k ≡ 0) → slice_index words i ≢ 0
      → n ≡ i * 64 + 63 - count_leading_zeros 64 (slice_index words i) → IsGreatest s n
  greatest_in_word i n within none some place =
      let word : ℕ = slice_index words i in
      let top = leading_top 64 word (omega arith) (fit.1 i) in
      let j : ℕ = top.0 in
      let at : n ≡ i * 64 + j = omega (arith, top.1) in
      let low : j < 64 = omega (arith, top.1) in (
        ap (set.contains s) at ∙ contains_is_in words s is (i * 64 + j) (omega arith) ∙ is_in-at words i j low
            ∙ eq-eqb (bit_at word j) 1 (top_bit word j top.2 top.3),
        λ k in_s. elim (cases_lt n k) [
          | inr most ↦ most
          | inl more ↦
              let bit = bit_of_number k in_s in
              elim (cases_eq (k / 64) i) [
                | inl same ↦ absurd (omega (arith, bit, ap (λ m. bit_at (slice_index words m) (k % 64)) same, bit_at_above word (suc j) (k % 64) top.3 (omega arith)))
                | inr other ↦ absurd (omega (arith, bit, ap (λ w. bit_at w (k % 64)) (none (k / 64) (omega arith)), bit_at-zero (k % 64)))
              ]
        ],
      )

-- ---- how many numbers

small_ones : (x : ℕ) → x < 2 → count_ones x ≡ cond (nat_eq (x % 2) 1) 1 0
small_ones zero below = omega (arith, ones-le 0 0 (lit< tt))
small_ones (suc zero) below = ones-ones 1
small_ones (suc (suc x)) below = absurd (omega arith)

ones-count : (w x : ℕ) → x < 2 ^ w → count_ones x ≡ count_below w (λ b. nat_eq (bit_at x b) 1)
unfolding count_below
ones-count zero x below = omega (arith, ones-le 0 x below)
ones-count (suc w) x below =
    let split = shr_split x w in
    let low : x % 2 ^ w < 2 ^ w = mod_below x (2 ^ w) (pow_pos w) in
    let double = pow-suc 2 w in
    let high : x / 2 ^ w < 2 = div_below x (2 ^ w) 2 (pow_pos w) (omega arith) in
    ap count_ones (sym split) ∙ ones_cat w (x / 2 ^ w) (x % 2 ^ w) low
    ∙ add_comm (count_ones (x / 2 ^ w)) (count_ones (x % 2 ^ w))
    ∙ (λ i. (ones-count w (x % 2 ^ w) low ∙ count_below-same w _ _
    (λ b h. ap (λ t. nat_eq t 1) (sym (bit_at_cat_low (x / 2 ^ w) w (x % 2 ^ w) b h)
    ∙ ap (λ y. bit_at y b) split))) i + small_ones (x / 2 ^ w) high i)

ones_of_word : (words : List ℕ) → AreRowWords words → (k : ℕ) → count_below 64 (λ b. is_in words (k * 64 + b)) ≡ count_ones (slice_index words k)
ones_of_word words (_, below) k =
    count_below-same 64 _ _ (λ b h. is_in-at words k b h) ∙ sym (ones-count 64 (slice_index words k) (below k))

pub ones_of_words : (words : List ℕ) (s : set.FinSet nat_cmp) → numbers_in words ≡ s → AreRowWords words
    → count_ones (slice_index words 0) + count_ones (slice_index words 1) + count_ones
    (slice_index words 2) + count_ones (slice_index words 3) ≡ count_below 256 (set.contains s)
ones_of_words words s is fit =
    let word = ones_of_word words fit in
    let p = is_in words in
    let first : count_below 64 p ≡ count_ones (slice_index words 0) = count_below-same 64 p (λ b. p (0 + b)) (λ b h. ap p (sym (zero-add b))) ∙ word 0 in
    (λ i. sym first i + sym (word 1) i + sym (word 2) i + sym (word 3) i)
    ∙ ap (λ x. x + count_below 64 (λ b. p (128 + b)) + count_below 64 (λ b. p (192 + b))) (sym (count_below-add 64 64 p))
    ∙ ap (λ x. x + count_below 64 (λ b. p (192 + b))) (sym (count_below-add 128 64 p))
    ∙ sym (count_below-add 192 64 p)
    ∙ count_below-same 256 p (set.contains s) (λ n h. sym (contains_is_in words s is n h))
