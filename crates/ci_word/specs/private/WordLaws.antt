-- For private contracts: what the bits of words say of the set that the words hold.
use Rattle.std.specs.Prelude.{◌≡◌, ℕ, suc, zero, ◌+◌, ◌-◌, ◌*◌, ◌^◌, ◌<◌, Bool, true, false, ◌&&◌, nat_lt, nat_eq}
use Rattle.std.specs.Prelude.{if◌then◌else◌, List, [], ◌∷◌, length, slice_index}
use Rattle.std.specs.FinSet as set
use Rattle.std.specs.Int.{bit_at}
use Rattle.std.proofs.Common.{refl, ap, ◌∙◌, inl, inr, arith, le_refl, pow-suc, lit<}
use Rattle.std.proofs.lemmas.Bool.{lt-ltb, cases_lt, cond_both}
use Rattle.std.proofs.lemmas.Nat.{div-mul-add, mod-mul-add}
use Rattle.std.proofs.lemmas.Nat.Bits.{bit_at-lt, bit_at_cat_low, bit_at_cat_high, same_from_bits_below}
use Rattle.ci_word.specs.private.SetLaws.{contains-set_below}
use Rattle.ci_word.specs.private.Words.{is_in, numbers_in, AreRowWords, number_of, words_of}

-- ---- a number made of its bits

number_of-lt : (w : ℕ) (p : ℕ → Bool) → number_of w p < 2 ^ w
unfolding number_of
number_of-lt zero p = omega arith
number_of-lt (suc w) p =
    let rest = number_of-lt w p in
    let double = pow-suc 2 w in
    cond_both (p w) 1 0 (λ bit. bit * 2 ^ w + number_of w p < 2 ^ suc w) (λ _. omega arith) (λ _. omega arith)

minus_itself : (w : ℕ) → w - w ≡ 0
minus_itself w = omega arith

bit_at_top : (w : ℕ) (b : Bool) (rest : ℕ) → rest < 2 ^ w
    → bit_at ((if b then 1 else 0) * 2 ^ w + rest) w ≡ (if b then 1 else 0)
bit_at_top w b rest below = bit_at_cat_high (if b then 1 else 0) w rest w below (le_refl w)
    ∙ ap (bit_at (if b then 1 else 0)) (minus_itself w) ∙ lowest b
  where
    lowest : (b : Bool) → bit_at (if b then 1 else 0) 0 ≡ (if b then 1 else 0)
    lowest true = refl
    lowest false = refl

pub bit_at-number_of : (w : ℕ) (p : ℕ → Bool) (i : ℕ) → i < w → bit_at (number_of w p) i ≡ (if p i then 1 else 0)
unfolding number_of
bit_at-number_of zero p i below = absurd (omega arith)
bit_at-number_of (suc w) p i below =
    elim (cases_lt i w) [
      | inl low ↦ bit_at_cat_low (if p w then 1 else 0) w (number_of w p) i low ∙ bit_at-number_of w p i low
      | inr high ↦ let last : i ≡ w = omega arith in rw last (bit_at_top w (p w) (number_of w p) (number_of-lt w p))
    ]

bit_as_test : (x : ℕ) → x < 2 → (if nat_eq x 1 then 1 else 0) ≡ x
bit_as_test zero below = refl
bit_as_test (suc zero) below = refl
bit_as_test (suc (suc x)) below = absurd (omega arith)

-- the number whose bits are those of a word is the word
number_of_bits : (x : ℕ) (p : ℕ → Bool) → x < 2 ^ 64 → ((i : ℕ) → i < 64 → p i ≡ nat_eq (bit_at x i) 1)
    → number_of 64 p ≡ x
number_of_bits x p below same =
    same_from_bits_below 64 _ _ (number_of-lt 64 p) below
    (λ i h. bit_at-number_of 64 p i h ∙ ap (λ b. if b then 1 else 0) (same i h)
    ∙ bit_as_test (bit_at x i) (bit_at-lt x i))

-- ---- the words of a set

pub contains-numbers_in : (words : List ℕ) (n : ℕ) → set.contains (numbers_in words) n ≡ (nat_lt n 256 && is_in words n)
contains-numbers_in words n = contains-set_below 256 (is_in words) n

-- bit b of word k
pub is_in-at : (words : List ℕ) (k b : ℕ) → b < 64
    → is_in words (k * 64 + b) ≡ nat_eq (bit_at (slice_index words k) b) 1
is_in-at words k b below = rw (div-mul-add k 64 b below, mod-mul-add k 64 b below)

-- the word that the set gives is the word that gave it
word_of_set : (words : List ℕ) (k : ℕ) → k < 4 → slice_index words k < 2 ^ 64
    → number_of 64 (λ b. set.contains (numbers_in words) (k * 64 + b)) ≡ slice_index words k
word_of_set words k within below =
    number_of_bits _ _ below
    (λ b h.
    contains-numbers_in words (k * 64 + b)
    ∙ ap (λ t. t && is_in words (k * 64 + b)) (lt-ltb (k * 64 + b) 256 (omega arith))
    ∙ is_in-at words k b h)

four_items : (words : List ℕ) → length words ≡ 4
    → slice_index words 0 ∷ slice_index words 1 ∷ slice_index words 2 ∷ slice_index words 3 ∷ [] ≡ words
four_items [] four = absurd (omega arith)
four_items (a ∷ []) four = absurd (omega arith)
four_items (a ∷ b ∷ []) four = absurd (omega arith)
four_items (a ∷ b ∷ c ∷ []) four = absurd (omega arith)
four_items (a ∷ b ∷ c ∷ d ∷ []) four = refl
four_items (a ∷ b ∷ c ∷ d ∷ e ∷ more) four = absurd (omega arith)

-- the words give the set, and the set gives the words
pub words_of-numbers_in : (words : List ℕ) → AreRowWords words → words_of (numbers_in words) ≡ words
words_of-numbers_in words (four, below) =
    let word = λ (k : ℕ) (within : k < 4). word_of_set words k within (below k) in
    (λ i. word 0 (lit< tt) i ∷ word 1 (lit< tt) i ∷ word 2 (lit< tt) i ∷ word 3 (lit< tt) i ∷ [])
    ∙ four_items words four
