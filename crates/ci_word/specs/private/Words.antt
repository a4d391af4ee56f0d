-- For private contracts: a set of numbers below 256 as the bits of four words of 64, for the model of `Row`.
use Rattle.std.specs.Prelude.{◌≡◌, ℕ, suc, zero, ◌+◌, ◌*◌, ◌/◌, ◌%◌, ◌^◌, ◌<◌, Bool, nat_eq, if◌then◌else◌, List, []}
use Rattle.std.specs.Prelude.{◌∷◌, length, slice_index}
use Rattle.std.specs.Ordering.{nat_cmp}
use Rattle.std.specs.FinSet as set
use Rattle.std.specs.Int.{bit_at}
use Rattle.ci_word.specs.Numbers.{set_below}

-- number n is bit n % 64 of word n / 64
abbrev pub is_in : List ℕ → ℕ → Bool
is_in words n = nat_eq (bit_at (slice_index words (n / 64)) (n % 64)) 1

-- the numbers that the words hold
abbrev pub numbers_in : List ℕ → set.FinSet nat_cmp
numbers_in words = set_below 256 (is_in words)

-- four words of 64 bits
abbrev pub AreRowWords : List ℕ → Type 0
AreRowWords words = (length words ≡ 4) × ((k : ℕ) → slice_index words k < 2 ^ 64)

-- the number whose bits below w are those that pass the test
unfoldable pub number_of : ℕ → (ℕ → Bool) → ℕ
number_of zero p = 0
number_of (suc w) p = (if p w then 1 else 0) * 2 ^ w + number_of w p

-- the values of f at the four words
abbrev pub four_words : (ℕ → ℕ) → List ℕ
four_words f = f 0 ∷ f 1 ∷ f 2 ∷ f 3 ∷ []

-- the words that hold a set of numbers below 256
abbrev pub words_of : set.FinSet nat_cmp → List ℕ
words_of s = four_words (λ k. number_of 64 (λ b. set.contains s (k * 64 + b)))
