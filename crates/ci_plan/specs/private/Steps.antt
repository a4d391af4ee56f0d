-- For private contracts: what the steps of a plan make, over the words of the plan.
use Rattle.std.specs.Prelude.{ℕ, ◌+◌, ◌-◌, ◌*◌, ◌/◌, ◌%◌, ◌^◌, ◌<◌, ◌≤◌, ◌==◌, if◌then◌else◌, nat_lt, List, [], ◌∷◌}
use Rattle.std.specs.Prelude.{bit_and, bit_or, bit_xor, slice_index, slice_set}
use Rattle.ci_plan.specs.declared.steps.Step.{Step}
use Rattle.ci_plan.specs.declared.steps.Step.TheVariants.{Plus, Minus, Times, And, Or, Xor, Left, Right, LeftBy, RightBy}
use Rattle.ci_plan.specs.declared.steps.Step.TheVariants.{Less, Choose, Part, Above, Signed, SignedTimes, High, SignedHigh, Turn, TimesPlus}

-- its places are those of so many words, and its widths those of words
abbrev pub IsStep : ℕ → Step → Type 0
IsStep n (Plus l r width) = (l < n) × (r < n) × (width ≤ 64)
IsStep n (Minus l r width) = (l < n) × (r < n) × (width ≤ 64)
IsStep n (Times l r width) = (l < n) × (r < n) × (width ≤ 64)
IsStep n (And l r) = (l < n) × (r < n)
IsStep n (Or l r) = (l < n) × (r < n)
IsStep n (Xor l r) = (l < n) × (r < n)
IsStep n (Left l r width) = (l < n) × (r < n) × (width ≤ 64)
IsStep n (Right l r) = (l < n) × (r < n)
IsStep n (LeftBy from amount width) = (from < n) × (width ≤ 64)
IsStep n (RightBy from amount) = from < n
IsStep n (Less l r) = (l < n) × (r < n)
IsStep n (Choose test first second) = (test < n) × (first < n) × (second < n)
IsStep n (Part from low width) = from < n
IsStep n (Above high low width) = (high < n) × (low < n)
IsStep n (Signed from) = from < n
IsStep n (SignedTimes l r) = (l < n) × (r < n)
IsStep n (High l r) = (l < n) × (r < n)
IsStep n (SignedHigh l r) = (l < n) × (r < n)
IsStep n (Turn l r amount) = (l < n) × (r < n) × (amount ≤ 32)
IsStep n (TimesPlus l r more) = (l < n) × (r < n) × (more < n)

-- a word of 32 bits, widened to 64 by its sign
abbrev pub signed_word : ℕ → ℕ
signed_word n = (n + n / 2 ^ 31 % 2 * (2 ^ 64 - 2 ^ 32)) % 2 ^ 64

module _ (words : List ℕ) where
  -- the word that the step makes, where a sum, a difference and a product are those of words of 64 bits
  abbrev pub step_value : Step → ℕ
  step_value (Plus l r width) = (slice_index words l + slice_index words r) % 2 ^ 64 % 2 ^ width
  step_value (Minus l r width) = (slice_index words l + 2 ^ 64 - slice_index words r) % 2 ^ 64 % 2 ^ width
  step_value (Times l r width) = slice_index words l * slice_index words r % 2 ^ 64 % 2 ^ width
  step_value (And l r) = bit_and (slice_index words l) (slice_index words r)
  step_value (Or l r) = bit_or (slice_index words l) (slice_index words r)
  step_value (Xor l r) = bit_xor (slice_index words l) (slice_index words r)
  step_value (Left l r width) = slice_index words l * 2 ^ slice_index words r % 2 ^ width
  step_value (Right l r) = slice_index words l / 2 ^ slice_index words r
  step_value (LeftBy from amount width) = slice_index words from * 2 ^ amount % 2 ^ width
  step_value (RightBy from amount) = slice_index words from / 2 ^ amount
  step_value (Less l r) = if nat_lt (slice_index words l) (slice_index words r) then 1 else 0
  step_value (Choose test first second) =
      if slice_index words test == 0 then slice_index words second else slice_index words first
  step_value (Part from low width) = slice_index words from / 2 ^ low % 2 ^ width
  step_value (Above high low width) =
      (slice_index words high * 2 ^ width % 2 ^ 64 + slice_index words low) % 2 ^ 64
  step_value (Signed from) = signed_word (slice_index words from)
  step_value (SignedTimes l r) = signed_word (slice_index words l) * signed_word (slice_index words r) % 2 ^ 64
  step_value (High l r) = slice_index words l * slice_index words r % 2 ^ 64 / 2 ^ 32 % 2 ^ 32
  step_value (SignedHigh l r) =
      signed_word (slice_index words l) * signed_word (slice_index words r) % 2 ^ 64 / 2 ^ 32 % 2 ^ 32
  step_value (Turn l r amount) = bit_or (slice_index words l * 2 ^ amount % 2 ^ 32) (slice_index words r / 2 ^ (32 - amount))
  step_value (TimesPlus l r more) =
      (slice_index words l * slice_index words r % 2 ^ 64 % 2 ^ 32 + slice_index words more) % 2 ^ 64 % 2 ^ 32

-- the words after the steps, of which the first one puts its word at this place, and each other one behind
abbrev pub words_after : List ℕ → ℕ → List Step → List ℕ
words_after words place [] = words
words_after words place (step ∷ steps) = words_after (slice_set words place (step_value words step)) (place + 1) steps
