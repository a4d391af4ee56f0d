-- Sets of numbers, as finite sets and as tests, and what is counted over the numbers below a bound.
use Rattle.std.specs.Prelude.{ℕ, suc, zero, ◌+◌, ◌≤◌, Bool, false, ◌||◌, if◌then◌else◌, List, [], ◌∷◌, ◌++◌, IsTrue}
use Rattle.std.specs.Ordering.{nat_cmp}
use Rattle.std.specs.FinSet as set

-- the numbers below n that pass the test, in ascending order
unfoldable pub numbers_below : ℕ → (ℕ → Bool) → List ℕ
numbers_below zero p = []
numbers_below (suc n) p = numbers_below n p ++ (if p n then n ∷ [] else [])

-- how many numbers below n pass the test
unfoldable pub count_below : ℕ → (ℕ → Bool) → ℕ
count_below zero p = 0
count_below (suc n) p = count_below n p + (if p n then 1 else 0)

-- the sum of f over the numbers below n that pass the test
unfoldable pub sum_below : ℕ → (ℕ → Bool) → (ℕ → ℕ) → ℕ
sum_below zero p f = 0
sum_below (suc n) p f = sum_below n p f + (if p n then f n else 0)

-- some number below n passes the test
unfoldable pub some_below : ℕ → (ℕ → Bool) → Bool
some_below zero p = false
some_below (suc n) p = some_below n p || p n

-- the set of the numbers below n that pass the test
abbrev pub set_below : ℕ → (ℕ → Bool) → set.FinSet nat_cmp
set_below n p = set.from_list (numbers_below n p)

-- a number is in both sets
abbrev pub Meets : set.FinSet nat_cmp → set.FinSet nat_cmp → Type 0
Meets s t = (n : ℕ) × IsTrue (set.contains s n) × IsTrue (set.contains t n)

-- the number is in the set, and no greater one is
abbrev pub IsGreatest : set.FinSet nat_cmp → ℕ → Type 0
IsGreatest s n = IsTrue (set.contains s n) × ((k : ℕ) → IsTrue (set.contains s k) → k ≤ n)
