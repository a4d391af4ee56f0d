-- The numbers that a seed gives: those of a linear congruential generator (D. H. Lehmer, Mathematical Methods in
-- Large-Scale Computing Units, 1951), with the multiplier and the increment of Numerical Recipes (W. H. Press and
-- others, 2nd edition, section 7.1).
use Rattle.std.specs.Prelude.{ℕ, zero, suc, ◌+◌, ◌*◌, ◌/◌, ◌%◌, ◌^◌}

-- the state behind a state
abbrev pub following : ℕ → ℕ
following state = (state * 1664525 + 1013904223) % 2 ^ 32

-- state n of a seed, which itself is state 0
unfoldable pub state_of : (seed n : ℕ) → ℕ
state_of seed zero = seed
state_of seed (suc n) = following (state_of seed n)

-- draw n of a seed, from 0 on: the upper half of the state behind state n
abbrev pub draw : (seed n : ℕ) → ℕ
draw seed n = state_of seed (suc n) / 65536
