-- Counts of calls and of faults.
use Rattle.std.specs.Prelude.{ℕ, ◌+◌, ◌-◌, ◌^◌, min, List, Contains}

-- One more, in a counter of 64 bits that stays at its last value.
abbrev pub raised : ℕ → ℕ
raised n = min (n + 1) (2 ^ 64 - 1)

-- how many calls were made, and the numbers of the calls that are to fail; the first call has number 1
pub record CallsMade : Type 0 where
  pub made : ℕ
  pub failing : List ℕ

-- the next call is to fail
abbrev pub IsNextToFail : CallsMade → Type 0
IsNextToFail calls = Contains calls.failing (raised calls.made)

-- after the next call
abbrev pub one_more_call : CallsMade → CallsMade
one_more_call calls = record calls { made = raised calls.made }
