-- For every reader: the calls that a list has since a moment, and that none of them is a write.
use Rattle.std.specs.Prelude.{ℕ, List, Contains, drop, length}
use Rattle.ci_io.specs.CallLists.{Call, Outcome, write}

-- What a list of calls has behind those that it had before: the calls since then. That the list before is the front of
-- the list after is said beside it, by `AreMade` and `ArePut`.
abbrev pub since : (before after : List Call) → List Call
since before after = drop (length before) after

-- none of the calls is a write
abbrev pub HasNoWrite : List Call → Type 0
HasNoWrite calls = (name bytes : List ℕ) (outcome : Outcome) → ¬ Contains calls (write name bytes outcome)
