-- For every reader: the calls that were made on a shelf, and on a sink.
use Rattle.std.specs.Prelude.{ℕ, List, Result, Vec, Ok, Err}
use Rattle.std.specs.declared.alloc.Global.{Global}
use Rattle.ci_io.specs.declared.shelves.ShelfErr.{ShelfErr}
use Rattle.ci_io.specs.declared.sinks.SinkErr.{SinkErr}

-- what a read answered: the bytes, or why there are none
abbrev pub Answer : Type 0
Answer = Result (List ℕ) ShelfErr

-- what a write answered
abbrev pub Outcome : Type 0
Outcome = Result (Unit {0}) ShelfErr

-- what a put answered
abbrev pub PutOutcome : Type 0
PutOutcome = Result (Unit {0}) SinkErr

-- a call, with its arguments and what it answered: of `read` or `write` of a shelf, or of `put` of a sink
pub data Call : Type 0 where
  read : (name : List ℕ) (limit : ℕ) (answer : Answer) → Call
  write : (name bytes : List ℕ) (outcome : Outcome) → Call
  put : (bytes : List ℕ) (outcome : PutOutcome) → Call

-- the answer of a read, by its bytes
abbrev pub answer_of : Result (Vec ℕ Global) ShelfErr → Answer
answer_of (Ok bytes) = Ok bytes.items
answer_of (Err error) = Err error
