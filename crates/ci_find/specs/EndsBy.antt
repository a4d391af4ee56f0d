-- For every reader: how a call of the program ends, over every shelf and every sink: by the calls that it made on them.
use Rattle.std.specs.Prelude.{◌≡◌, ◌≢◌, ℕ, ◌⊎◌, ⊤, List, [], ◌++◌, Contains, Ok, Err}
use Rattle.ci_io.specs.declared.shelves.ShelfErr.TheVariants as shelf
use Rattle.ci_io.specs.declared.sinks.SinkErr.TheVariants as sink
use Rattle.ci_io.specs.CallLists.{Call, Outcome, write, put}
use Rattle.ci_arguments.specs.Words.{Reading, ReadsAs, HasNoReading}
use Rattle.ci_calls.specs.declared.refusals.Refusal.{Refusal}
use Rattle.ci_calls.specs.declared.refusals.Refusal.TheVariants.{Usage, Write, NoMemory}
use Rattle.ci_calls.specs.declared.success.Success.{Success}
use Rattle.ci_calls.specs.declared.success.Written.{Written}
use Rattle.ci_calls.specs.Called.{FinishesBy, IsLinePut, PutsRefusal}
use Rattle.ci_calls.specs.Reads.{AreFit, AreStoppedReads, reads_of}
use Rattle.ci_calls.specs.Refusals.{status_of}
use Rattle.ci_find.specs.Commands.{inputs_of, IsMade, IsRefusedOf}
use Rattle.ci_find.specs.SinceCalls.{HasNoWrite}

-- ---- what is due

module _ (words : List (List ℕ)) where
  -- The success that is due to what these reads answered: they are the reads of all files of the words' command, in
  -- order, nothing is wrong with the bytes, and the command makes the success of them.
  pub record IsDueBy (reads : List Call) (success : Success) : Type 0 where
    pub reading : Reading
    pub reads_as : ReadsAs words reading
    pub answered : List (List ℕ)
    pub fit : AreFit (inputs_of reading) answered
    pub reads_are : reads ≡ reads_of (inputs_of reading) answered
    pub made : IsMade reading answered success

  -- The refusal that is due to what these reads answered: the words have no reading, and nothing is read; or not all
  -- files of their command are read; or the command refuses their bytes; or memory ran out for the words.
  pub data IsRefusalBy : List Call → Refusal → Type 0 where
    usage : HasNoReading words → IsRefusalBy [] Usage
    unread :
        (reading : Reading) (reads : List Call) (refusal : Refusal) → ReadsAs words reading →
        AreStoppedReads (inputs_of reading) reads refusal → IsRefusalBy reads refusal
    once_read :
        (reading : Reading) (answered : List (List ℕ)) (reads : List Call) (refusal : Refusal) →
        ReadsAs words reading → AreFit (inputs_of reading) answered →
        reads ≡ reads_of (inputs_of reading) answered → IsRefusedOf reading answered refusal →
        IsRefusalBy reads refusal
    no_memory : IsRefusalBy [] NoMemory

-- ---- how a call ends

-- By the calls on the shelf, those on the sink, and the status: reads, and then the writes and the puts of the success
-- that is due to what they answered; or reads, and then the put of the line of the refusal that is due to that.
pub data EndsBy (words : List (List ℕ)) : (calls puts : List Call) → ℕ → Type 0 where
  finished :
      (reads writes puts : List Call) (status : ℕ) (success : Success) → IsDueBy words reads success →
      FinishesBy success writes puts status → EndsBy words (reads ++ writes) puts status
  refused :
      (reads puts : List Call) (status : ℕ) (refusal : Refusal) → IsRefusalBy words reads refusal →
      PutsRefusal refusal puts status → EndsBy words reads puts status

-- ---- what follows from that

-- A call of another status than 0 and 12 has a cause: its status is that of the refusal that is due to what its reads
-- answered; or a write of success failed, or the put of its text.
abbrev pub HasCause : List (List ℕ) → (calls puts : List Call) → ℕ → Type 0
HasCause words calls puts status =
    status ≢ 0 → status ≢ 12 →
    ((refusal : Refusal) × IsRefusalBy words calls refusal × (status ≡ status_of refusal))
    ⊎ ((name : List ℕ) × (bytes : List ℕ) × Contains calls (write name bytes (Err shelf.Fault)))
    ⊎ ((text : List ℕ) × Contains puts (put text (Err sink.Fault)))

-- A call of this status writes nothing, unless it is that of success, of a write or a put that failed, or of want of
-- memory.
abbrev pub StaysBy : List Call → ℕ → Type 0
StaysBy calls status = status ≢ 0 → status ≢ 3 → status ≢ 12 → HasNoWrite calls

-- How the write of a file comes out: it is done; or it fails, and status and fault line say so; or memory runs out, and
-- the status says so.
abbrev pub ComesOut : Written → (puts : List Call) → (status : ℕ) → Outcome → Type 0
ComesOut file puts status (Ok done) = ⊤
ComesOut file puts status (Err shelf.Fault) = (status ≡ 3) × IsLinePut (Write file.name) puts
ComesOut file puts status (Err shelf.NoMemory) = status ≡ 12
ComesOut file puts status (Err error) = ⊥

-- A write that a call made is of a file of the success that is due to what the reads before it answered, with all the
-- bytes of the file.
pub record IsLeftBy (words : List (List ℕ)) (calls puts : List Call) (status : ℕ) (name bytes : List ℕ)
    (outcome : Outcome) : Type 0 where
  pub reads : List Call
  pub writes : List Call
  pub calls_are : calls ≡ reads ++ writes
  pub success : Success
  pub due : IsDueBy words reads success
  pub file : Written
  pub of_success : Contains success.writes.items file
  pub name_is : name ≡ file.name.now
  pub bytes_are : bytes ≡ file.bytes.items
  pub comes_out : ComesOut file puts status outcome

-- so it is of each write that a call made
abbrev pub AreLeftBy : List (List ℕ) → (calls puts : List Call) → ℕ → Type 0
AreLeftBy words calls puts status =
    (name bytes : List ℕ) (outcome : Outcome) → Contains calls (write name bytes outcome)
    → IsLeftBy words calls puts status name bytes outcome
