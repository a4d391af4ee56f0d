-- For every reader: the calls by which a success ends, over every shelf and every sink: its files are written, in
-- order, and then one text is put.
use Rattle.std.specs.Prelude.{◌≡◌, ◌≢◌, ℕ, ◌⊎◌, List, [], ◌∷◌, ◌++◌, Ok, Err}
use Rattle.ci_io.specs.declared.shelves.ShelfErr.TheVariants as shelf
use Rattle.ci_io.specs.declared.sinks.SinkErr.TheVariants as sink
use Rattle.ci_io.specs.CallLists.{Call, PutOutcome, write, put}
use Rattle.ci_calls.specs.declared.refusals.Refusal.{Refusal}
use Rattle.ci_calls.specs.declared.refusals.Refusal.TheVariants.{Write, Put, NoMemory}
use Rattle.ci_calls.specs.declared.success.Success.{Success}
use Rattle.ci_calls.specs.declared.success.Written.{Written}
use Rattle.ci_calls.specs.Refusals.{status_of, line_of}

-- ---- writes

-- one whole write for each file, in order
abbrev pub writes_of : List Written → List Call
writes_of [] = []
writes_of (file ∷ files) = write file.name.now file.bytes.items (Ok tt) ∷ writes_of files

-- the write of a file that ran out of memory: none was made, or one that answered so
abbrev pub IsWriteWithoutMemory : Written → List Call → Type 0
IsWriteWithoutMemory file calls =
    (calls ≡ []) ⊎ (calls ≡ write file.name.now file.bytes.items (Err shelf.NoMemory) ∷ [])

-- ---- puts

-- one put of these bytes, whatever comes of it
abbrev pub IsBytesPut : List ℕ → List Call → Type 0
IsBytesPut bytes puts = (outcome : PutOutcome) × (puts ≡ put bytes outcome ∷ [])

-- one put of the line of a refusal
abbrev pub IsLinePut : Refusal → List Call → Type 0
IsLinePut refusal puts = IsBytesPut (line_of refusal) puts

-- the line of the refusal was put, with its status; or memory ran out for the line, and then that is the refusal
abbrev pub PutsRefusal : Refusal → List Call → ℕ → Type 0
PutsRefusal refusal puts status =
    ((status ≡ status_of refusal) × IsLinePut refusal puts) ⊎ ((status ≡ status_of NoMemory) × IsLinePut NoMemory puts)

-- the text of success was taken; none is put where it is empty
abbrev pub IsTextTaken : List ℕ → List Call → Type 0
IsTextTaken text puts = ((text ≡ []) × (puts ≡ [])) ⊎ ((text ≢ []) × (puts ≡ put text (Ok tt) ∷ []))

-- How a text of success is put, by the status: it is taken; or its put failed or ran out of memory, and a line follows.
pub data PutsText (text : List ℕ) : List Call → ℕ → Type 0 where
  taken : (puts : List Call) → IsTextTaken text puts → PutsText text puts 0
  put_failed :
      (line : List Call) → text ≢ [] → IsLinePut Put line →
      PutsText text (put text (Err sink.Fault) ∷ line) (status_of Put)
  no_memory :
      (line : List Call) → text ≢ [] → IsLinePut NoMemory line →
      PutsText text (put text (Err sink.NoMemory) ∷ line) (status_of NoMemory)

-- ---- from a success to the end of the call

-- The calls of a success, by its status: all files are written, and the text is put; or a write failed, and the line
-- that names it is put; or memory ran out for a write.
pub data FinishesBy (success : Success) : List Call → List Call → ℕ → Type 0 where
  all_written :
      (puts : List Call) (status : ℕ) → PutsText success.text.items puts status →
      FinishesBy success (writes_of success.writes.items) puts status
  write_failed :
      (front others : List Written) (failed : Written) (puts : List Call) →
      success.writes.items ≡ front ++ failed ∷ others → IsLinePut (Write failed.name) puts →
      FinishesBy success (writes_of front ++ write failed.name.now failed.bytes.items (Err shelf.Fault) ∷ []) puts
      (status_of (Write failed.name))
  no_memory :
      (front others : List Written) (failed : Written) (last : List Call) (puts : List Call) →
      success.writes.items ≡ front ++ failed ∷ others → IsWriteWithoutMemory failed last → IsLinePut NoMemory puts →
      FinishesBy success (writes_of front ++ last) puts (status_of NoMemory)
