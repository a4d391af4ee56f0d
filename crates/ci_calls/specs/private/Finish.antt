-- For private contracts: the steps from a success to the end of the call.
use Rattle.std.specs.Prelude.{◌≡◌, ◌≢◌, ℕ, ◌≤◌, Bool, IsTrue, List, [], ◌∷◌, ◌++◌, Option, Err, take}
use Rattle.std.specs.Option.{option_map}
use Rattle.std.specs.String.{string_bytes}
use Rattle.ci_io.specs.declared.shelves.ShelfErr.TheVariants as shelf
use Rattle.ci_io.specs.CallLists.{Call, write}
use Rattle.ci_io.specs.Outcomes.{Rises, ShelfState, SinkState, with_file}
use Rattle.ci_calls.specs.declared.finishing.WriteErr.{WriteErr}
use Rattle.ci_calls.specs.declared.finishing.WriteErr.TheVariants as unwritten
use Rattle.ci_calls.specs.declared.refusals.Refusal.TheVariants.{Write, Put, NoMemory}
use Rattle.ci_calls.specs.declared.success.Written.{Written}
use Rattle.ci_calls.specs.Called.{IsWriteWithoutMemory, writes_of}
use Rattle.ci_calls.specs.Finishing.{Takes, NeverFalls, IsPut, AreWritten}
use Rattle.ci_calls.specs.Refusals.{status_of, line_of}

-- Why a file was not written: its write failed, and this is the refusal that names it, with its fault line; or memory
-- ran out.
abbrev pub IsUnwrittenFile : (List ℕ → Bool) → Written → ShelfState → ShelfState → WriteErr → Type 0
IsUnwrittenFile may_fail file before after (unwritten.Fault refusal line) =
    (content : Option (List ℕ)) × (after.files ≡ option_map (with_file file.name.now content) before.files)
    × IsTrue (may_fail file.name.now) × Rises before.write_faults after.write_faults
    × (refusal ≡ Write file.name) × (string_bytes line ≡ line_of refusal)
IsUnwrittenFile may_fail file before after unwritten.NoMemory = after.files ≡ before.files

-- the same of the first of several files that was not written
pub record AreUnwritten
    (may_fail : List ℕ → Bool) (writes : List Written) (before after : ShelfState) (error : WriteErr) : Type 0 where
  pub front : List Written
  pub failed : Written
  pub others : List Written
  pub in_order : writes ≡ front ++ failed ∷ others
  pub between : ShelfState
  pub front_written : AreWritten before between front
  pub never_falls : before.write_faults ≤ between.write_faults
  pub unwritten : IsUnwrittenFile may_fail failed between after error

-- The text of success was taken; or its put failed or ran out of memory, and then the fault line was put.
pub data IsTextPut (text : List ℕ) (before after : SinkState) : ℕ → Type 0 where
  taken : Takes before after text → IsTextPut text before after 0
  fault :
      text ≢ [] → (between : SinkState) → NeverFalls before between → Rises before.faults between.faults →
      (n : ℕ) × Takes before between (take n text) → IsPut between after (line_of Put) →
      IsTextPut text before after (status_of Put)
  no_memory :
      text ≢ [] → (between : SinkState) → NeverFalls before between →
      Rises before.memory_faults between.memory_faults →
      between.taken ≡ before.taken →
      IsPut between after (line_of NoMemory) → IsTextPut text before after (status_of NoMemory)

-- ---- by the calls

-- why a file was not written
abbrev pub IsNotWritten : Written → List Call → WriteErr → Type 0
IsNotWritten file calls (unwritten.Fault refusal line) =
    (calls ≡ write file.name.now file.bytes.items (Err shelf.Fault) ∷ [])
    × (refusal ≡ Write file.name) × (string_bytes line ≡ line_of refusal)
IsNotWritten file calls unwritten.NoMemory = IsWriteWithoutMemory file calls

-- the same of the first of several files that was not written
pub record AreNotWritten (writes : List Written) (calls : List Call) (error : WriteErr) : Type 0 where
  pub front : List Written
  pub failed : Written
  pub others : List Written
  pub in_order : writes ≡ front ++ failed ∷ others
  pub last : List Call
  pub calls_are : calls ≡ writes_of front ++ last
  pub unwritten : IsNotWritten failed last error
