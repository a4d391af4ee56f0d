-- For every reader: how a call of the program ends, by its status, what the sink took, and the files of the shelf.
use Rattle.std.specs.Prelude.{◌≡◌, ℕ, ◌⊎◌, IsTrue, List, [], Option, Some, IfSome, Contains, take}
use Rattle.std.specs.FinMap as map
use Rattle.ci_io.specs.Outcomes.{Files, Rises, SinkState}
use Rattle.ci_arguments.specs.Words.{Reading, ReadsAs, HasNoReading}
use Rattle.ci_calls.specs.declared.refusals.Refusal.{Refusal}
use Rattle.ci_calls.specs.declared.refusals.Refusal.TheVariants.{Usage, Read, Write, Put, NoMemory}
use Rattle.ci_calls.specs.declared.success.Success.{Success}
use Rattle.ci_calls.specs.declared.success.Written.{Written}
use Rattle.ci_calls.specs.Evaluations.{Evaluates}
use Rattle.ci_calls.specs.Finishing.{Change, Takes, IsPut, IsUnwritten, Finishes}
use Rattle.ci_calls.specs.Inputs.{AreRead, IsFileRefusal, IsDueName}
use Rattle.ci_calls.specs.Refusals.{Name, status_of, line_of}
use Rattle.ci_find.specs.Commands.{inputs_of, IsMade, IsRefusedOf}

-- ---- what is due

module _ (told : Option Files) (words : List (List ℕ)) where
  -- The success that is due to the words over these files, where no call fails.
  pub record IsDone (success : Success) : Type 0 where
    pub reading : Reading
    pub reads : ReadsAs words reading
    pub made : Evaluates told (inputs_of reading) (IsMade reading) success

  -- The refusal that is due to the words over these files, where no call fails.
  pub data IsRefusal : Refusal → Type 0 where
    usage : HasNoReading words → IsRefusal Usage
    file :
        {refusal : Refusal} (reading : Reading) → ReadsAs words reading →
        IsFileRefusal told (inputs_of reading) refusal → IsRefusal refusal
    once_read :
        {refusal : Refusal} (reading : Reading) (read : List (List ℕ)) → ReadsAs words reading →
        AreRead told (inputs_of reading) read → IsRefusedOf reading read refusal → IsRefusal refusal

  -- the status that is due: 0 for a success, or that of a refusal
  abbrev pub IsDue : ℕ → Type 0
  IsDue status =
      ((status ≡ 0) × ((success : Success) × IsDone success))
      ⊎ ((refusal : Refusal) × IsRefusal refusal × (status ≡ status_of refusal))

-- ---- how a call ends

-- How a call ends, by its status: with the success or the refusal that is due, with a read that failed, or out of
-- memory before any write. A fault line is the last that the sink takes, and before it comes at most the front of the
-- text of success that a failed put left.
pub data Ends (words : List (List ℕ)) (change : Change) : ℕ → Type 0 where
  finished :
      {success : Success} {status : ℕ} → IsDone change.shelf_before.files words success →
      Finishes change success status →
      Ends words change status
  refused :
      (refusal : Refusal) → IsRefusal change.shelf_before.files words refusal → IsUnwritten change →
      IsPut change.sink_before change.sink_after (line_of refusal) → Ends words change (status_of refusal)
  read_fault :
      (reading : Reading) (name : Name) → ReadsAs words reading →
      IsDueName change.shelf_before.files (inputs_of reading) name.now → IsTrue (change.read_may_fail name.now) →
      Rises change.shelf_before.read_faults change.shelf_after.read_faults → IsUnwritten change →
      IsPut change.sink_before change.sink_after (line_of (Read name)) → Ends words change (status_of (Read name))
  no_memory :
      IsUnwritten change → IsPut change.sink_before change.sink_after (line_of NoMemory) →
      Ends words change (status_of NoMemory)

-- The status that is due comes, unless memory runs out, or a read fails, or a write or a put of success does.
abbrev pub IsAnswered : Change → ℕ → ℕ → Type 0
IsAnswered change due status =
    (status ≡ due) ⊎ (status ≡ status_of NoMemory)
    ⊎ ((name : Name) × (status ≡ status_of (Read name)) × IsTrue (change.read_may_fail name.now)
    × Rises change.shelf_before.read_faults change.shelf_after.read_faults)
    ⊎ ((status ≡ status_of Put) × (due ≡ 0)
    × (Rises change.shelf_before.write_faults change.shelf_after.write_faults
    ⊎ Rises change.sink_before.faults change.sink_after.faults))

-- ---- what follows from that

-- no refusal is due to the words over these files
abbrev pub HasNoRefusal : Option Files → List (List ℕ) → Type 0
HasNoRefusal told words = (refusal : Refusal) → ¬ IsRefusal told words refusal

-- no read, no write and no put failed
pub record HasNoFault (change : Change) : Type 0 where
  pub reads : ¬ Rises change.shelf_before.read_faults change.shelf_after.read_faults
  pub writes : ¬ Rises change.shelf_before.write_faults change.shelf_after.write_faults
  pub puts : ¬ Rises change.sink_before.faults change.sink_after.faults

-- What a call of this status leaves of the file of a name: it is as before; or the success that is due writes it, and
-- it holds just that; or its write failed, and nothing is said of it, but status and fault line say so.
pub data IsLeft (words : List (List ℕ)) (change : Change) (status : ℕ) (name : List ℕ) (before : Option (List ℕ)) :
    Option (List ℕ) → Type 0 where
  as_before : IsLeft words change status name before before
  whole :
      (success : Success) (file : Written) → IsDone change.shelf_before.files words success →
      Contains success.writes.items file →
      name ≡ file.name.now →
      IsLeft words change status name before (Some file.bytes.items)
  unknown :
      (success : Success) (file : Written) (content : Option (List ℕ)) →
      IsDone change.shelf_before.files words success →
      Contains success.writes.items file →
      name ≡ file.name.now →
      status ≡ status_of (Write file.name) →
      IsPut change.sink_before change.sink_after (line_of (Write file.name)) →
      IsLeft words change status name before content

-- what a call of this status leaves of each file, where the shelf tells its files
abbrev pub AreLeft : List (List ℕ) → Change → ℕ → Type 0
AreLeft words change status =
    IfSome change.shelf_before.files (λ held. IfSome change.shelf_after.files (λ left. (name : List ℕ)
    → IsLeft words change status name (map.get held name) (map.get left name)))

-- What the sink took of a call of this status above 0: a front of the text of the success that is due, which is empty
-- unless its put failed, and then the fault line of a refusal of this status. `between` is the sink before the put of
-- that line.
pub record HasPrinted (words : List (List ℕ)) (change : Change) (status : ℕ) : Type 0 where
  pub between : SinkState
  pub front : List ℕ
  pub refusal : Refusal
  pub status_is : status ≡ status_of refusal
  pub front_is :
      (front ≡ [])
      ⊎ ((refusal ≡ Put) × (success : Success) × IsDone change.shelf_before.files words success
      × (n : ℕ) × (front ≡ take n success.text.items))
  pub front_taken : Takes change.sink_before between front
  pub line_put : IsPut between change.sink_after (line_of refusal)
