-- How a call of the program ends, and that what is due comes.
use Rattle.std.proofs.Common.{◌≡◌, ℕ, inl, inr, List, ◌∷◌, [], Contains, lit<, Option, Some, None, IfSome, refl, ap, sym, subst}
use Rattle.ci_io.specs.CallLists.{Call}
use Rattle.ci_io.specs.MadeCalls.{AreMade}
use Rattle.ci_io.specs.Outcomes.{Files, ShelfState}
use Rattle.ci_arguments.specs.Words.{Reading, ReadsAs}
use Rattle.ci_calls.specs.declared.refusals.Refusal.{Refusal}
use Rattle.ci_calls.specs.declared.refusals.Refusal.TheVariants.{Usage, Read, Write, Put, TooLarge, BadElf, BadTable, Unsupported}
use Rattle.ci_calls.specs.declared.refusals.Refusal.TheVariants.{TextTouched, BadUnits, BadLog, Rejected, NoMemory, BadAsm, ManyGates, BadNets}
use Rattle.ci_calls.specs.declared.success.Success.{Success}
use Rattle.ci_calls.specs.Reads.{IsRefusalOf}
use Rattle.ci_calls.specs.Refused.{IsRefusedBy}
use Rattle.ci_calls.specs.RefusedCalls.{IsRefused}
use Rattle.ci_calls.specs.Finishing.{Change, IsPut, IsUnwritten, Finishes, done, write_fault, put_fault, no_memory_in_write, no_memory_in_put}
use Rattle.ci_calls.specs.Refusals.{status_of, line_of}
use Rattle.ci_calls.proofs.Counts.{Rises-earlier}
use Rattle.ci_calls.proofs.OverFiles.{IsRefusalOf-files}
use Rattle.ci_find.specs.Endings.{usage, file, once_read, IsDue, Ends, finished, refused, read_fault, no_memory, IsAnswered}
use Rattle.ci_find.specs.Commands.{inputs_of, IsRefusedOf}
use Rattle.ci_find.specs.EndsBy.{IsRefusalBy}
use Rattle.ci_find.specs.EndsBy as by
use Rattle.ci_find.proofs.Dues.{IsDue-same}

module _ (words : List (List ℕ)) (change : Change) where
  -- with the line of a refusal, which is this one
  abbrev EndsAs : Refusal → Type 0
  EndsAs refusal = IsPut change.sink_before change.sink_after (line_of refusal) → Ends words change (status_of refusal)

  -- of a command whose files are not read, or that refuses their bytes
  Ends-unmade : (reading : Reading) → ReadsAs words reading → (refusal : Refusal)
      → IsRefusedBy change.read_may_fail change.shelf_before change.shelf_after (inputs_of reading) (IsRefusedOf reading) refusal
      → IsUnwritten change → EndsAs refusal
  Ends-unmade reading reads refusal (inl (inl is)) unwritten = λ put. refused refusal (file reading reads is) unwritten put
  Ends-unmade reading reads refusal (inl (inr (inl fault))) unwritten =
      subst EndsAs (sym fault.refusal_is)
      (λ put. read_fault reading fault.name reads fault.due fault.fails fault.counted unwritten put)
  Ends-unmade reading reads refusal (inl (inr (inr is))) unwritten =
      subst EndsAs (sym is) (λ put. no_memory unwritten put)
  Ends-unmade reading reads refusal (inr is) unwritten =
      λ put. refused refusal (once_read reading is.read reads is.files is.refused) unwritten put

  abbrev Reads : List Call → Type 0
  Reads calls = AreMade change.read_may_fail change.write_may_fail change.shelf_before change.shelf_after calls

  -- by its reads
  Ends-of : (reading : Reading) → ReadsAs words reading → (refusal : Refusal)
      → IsRefusalOf change.read_may_fail change.write_may_fail change.shelf_before change.shelf_after (inputs_of reading)
      (IsRefusedOf reading) refusal
      → IsUnwritten change × EndsAs refusal
  Ends-of reading reads refusal is =
      let over =
      IsRefusalOf-files change.read_may_fail change.write_may_fail change.shelf_before change.shelf_after (inputs_of reading)
      (IsRefusedOf reading) refusal is in
      let unwritten : IsUnwritten change = record { same_files = over.1.files; same_count = over.1.writes } in
      (unwritten, Ends-unmade reading reads refusal over.0 unwritten)

  -- where nothing was called
  none_called : change.shelf_after ≡ change.shelf_before → IsUnwritten change
  none_called same = record {
    same_files = ap (λ (s : ShelfState). s.files) same;
    same_count = ap (λ (s : ShelfState). s.write_faults) same;
  }

  Ends-due : (calls : List Call) (refusal : Refusal) → IsRefusalBy words calls refusal → Reads calls
      → IsUnwritten change × EndsAs refusal
  Ends-due calls refusal (by.usage none) made =
      (none_called made, λ put. refused Usage (usage none) (none_called made) put)
  Ends-due calls refusal (by.unread reading reads refusal' reads_as stopped) made =
      Ends-of reading reads_as refusal' (inl (record { calls = reads; stopped = stopped; made = made }))
  Ends-due calls refusal (by.once_read reading answered reads refusal' reads_as fit are is) made =
      Ends-of reading reads_as refusal' (inr (record {
        answered = answered;
        read = record { fit = fit; made = subst Reads are made };
        refused = is;
      }))
  Ends-due calls refusal by.no_memory made = (none_called made, λ put. no_memory (none_called made) put)

  -- with a refusal, once its line was put or memory for it ran out
  pub Ends-refused : (status : ℕ) (calls : List Call) (refusal : Refusal) → IsRefusalBy words calls refusal → Reads calls
      → IsRefused refusal status change.sink_before change.sink_after → Ends words change status
  Ends-refused status calls refusal is made (inl line) =
      let (unwritten, ends) = Ends-due calls refusal is made in
      subst (Ends words change) (sym line.0) (ends line.1)
  Ends-refused status calls refusal is made (inr none) =
      let (unwritten, ends) = Ends-due calls refusal is made in
      subst (Ends words change) (sym none.0) (no_memory unwritten none.1)

-- ---- what is due comes

-- a success that is due ends with its own status, or as a write or a put that failed does
pub finished-answers : (words : List (List ℕ)) (change : Change) (success : Success) (due status : ℕ) → due ≡ 0
    → Finishes change success status → IsAnswered change due status
finished-answers words change success due status zero (done written took) = inl (sym zero)
finished-answers words change success due status zero (write_fault fault) = inr (inr (inr (refl, zero, inl fault.counted)))
finished-answers words change success due status zero (put_fault fault) =
    inr (inr (inr (refl, zero, inr (Rises-earlier _ _ _ fault.never_falls.faults fault.counted fault.line.never_falls.faults))))
finished-answers words change success due status zero (no_memory_in_write fault) = inr (inl refl)
finished-answers words change success due status zero (no_memory_in_put fault) = inr (inl refl)

module _ (held : Files) (words : List (List ℕ)) (change : Change) (tells : change.shelf_before.files ≡ Some held) where
  -- what is due over the files of the shelf is due over those that it tells
  due_told : (status : ℕ) → IsDue change.shelf_before.files words status → IsDue (Some held) words status
  due_told status is = subst (λ (told : Option Files). IsDue told words status) tells is

  Answers-end : (due status : ℕ) → IsDue (Some held) words due → Ends words change status → IsAnswered change due status
  Answers-end due status is (finished {success = success} made finishes) =
      finished-answers words change success due status
      (IsDue-same held words due 0 is (due_told 0 (inl (refl, (success, made))))) finishes
  Answers-end due status is (refused refusal refuses unwritten put) =
      inl (IsDue-same held words (status_of refusal) due (due_told (status_of refusal) (inr (refusal, refuses, refl))) is)
  Answers-end due status is (read_fault reading name reads named may rose unwritten put) =
      inr (inr (inl (name, refl, may, rose)))
  Answers-end due status is (no_memory unwritten put) = inr (inl refl)

-- what is due over the files told comes
pub Answers-due : (words : List (List ℕ)) (change : Change) (status : ℕ) → Ends words change status
    → (told : Option Files) → change.shelf_before.files ≡ told
    → IfSome told (λ held. (due : ℕ) → IsDue (Some held) words due → IsAnswered change due status)
Answers-due words change status ends None tells = tt
Answers-due words change status ends (Some held) tells = λ due is. Answers-end held words change tells due status is ends

-- ---- the statuses

abbrev statuses : List ℕ
statuses = 0 ∷ 1 ∷ 2 ∷ 3 ∷ 4 ∷ 5 ∷ 6 ∷ 7 ∷ 8 ∷ 9 ∷ 10 ∷ 11 ∷ 12 ∷ 13 ∷ 14 ∷ 15 ∷ []

-- the status of a refusal is one of them
refusal-status : (refusal : Refusal) → Contains statuses (status_of refusal)
refusal-status Usage = (1, lit< tt, refl)
refusal-status (Read name) = (2, lit< tt, refl)
refusal-status (Write name) = (3, lit< tt, refl)
refusal-status Put = (3, lit< tt, refl)
refusal-status (TooLarge name) = (4, lit< tt, refl)
refusal-status (BadElf fault) = (5, lit< tt, refl)
refusal-status (BadTable fault) = (6, lit< tt, refl)
refusal-status (Unsupported position word) = (7, lit< tt, refl)
refusal-status (TextTouched pc address) = (8, lit< tt, refl)
refusal-status (BadUnits kind offset) = (9, lit< tt, refl)
refusal-status (BadLog fault) = (10, lit< tt, refl)
refusal-status (Rejected round leader item reason) = (11, lit< tt, refl)
refusal-status NoMemory = (12, lit< tt, refl)
refusal-status (BadAsm kind line column) = (13, lit< tt, refl)
refusal-status (ManyGates number gates) = (14, lit< tt, refl)
refusal-status (BadNets offset) = (15, lit< tt, refl)

Finishes-status : (change : Change) (success : Success) (status : ℕ) → Finishes change success status → Contains statuses status
Finishes-status change success status (done written took) = (0, lit< tt, refl)
Finishes-status change success status (write_fault fault) = refusal-status (Write fault.failed.name)
Finishes-status change success status (put_fault fault) = refusal-status Put
Finishes-status change success status (no_memory_in_write fault) = refusal-status NoMemory
Finishes-status change success status (no_memory_in_put fault) = refusal-status NoMemory

-- a call ends with one of them
pub Ends-status : (words : List (List ℕ)) (change : Change) (status : ℕ) → Ends words change status → Contains statuses status
Ends-status words change status (finished {success = success} {status = s} made finishes) =
    Finishes-status change success s finishes
Ends-status words change status (refused refusal is unwritten put) = refusal-status refusal
Ends-status words change status (read_fault reading name reads named may rose unwritten put) = refusal-status (Read name)
Ends-status words change status (no_memory unwritten put) = refusal-status NoMemory
