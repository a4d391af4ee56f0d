-- A call that ended with status 0 made a success, and wrote all of its files.
use Rattle.std.proofs.Common.{◌≡◌, ℕ, List, arith}
use Rattle.ci_calls.specs.declared.refusals.Refusal.{Refusal}
use Rattle.ci_calls.specs.declared.refusals.Refusal.TheVariants.{Usage, Read, NoMemory}
use Rattle.ci_calls.specs.declared.success.Success.{Success}
use Rattle.ci_calls.specs.Finishing.{Change, AreWritten, Finishes, Takes, done, write_fault, put_fault, no_memory_in_write, no_memory_in_put}
use Rattle.ci_calls.specs.Refusals.{status_of}
use Rattle.ci_find.specs.Endings.{Ends, IsDone, finished, refused, read_fault, no_memory}

-- the status of a refusal is another
pub never_zero : (refusal : Refusal) → status_of refusal ≡ 0 → ⊥
never_zero Usage zero = omega (arith, zero)
never_zero refusal zero = omega (arith, zero)

-- a success that ended with 0 has written its files, and the sink has taken its text
all_done : (change : Change) (success : Success) (status : ℕ) → status ≡ 0 → Finishes change success status
    → AreWritten change.shelf_before change.shelf_after success.writes.items
    × Takes change.sink_before change.sink_after success.text.items
all_done change success status zero (done written took) = (written.written, took)
all_done change success status zero (write_fault fault) = absurd (omega (arith, zero))
all_done change success status zero (put_fault fault) = absurd (omega (arith, zero))
all_done change success status zero (no_memory_in_write fault) = absurd (omega (arith, zero))
all_done change success status zero (no_memory_in_put fault) = absurd (omega (arith, zero))

pub success_of : (words : List (List ℕ)) (change : Change) (status : ℕ) → status ≡ 0 → Ends words change status
    → (success : Success) × IsDone change.shelf_before.files words success
    × AreWritten change.shelf_before change.shelf_after success.writes.items
    × Takes change.sink_before change.sink_after success.text.items
success_of words change status zero (finished {success = success} {status = s} made finishes) =
    let (written, took) = all_done change success s zero finishes in
    (success, made, written, took)
success_of words change status zero (refused refusal is unwritten put) = absurd (never_zero refusal zero)
success_of words change status zero (read_fault reading name reads named may rose unwritten put) =
    absurd (never_zero (Read name) zero)
success_of words change status zero (no_memory unwritten put) = absurd (never_zero NoMemory zero)
