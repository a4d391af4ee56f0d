-- What a command answers is due to the words that read as it.
use Rattle.std.proofs.Common.{◌≡◌, ℕ, inl, inr, Bool, List, Result, Ok, Err, IfOk, refl, subst}
use Rattle.std.specs.Prelude.{IfErr}
use Rattle.ci_io.specs.CallLists.{Call}
use Rattle.ci_io.specs.MadeCalls.{AreMade}
use Rattle.ci_io.specs.Outcomes.{ShelfState}
use Rattle.ci_arguments.specs.declared.tables.CommandName.{CommandName}
use Rattle.ci_arguments.specs.Words.{Reading, ReadsAs}
use Rattle.ci_calls.specs.declared.refusals.Refusal.{Refusal}
use Rattle.ci_calls.specs.declared.success.Success.{Success}
use Rattle.ci_calls.specs.Reads.{IsSuccessOf, IsRefusalOf, reads_of}
use Rattle.ci_find.specs.Commands.{inputs_of, IsMade, IsRefusedOf, IsAnswerBy}
use Rattle.ci_find.specs.EndsBy.{IsDueBy, IsRefusalBy, unread, once_read}

module _ (read_may_fail write_may_fail : List ℕ → Bool) (before after : ShelfState) (words : List (List ℕ))
    (reading : Reading) (reads_as : ReadsAs words reading) where
  abbrev Made : List Call → Type 0
  Made = AreMade read_may_fail write_may_fail before after

  -- a success
  success_due : (success : Success)
      → IsSuccessOf read_may_fail write_may_fail before after (inputs_of reading) (IsMade reading) success
      → (reads : List Call) × Made reads × IsDueBy words reads success
  success_due success is = (
    reads_of (inputs_of reading) is.answered,
    is.read.made,
    record {
      reading = reading;
      reads_as = reads_as;
      answered = is.answered;
      fit = is.read.fit;
      reads_are = refl;
      made = is.made;
    },
  )

  -- a refusal
  refusal_due : (refusal : Refusal)
      → IsRefusalOf read_may_fail write_may_fail before after (inputs_of reading) (IsRefusedOf reading) refusal
      → (reads : List Call) × Made reads × IsRefusalBy words reads refusal
  refusal_due refusal (inl stopped) =
      (stopped.calls, stopped.made, unread reading stopped.calls refusal reads_as stopped.stopped)
  refusal_due refusal (inr is) = (
    reads_of (inputs_of reading) is.answered,
    is.read.made,
    once_read reading is.answered (reads_of (inputs_of reading) is.answered) refusal reads_as is.read.fit refl is.refused,
  )

  -- and so a result
  successes_due : (result : Result Success Refusal)
      → IsAnswerBy read_may_fail write_may_fail before after reading.command reading result
      → IfOk result (λ success. (reads : List Call) × Made reads × IsDueBy words reads success)
  successes_due (Ok success) is = success_due success is
  successes_due (Err refusal) is = tt

  refusals_due : (result : Result Success Refusal)
      → IsAnswerBy read_may_fail write_may_fail before after reading.command reading result
      → IfErr result (λ refusal. (reads : List Call) × Made reads × IsRefusalBy words reads refusal)
  refusals_due (Ok success) is = tt
  refusals_due (Err refusal) is = refusal_due refusal is

  module _
      (command : CommandName) (is_command : command ≡ reading.command) (result : Result Success Refusal)
      (is : IsAnswerBy read_may_fail write_may_fail before after command reading result) where
    by_reading : IsAnswerBy read_may_fail write_may_fail before after reading.command reading result
    by_reading =
        subst (λ c. IsAnswerBy read_may_fail write_may_fail before after c reading result) is_command is

    pub due_by_calls : IfOk result (λ success. (reads : List Call) × Made reads × IsDueBy words reads success)
    due_by_calls = successes_due result by_reading

    pub refused_by_calls : IfErr result (λ refusal. (reads : List Call) × Made reads × IsRefusalBy words reads refusal)
    refused_by_calls = refusals_due result by_reading
