-- What is due to what the reads answered is due over the files that answered so.
use Rattle.std.proofs.Common.{ℕ, Bool, List, subst}
use Rattle.ci_io.specs.CallLists.{Call}
use Rattle.ci_io.specs.MadeCalls.{AreMade}
use Rattle.ci_io.specs.Outcomes.{ShelfState}
use Rattle.ci_calls.specs.declared.success.Success.{Success}
use Rattle.ci_calls.specs.Reads.{IsSuccessOf}
use Rattle.ci_calls.proofs.OverFiles.{HaveStayed, IsSuccessOf-files}
use Rattle.ci_find.specs.Commands.{inputs_of, IsMade}
use Rattle.ci_find.specs.Endings.{IsDone}
use Rattle.ci_find.specs.EndsBy.{IsDueBy}

module _ (read_may_fail write_may_fail : List ℕ → Bool) (before after : ShelfState) (reads : List Call)
    (made : AreMade read_may_fail write_may_fail before after reads) where
  abbrev Stayed : Type 0
  Stayed = HaveStayed read_may_fail write_may_fail before after

  -- a success
  pub due_over_files : (words : List (List ℕ)) (success : Success) → IsDueBy words reads success
      → IsDone before.files words success × Stayed
  due_over_files words success due =
      let is : IsSuccessOf read_may_fail write_may_fail before after (inputs_of due.reading) (IsMade due.reading) success =
      record {
        answered = due.answered;
        read = record { fit = due.fit; made = subst (AreMade read_may_fail write_may_fail before after) due.reads_are made };
        made = due.made;
      } in
      let over =
      IsSuccessOf-files read_may_fail write_may_fail before after (inputs_of due.reading) (IsMade due.reading) success is in
      (record { reading = due.reading; reads = due.reads_as; made = over.0 }, over.1)
