-- How the call of a check ends where what it reads is as the call of its choice left it.
use Rattle.std.proofs.Common.{◌≡◌, ◌∙◌, ◌⊎◌, inl, inr, ℕ, List, Option, Some, refl, sym, ap, subst}
use Rattle.std.specs.Option.{option_map}
use Rattle.ci_io.specs.Outcomes.{Files}
use Rattle.ci_arguments.specs.Words.{name_at}
use Rattle.ci_arguments.specs.declared.tables.CommandName.TheVariants.{Check}
use Rattle.ci_calls.specs.declared.refusals.Refusal.{Refusal}
use Rattle.ci_calls.specs.Finishing.{Change, with_files}
use Rattle.ci_calls.specs.Refusals.{status_of}
use Rattle.ci_find.specs.Commands.{inputs_by}
use Rattle.ci_find.specs.Endings.{Ends, finished, refused, read_fault, no_memory, IsAnswered, IsDone, IsRefusal}
use Rattle.ci_find.specs.Laws.{ChecksEnd, HoldTheSame, IsOfLongBook}
use Rattle.ci_find.proofs.CheckAccepts.{check_accepts}
use Rattle.ci_find.proofs.Runs.{finished-answers}
use Rattle.ci_find.proofs.Successes.{success_of}

module _ (words : List (List ℕ)) (change : Change) (book : List ℕ)
    (long_alone : (refusal : Refusal) → IsRefusal change.shelf_before.files words refusal
    → IsOfLongBook change.shelf_before.files book refusal) where
  -- how a call ends that refuses nothing but a log book that is too long
  answered : (status : ℕ) → Ends words change status
      → IsAnswered change 0 status
      ⊎ ((refusal : Refusal) × IsOfLongBook change.shelf_before.files book refusal × (status ≡ status_of refusal))
  answered status (finished {success = success} {status = s} made finishes) =
      inl (finished-answers words change success 0 s refl finishes)
  answered status (refused refusal is unwritten put) = inr (refusal, long_alone refusal is, refl)
  answered status (read_fault reading name reads named may rose unwritten put) =
      inl (inr (inr (inl (name, refl, may, rose))))
  answered status (no_memory unwritten put) = inl (inr (inl refl))

-- the call of a check ends with 0, or as a call may that is to end so, or for the log book's length
pub checks_end : ChecksEnd
checks_end
    held left now find_words check_words find check found checked status reads_find reads_check same tells leaves ended
    tells_now alike ends =
    let (success, is_done, written, took) = success_of find_words found 0 refl ended in
    let after : Files = with_files success.writes.items held in
    let both : Some left ≡ Some after =
    sym leaves ∙ written ∙ ap (option_map (with_files success.writes.items)) tells in
    let is_left : left ≡ after = cc in
    answered check_words checked (name_at check 3)
    (λ refusal. subst (λ (told : Option Files). IsRefusal told check_words refusal → IsOfLongBook told (name_at check 3) refusal)
    (sym tells_now)
    (check_accepts held now find_words check_words find check success refusal reads_find reads_check same
    (subst (λ (told : Option Files). IsDone told find_words success) tells is_done)
    (subst (λ files. HoldTheSame (inputs_by Check check) now files) is_left alike)))
    status ends
