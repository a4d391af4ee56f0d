-- A call that doesn't succeed has a cause, unless memory ran out.
use Rattle.std.proofs.Common.{ℕ, inl, inr, List, [], ◌∷◌, ◌++◌, Err, refl, arith}
use Rattle.std.proofs.lemmas.List.Elements.{Contains-append_right}
use Rattle.ci_io.specs.declared.shelves.ShelfErr.TheVariants as shelf
use Rattle.ci_io.specs.CallLists.{Call, write}
use Rattle.ci_calls.specs.Called.{FinishesBy, PutsText, all_written, put_failed, taken, write_failed, writes_of}
use Rattle.ci_calls.specs.Called as called
use Rattle.ci_calls.specs.declared.success.Success.{Success}
use Rattle.ci_find.specs.EndsBy.{EndsBy, HasCause, finished, refused}

module _ (words : List (List ℕ)) where
  text_cause : (calls puts : List Call) (text : List ℕ) (status : ℕ) → PutsText text puts status
      → HasCause words calls puts status
  text_cause calls puts text status (taken puts' is) = λ success memory. absurd (success refl)
  text_cause calls puts text status (put_failed line some is) = λ success memory.
      inr (inr (text, (0, omega (arith), refl)))
  text_cause calls puts text status (called.no_memory line some is) = λ success memory. absurd (memory refl)

  finished_cause : (reads writes puts : List Call) (success : Success) (status : ℕ) → FinishesBy success writes puts status
      → HasCause words (reads ++ writes) puts status
  finished_cause reads writes puts success status (all_written puts' status' text) =
      text_cause (reads ++ writes_of success.writes.items) puts' success.text.items status' text
  finished_cause reads writes puts success status (write_failed front others failed puts' in_order line) = λ ok memory.
      let last = write failed.name.now failed.bytes.items (Err shelf.Fault) in
      inr (inl (
        failed.name.now,
        failed.bytes.items,
        Contains-append_right reads (writes_of front ++ last ∷ []) last
            (Contains-append_right (writes_of front) (last ∷ []) last (0, omega (arith), refl)),
      ))
  finished_cause reads writes puts success status (called.no_memory front others failed last puts' in_order none line) =
      λ ok memory. absurd (memory refl)

  -- by how the call ends
  pub EndsBy-cause : (calls puts : List Call) (status : ℕ) → EndsBy words calls puts status
      → HasCause words calls puts status
  EndsBy-cause calls puts status (finished reads writes puts' status' success due finishes) =
      finished_cause reads writes puts' success status' finishes
  EndsBy-cause calls puts status (refused reads puts' status' refusal is (inl line)) = λ ok memory.
      inl (refusal, is, line.0)
  EndsBy-cause calls puts status (refused reads puts' status' refusal is (inr line)) = λ ok memory.
      absurd (memory line.0)
