-- The headline over every shelf and sink.
use Rattle.std.proofs.Common.{◌≡◌, ◌≢◌, ◌∙◌, ℕ, inl, inr, List, [], ◌∷◌, ◌++◌, Ok, refl, ap, sym, subst, arith}
use Rattle.ci_io.specs.CallLists.{Call, put}
use Rattle.ci_log.specs.declared.book.Entry.{Entry}
use Rattle.ci_unit.specs.Units.{Unit}
use Rattle.ci_arguments.specs.Words.{Reading}
use Rattle.ci_calls.specs.declared.refusals.Refusal.{Refusal}
use Rattle.ci_calls.specs.declared.success.Success.{Success}
use Rattle.ci_calls.specs.Called.{writes_of, IsTextTaken, PutsText, PutsRefusal, taken, put_failed, FinishesBy, all_written}
use Rattle.ci_calls.specs.Called.{write_failed}
use Rattle.ci_calls.specs.Called as called
use Rattle.ci_calls.specs.Reads.{reads_of}
use Rattle.ci_find.specs.ChoiceReading.{find_files}
use Rattle.ci_find.specs.EndsBy.{IsDueBy, EndsBy, finished, refused}
use Rattle.ci_find.specs.FindCommand.{summary_line}
use Rattle.ci_find.specs.Headline.{bytes_read, IsChosenBy, AreChosenBy, whole_writes}
use Rattle.ci_find.proofs.FoundCalls.{IsFound, found, writes_by}
use Rattle.ci_find.proofs.Successes.{never_zero}

-- ---- a call that ends with 0

-- It makes a success: all is written, and the text is taken.
pub record HasSucceeded (words : List (List ℕ)) (calls puts : List Call) : Type 0 where
  pub reads : List Call
  pub success : Success
  pub due : IsDueBy words reads success
  pub calls_are : calls ≡ reads ++ writes_of success.writes.items
  pub text_taken : IsTextTaken success.text.items puts

taken_by : (text : List ℕ) (puts : List Call) (status : ℕ) → PutsText text puts status → status ≡ 0 → IsTextTaken text puts
taken_by text puts status (taken _ is) zero = is
taken_by text puts status (put_failed lines has one) zero = absurd (omega (arith, zero))
taken_by text puts status (called.no_memory lines has one) zero = absurd (omega (arith, zero))

finished_well : (words : List (List ℕ)) (reads writes puts : List Call) (status : ℕ) (success : Success)
    → IsDueBy words reads success → FinishesBy success writes puts status → status ≡ 0
    → HasSucceeded words (reads ++ writes) puts
finished_well words reads writes puts status success due (all_written puts' status' text) zero = record {
  reads = reads;
  success = success;
  due = due;
  calls_are = refl;
  text_taken = taken_by success.text.items puts' status' text zero;
}
finished_well words reads writes puts status success due (write_failed front others failed puts' in_order line) zero =
    absurd (omega (arith, zero))
finished_well words reads writes puts status success due (called.no_memory front others failed last puts' in_order none line) zero =
    absurd (omega (arith, zero))

never_refused : (refusal : Refusal) (puts : List Call) (status : ℕ) → PutsRefusal refusal puts status → status ≡ 0 → ⊥
never_refused refusal puts status (inl (is, line)) zero = never_zero refusal (sym is ∙ zero)
never_refused refusal puts status (inr (is, line)) zero = omega (arith, is, zero)

pub succeeded : (words : List (List ℕ)) (calls puts : List Call) (status : ℕ) → EndsBy words calls puts status → status ≡ 0
    → HasSucceeded words calls puts
succeeded words calls puts status (finished reads writes puts' status' success due finishes) zero =
    finished_well words reads writes puts' status' success due finishes zero
succeeded words calls puts status (refused reads puts' status' refusal is one) zero =
    absurd (never_refused refusal puts' status' one zero)

-- ---- of `find`

-- the line of its numbers is not empty
has_text : (entries : List Entry) (units : List Unit) (saved : ℕ) → summary_line entries units saved ≢ []
has_text entries units saved same = absurd cc

-- what was put, where it is not empty
pub one_put : (text : List ℕ) (puts : List Call) → text ≢ [] → IsTextTaken text puts → puts ≡ put text (Ok tt) ∷ []
one_put text puts has (inl (none, no_put)) = absurd (has none)
one_put text puts has (inr (some, is)) = is

chosen_by : (words : List (List ℕ)) (calls puts : List Call) (well : HasSucceeded words calls puts) (reading : Reading)
    → IsFound reading well.reads well.success → IsChosenBy reading calls puts
chosen_by words calls puts well reading found =
    let files = found.chosen.files in
    record {
      bytes = found.bytes;
      fit = found.fit;
      calls_are =
          well.calls_are ∙ ap (λ reads. reads ++ writes_of well.success.writes.items) found.reads_are
          ∙ ap (λ writes. reads_of (find_files reading) (bytes_read found.bytes) ++ writes)
          (writes_by well.success.writes.items ∙ ap whole_writes found.writes_are);
      puts_are =
          one_put found.bytes.text puts (λ none. has_text files.book.entries files.acceptable.modules_are.0 files.saved (sym files.text_is ∙ none))
          (subst (λ text. IsTextTaken text puts) found.text_is well.text_taken);
      chosen = found.chosen;
    }

pub EndsBy-chosen : (words : List (List ℕ)) (calls puts : List Call) (status : ℕ) → EndsBy words calls puts status
    → status ≡ 0 → AreChosenBy words calls puts
EndsBy-chosen words calls puts status ends zero = λ reading reads_as finds.
    let well = succeeded words calls puts status ends zero in
    chosen_by words calls puts well reading (found words well.reads well.success well.due reading reads_as finds)
