-- The calls of a success.
use Rattle.std.proofs.Common.{◌≡◌, ◌∙◌, ℕ, List, [], ◌∷◌, ◌++◌, Ok, refl, ap, subst, append_assoc, String}
use Rattle.std.specs.String.{string_bytes}
use Rattle.std.specs.declared.alloc.Global.{Global}
use Rattle.ci_io.specs.CallLists.{Call, write}
use Rattle.ci_io.specs.Outcomes.{SinkState}
use Rattle.ci_io.specs.MadeCalls.{ArePut}
use Rattle.ci_calls.specs.declared.finishing.WriteErr.TheVariants as unwritten
use Rattle.ci_calls.specs.declared.refusals.Refusal.{Refusal}
use Rattle.ci_calls.specs.declared.refusals.Refusal.TheVariants.{NoMemory}
use Rattle.ci_calls.specs.declared.success.Success.{Success}
use Rattle.ci_calls.specs.declared.success.Written.{Written}
use Rattle.ci_calls.specs.Called.{writes_of, IsBytesPut, IsLinePut, FinishesBy, write_failed, no_memory}
use Rattle.ci_calls.specs.private.Finish.{AreNotWritten}
use Rattle.ci_calls.specs.Refusals.{status_of, line_of}

pub writes_of-append : (front others : List Written) → writes_of (front ++ others) ≡ writes_of front ++ writes_of others
writes_of-append [] others = refl
writes_of-append (file ∷ front) others =
    ap (λ calls. write file.name.now file.bytes.items (Ok tt) ∷ calls) (writes_of-append front others)

-- puts, and then others
pub ArePut-append : (before between after : SinkState) (puts more : List Call) → ArePut before between puts
    → ArePut between after more → ArePut before after (puts ++ more)
ArePut-append before between after puts more a b = b ∙ ap (λ c. c ++ more) a ∙ append_assoc before.calls puts more

module _ (success : Success) (calls : List Call) (puts : List Call) (result : ℕ) where
  pub finishes_failed :
      (refusal : Refusal) (line : String Global) (text : List ℕ) → AreNotWritten success.writes.items calls (unwritten.Fault refusal line)
      → text ≡ string_bytes line → IsBytesPut text puts → result ≡ status_of refusal → FinishesBy success calls puts result
  finishes_failed refusal line text n is put status =
      rw (n.calls_are, n.unwritten.0, status, n.unwritten.1)
      (write_failed n.front n.others n.failed puts n.in_order
      (subst (λ bytes. IsBytesPut bytes puts) (is ∙ n.unwritten.2 ∙ ap line_of n.unwritten.1) put))

  pub finishes_without :
      AreNotWritten success.writes.items calls unwritten.NoMemory → IsLinePut NoMemory puts
      → result ≡ status_of NoMemory → FinishesBy success calls puts result
  finishes_without n put status =
      rw (n.calls_are, status) (no_memory n.front n.others n.failed n.last puts n.in_order n.unwritten put)
