-- A refusal calls no write.
use Rattle.std.proofs.Common.{◌≢◌, ℕ, List, [], ◌∷◌, Ok, zero, suc, refl, sym, subst, arith}
use Rattle.ci_io.specs.CallLists.{Answer, Call, read}
use Rattle.ci_calls.specs.declared.refusals.Refusal.{Refusal}
use Rattle.ci_calls.specs.declared.success.Success.{Success}
use Rattle.ci_calls.specs.Called.{PutsText, taken, put_failed, FinishesBy, all_written, write_failed}
use Rattle.ci_calls.specs.Called as called
use Rattle.ci_calls.specs.Inputs.{Input}
use Rattle.ci_calls.specs.Reads.{reads_of, AreStoppedReads, out_of_memory, one_more}
use Rattle.ci_calls.specs.Reads as stopped
use Rattle.ci_find.specs.EndsBy.{IsRefusalBy, usage, unread, once_read, no_memory, EndsBy, finished, refused, StaysBy}
use Rattle.ci_find.specs.SinceCalls.{HasNoWrite}

-- no call, and one more read
pub none_there : HasNoWrite []
none_there name bytes outcome (i, within, is) = omega (arith, within)

one_read : (name : List ℕ) (limit : ℕ) (answer : Answer) (calls : List Call) → HasNoWrite calls
    → HasNoWrite (read name limit answer ∷ calls)
one_read name limit answer calls rest other bytes outcome (zero, within, is) = absurd cc
one_read name limit answer calls rest other bytes outcome (suc i, within, is) =
    rest other bytes outcome (i, omega (arith, within), is)

-- the reads of files, all of them or up to one that is refused
pub reads_no_write : (inputs : List Input) (answered : List (List ℕ)) → HasNoWrite (reads_of inputs answered)
reads_no_write [] answered = none_there
reads_no_write (input ∷ inputs) [] = none_there
reads_no_write (input ∷ inputs) (bytes ∷ answered) =
    one_read input.name input.limit (Ok bytes) (reads_of inputs answered) (reads_no_write inputs answered)

stopped_no_write : (inputs : List Input) (calls : List Call) (refusal : Refusal) → AreStoppedReads inputs calls refusal
    → HasNoWrite calls
stopped_no_write inputs calls refusal (out_of_memory rest) = none_there
stopped_no_write inputs calls refusal (stopped.refused input rest answer refusal' is) =
    one_read input.name input.limit answer [] none_there
stopped_no_write inputs calls refusal (one_more input rest bytes others refusal' fit more) =
    one_read input.name input.limit (Ok bytes) others (stopped_no_write rest others refusal' more)

pub refusal_no_write : (words : List (List ℕ)) (reads : List Call) (refusal : Refusal) → IsRefusalBy words reads refusal
    → HasNoWrite reads
refusal_no_write words reads refusal (usage none) = none_there
refusal_no_write words reads refusal (unread reading calls refusal' reads_as some) =
    stopped_no_write _ calls refusal' some
refusal_no_write words reads refusal (once_read reading answered calls refusal' reads_as fit are is) =
    subst HasNoWrite (sym are) (reads_no_write _ answered)
refusal_no_write words reads refusal no_memory = none_there

-- a success ends with one of three statuses
text_status : (text : List ℕ) (puts : List Call) (status : ℕ) → PutsText text puts status → status ≢ 0 → status ≢ 3
    → status ≢ 12 → ⊥
text_status text puts status (taken _ h) a b c = a refl
text_status text puts status (put_failed line h l) a b c = b refl
text_status text puts status (called.no_memory line h l) a b c = c refl

finish_status : (success : Success) (calls puts : List Call) (status : ℕ) → FinishesBy success calls puts status
    → status ≢ 0 → status ≢ 3 → status ≢ 12 → ⊥
finish_status success calls puts status (all_written puts' status' h) a b c = text_status _ puts' status' h a b c
finish_status success calls puts status (write_failed front others failed puts' h l) a b c = b refl
finish_status success calls puts status (called.no_memory front others failed last puts' h m l) a b c = c refl

-- so a call with another one writes nothing
pub EndsBy-stays : (words : List (List ℕ)) (calls puts : List Call) (status : ℕ) → EndsBy words calls puts status
    → StaysBy calls status
EndsBy-stays words calls puts status (finished reads writes puts' status' success due is) a b c =
    absurd (finish_status success writes puts' status' is a b c)
EndsBy-stays words calls puts status (refused reads puts' status' refusal is put) a b c =
    refusal_no_write words reads refusal is
