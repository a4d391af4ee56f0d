-- The first files of a call of `find` that stopped are whole.
use Rattle.std.proofs.Common.{◌≡◌, ◌≢◌, ◌∙◌, ℕ, ◌≤◌, ◌⊎◌, inl, inr, List, [], ◌∷◌, ◌++◌, map, drop, take, length, Ok, Err}
use Rattle.std.proofs.Common.{refl, ap, sym, subst, append-nil, arith}
use Rattle.std.proofs.lemmas.List.{length-append, map-append}
use Rattle.std.proofs.Math.Seq.{drop-append_seam, take-append_seam}
use Rattle.ci_io.specs.declared.shelves.ShelfErr.TheVariants as shelf
use Rattle.ci_io.specs.CallLists.{Answer, Call, write}
use Rattle.ci_arguments.specs.declared.tables.CommandName.TheVariants.{Find}
use Rattle.ci_arguments.specs.Words.{Reading, ReadsAs}
use Rattle.ci_arguments.proofs.Readings.{one_reading}
use Rattle.ci_elf.specs.Executables.{Executable}
use Rattle.ci_calls.specs.declared.refusals.Refusal.{Refusal}
use Rattle.ci_calls.specs.declared.refusals.Refusal.TheVariants.{BadElf, BadTable, BadUnits, BadLog, NoMemory, BadAsm, BadNets}
use Rattle.ci_calls.specs.declared.success.Success.{Success}
use Rattle.ci_calls.specs.declared.success.Written.{Written}
use Rattle.ci_calls.specs.Called.{writes_of, IsLinePut, PutsText, PutsRefusal, taken, put_failed}
use Rattle.ci_calls.specs.Called.{FinishesBy, all_written, write_failed}
use Rattle.ci_calls.specs.Called as called
use Rattle.ci_calls.specs.Forms.{Form, IsMalformed, assembler_text, executable_file, gate_netlists, latency_table, verilog_units}
use Rattle.ci_calls.specs.Forms.{log_book}
use Rattle.ci_calls.specs.Inputs.{Input}
use Rattle.ci_calls.specs.Reads.{reads_of, IsRefusedAs, AreStoppedReads, out_of_memory, one_more}
use Rattle.ci_calls.specs.Reads as stopped
use Rattle.ci_calls.specs.Refusals.{status_of}
use Rattle.ci_find.specs.ChoiceReading.{find_files, find_output}
use Rattle.ci_find.specs.Commands.{RefusesBy}
use Rattle.ci_find.specs.EndsBy.{IsRefusalBy, usage, unread, once_read, no_memory, EndsBy, finished, refused}
use Rattle.ci_find.specs.FindCommand.{written}
use Rattle.ci_find.specs.FirstFiles.{StopsAt, write_fails, no_memory_in_write, put_fails, no_memory_in_put, AreFirstWhole}
use Rattle.ci_find.specs.FirstFiles.{FirstFilesAreWhole}
use Rattle.ci_find.specs.Headline.{bytes_read, files_written, whole_writes}
use Rattle.ci_find.specs.Profiled.{IsUnprofiled, custom, touches}
use Rattle.ci_find.proofs.FoundCalls.{IsFound, found, writes_by}
use Rattle.ci_find.proofs.NoWrites.{refusal_no_write}

-- ---- a success that stopped

module _ (reading : Reading) (reads puts : List Call) (status : ℕ) (success : Success) (is : IsFound reading reads success) where
  abbrev files : List (List ℕ × List ℕ)
  files = files_written (find_output reading) is.bytes

  -- behind so many files, by the last call
  stops_at : (number : ℕ) (last writes : List Call) → number ≤ 4 → writes ≡ whole_writes (take number files) ++ last
      → StopsAt is.bytes.text (drop number files) last puts status → AreFirstWhole reading (reads ++ writes) puts status
  stops_at number last writes few are stops = record {
    bytes = is.bytes;
    fit = is.fit;
    chosen = is.chosen;
    number = number;
    at_most_four = few;
    last = last;
    calls_are = ap (λ front. front ++ writes) is.reads_are ∙ ap (λ calls. reads_of (find_files reading) (bytes_read is.bytes) ++ calls) are;
    stops = stops;
  }

  -- behind those in front of one that was not written
  stops_behind : (front others : List Written) (failed : Written) (last : List Call)
      → success.writes.items ≡ front ++ failed ∷ others
      → StopsAt is.bytes.text (written failed ∷ map written others) last puts status
      → AreFirstWhole reading (reads ++ (writes_of front ++ last)) puts status
  stops_behind front others failed last in_order stops =
      let split : files ≡ map written front ++ (written failed ∷ map written others) =
      sym is.writes_are ∙ ap (map written) in_order ∙ map-append written front (failed ∷ others) in
      let number = length (map written front) in
      let few : number ≤ 4 =
      omega (arith, ap length split, length-append (map written front) (written failed ∷ map written others)) in
      let whole : take number files ≡ map written front =
      ap (take number) split ∙ take-append_seam (map written front) (written failed ∷ map written others) in
      let rest : drop number files ≡ written failed ∷ map written others =
      ap (drop number) split ∙ drop-append_seam (map written front) (written failed ∷ map written others) in
      stops_at number last (writes_of front ++ last) few
      (ap (λ writes. writes ++ last) (writes_by front ∙ ap whole_writes (sym whole)))
      (subst (λ f. StopsAt is.bytes.text f last puts status) (sym rest) stops)

  -- behind all
  stops_behind_all : StopsAt is.bytes.text [] [] puts status
      → AreFirstWhole reading (reads ++ writes_of success.writes.items) puts status
  stops_behind_all stops =
      stops_at 4 [] (writes_of success.writes.items) (omega (arith))
      (writes_by success.writes.items ∙ ap whole_writes is.writes_are ∙ sym (append-nil _)) stops

-- the put of the text failed, or ran out of memory
put_stops : (text : List ℕ) (puts : List Call) (status : ℕ) → PutsText text puts status → status ≢ 0
    → StopsAt text [] [] puts status
put_stops text puts status (taken _ is) other = absurd (other refl)
put_stops text puts status (put_failed line has one) other = put_fails line one
put_stops text puts status (called.no_memory line has one) other = no_memory_in_put line one

finish_stops : (reading : Reading) (reads writes puts : List Call) (status : ℕ) (success : Success)
    → IsFound reading reads success → FinishesBy success writes puts status → status ≢ 0
    → AreFirstWhole reading (reads ++ writes) puts status
finish_stops reading reads writes puts status success is (all_written puts' status' text) other =
    stops_behind_all reading reads puts' status' success is
    (put_stops is.bytes.text puts' status' (subst (λ t. PutsText t puts' status') is.text_is text) other)
finish_stops reading reads writes puts status success is (write_failed front others failed puts' in_order line) other =
    stops_behind reading reads puts' 3 success is front others failed
    (write failed.name.now failed.bytes.items (Err shelf.Fault) ∷ []) in_order
    (write_fails failed.name failed.bytes.items (map written others) puts' line)
finish_stops reading reads writes puts status success is (called.no_memory front others failed last puts' in_order none line) other =
    stops_behind reading reads puts' 12 success is front others failed last in_order
    (no_memory_in_write failed.name.now failed.bytes.items (map written others) last puts' none line)

-- ---- a refusal

-- its status is not that of a write or a put that failed
malformed_status : (form : Form) (bytes : List ℕ) (refusal : Refusal) → IsMalformed form bytes refusal → status_of refusal ≢ 3
malformed_status assembler_text bytes (BadAsm kind at column) is same = omega (arith, same)
malformed_status executable_file bytes (BadElf fault) is same = omega (arith, same)
malformed_status latency_table bytes (BadTable fault) is same = omega (arith, same)
malformed_status verilog_units bytes (BadUnits kind offset) is same = omega (arith, same)
malformed_status log_book bytes (BadLog fault) is same = omega (arith, same)
malformed_status gate_netlists bytes (BadNets offset) is same = omega (arith, same)
malformed_status form bytes refusal is same = absurd is

refused_status : (input : Input) (answer : Answer) (refusal : Refusal) → IsRefusedAs input answer refusal → status_of refusal ≢ 3
refused_status input (Ok bytes) refusal (within, inl bad) same = malformed_status input.form bytes refusal bad same
refused_status input (Ok bytes) refusal (within, inr none) same =
    let e : status_of refusal ≡ 12 = ap status_of none in omega (arith, same, e)
refused_status input (Err shelf.Absent) (Refusal.Read name) is same = omega (arith, same)
refused_status input (Err shelf.Fault) (Refusal.Read name) is same = omega (arith, same)
refused_status input (Err shelf.TooLarge) (Refusal.TooLarge name) is same = omega (arith, same)
refused_status input (Err shelf.NoMemory) NoMemory is same = omega (arith, same)
refused_status input answer refusal is same = absurd is

stopped_status : (inputs : List Input) (calls : List Call) (refusal : Refusal) → AreStoppedReads inputs calls refusal
    → status_of refusal ≢ 3
stopped_status inputs calls refusal (out_of_memory rest) same = omega (arith, same)
stopped_status inputs calls refusal (stopped.refused input rest answer refusal' is) same =
    refused_status input answer refusal' is same
stopped_status inputs calls refusal (one_more input rest bytes others refusal' fit more) same =
    stopped_status rest others refusal' more same

unprofiled_status : (file : Executable) (input : List ℕ) (steps : ℕ) (refusal : Refusal)
    → IsUnprofiled file input steps refusal → status_of refusal ≢ 3
unprofiled_status file input steps refusal (custom first) same = omega (arith, same)
unprofiled_status file input steps refusal (touches none plain first) same = omega (arith, same)

find_status : (reading : Reading) (answered : List (List ℕ)) (refusal : Refusal)
    → RefusesBy Find reading answered refusal → status_of refusal ≢ 3
find_status reading answered refusal (plan, is_plan, is) same =
    unprofiled_status is.files.file _ _ refusal is.unprofiled same

refusal_status : (words : List (List ℕ)) (reading : Reading) → ReadsAs words reading → reading.command ≡ Find
    → (reads : List Call) (refusal : Refusal) → IsRefusalBy words reads refusal → status_of refusal ≢ 3
refusal_status words reading reads_as finds reads refusal (usage none) same = omega (arith, same)
refusal_status words reading reads_as finds reads refusal (unread other calls refusal' reads_too some) same =
    stopped_status _ calls refusal' some same
refusal_status words reading reads_as finds reads refusal (once_read other answered calls refusal' reads_too fit are is) same =
    let command : other.command ≡ Find = ap (λ (r : Reading). r.command) (one_reading words other reading reads_too reads_as) ∙ finds in
    find_status other answered refusal' (subst (λ c. RefusesBy c other answered refusal') command is) same
refusal_status words reading reads_as finds reads refusal no_memory same = omega (arith, same)

-- the refusal of status 12 is that memory ran out
memory_line : (refusal : Refusal) (puts : List Call) → status_of refusal ≡ 12 → IsLinePut refusal puts → IsLinePut NoMemory puts
memory_line NoMemory puts same one = one
memory_line refusal puts same one = absurd (omega (arith, same))

put_ends : (refusal : Refusal) (calls puts : List Call) (status : ℕ) → PutsRefusal refusal puts status
    → status_of refusal ≢ 3 → (status ≡ 3) ⊎ (status ≡ 12) → (status ≡ 12) × IsLinePut NoMemory puts
put_ends refusal calls puts status (inl (is, line)) other (inl three) = absurd (other (sym is ∙ three))
put_ends refusal calls puts status (inl (is, line)) other (inr twelve) =
    (twelve, memory_line refusal puts (sym is ∙ twelve) line)
put_ends refusal calls puts status (inr (is, line)) other (inl three) = absurd (omega (arith, is, three))
put_ends refusal calls puts status (inr (is, line)) other (inr twelve) = (twelve, line)

-- ---- the call

not_zero : (status : ℕ) → (status ≡ 3) ⊎ (status ≡ 12) → status ≢ 0
not_zero status (inl three) zero = omega (arith, three, zero)
not_zero status (inr twelve) zero = omega (arith, twelve, zero)

pub EndsBy-first : (words : List (List ℕ)) (calls puts : List Call) (status : ℕ) → EndsBy words calls puts status
    → FirstFilesAreWhole words calls puts status
EndsBy-first words calls puts status (finished reads writes puts' status' success due finishes) stopped = λ reading reads_as finds.
    inl (finish_stops reading reads writes puts' status' success (found words reads success due reading reads_as finds)
    finishes (not_zero status' stopped))
EndsBy-first words calls puts status (refused reads puts' status' refusal is put) stopped = λ reading reads_as finds.
    let ends = put_ends refusal reads puts' status' put (refusal_status words reading reads_as finds reads refusal is) stopped in
    inr (record { is_memory = ends.0; none_begun = refusal_no_write words reads refusal is; line = ends.1 })
