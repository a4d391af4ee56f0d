-- Each write that a call made is of a file of the success that is due.
use Rattle.std.proofs.Common.{◌≡◌, ℕ, inl, inr, List, [], ◌∷◌, ◌++◌, Contains, Ok, Err, zero, suc, refl, sym, subst, arith}
use Rattle.std.proofs.lemmas.List.Elements.{Contains-append_cases, Contains-append_left, Contains-append_right}
use Rattle.ci_io.specs.declared.shelves.ShelfErr.TheVariants as shelf
use Rattle.ci_io.specs.CallLists.{Call, Outcome, write}
use Rattle.ci_calls.specs.declared.success.Success.{Success}
use Rattle.ci_calls.specs.declared.success.Written.{Written}
use Rattle.ci_calls.specs.Called.{writes_of, IsWriteWithoutMemory, FinishesBy, all_written, write_failed}
use Rattle.ci_calls.specs.Called as called
use Rattle.ci_find.specs.EndsBy.{EndsBy, finished, refused, ComesOut, AreLeftBy}
use Rattle.ci_find.specs.SinceCalls.{HasNoWrite}
use Rattle.ci_find.proofs.NoWrites.{none_there, reads_no_write, refusal_no_write}

module _ (puts : List Call) (status : ℕ) (name bytes : List ℕ) (outcome : Outcome) where
  -- the write is of one of these files, and comes out so
  record IsOf (files : List Written) : Type 0 where
    file : Written
    of_files : Contains files file
    name_is : name ≡ file.name.now
    bytes_are : bytes ≡ file.bytes.items
    comes_out : ComesOut file puts status outcome

  -- so it is of more files
  of_more : (files : List Written) (first : Written) → IsOf files → IsOf (first ∷ files)
  of_more files first is = record {
    file = is.file;
    of_files = (suc is.of_files.0, omega (arith, is.of_files.1), is.of_files.2);
    name_is = is.name_is;
    bytes_are = is.bytes_are;
    comes_out = is.comes_out;
  }

  of_front : (front others : List Written) → IsOf front → IsOf (front ++ others)
  of_front front others is = record {
    file = is.file;
    of_files = Contains-append_left front others is.file is.of_files;
    name_is = is.name_is;
    bytes_are = is.bytes_are;
    comes_out = is.comes_out;
  }

  -- one that was done
  of_done : (files : List Written) → Contains (writes_of files) (write name bytes outcome) → IsOf files
  of_done [] is = absurd (none_there name bytes outcome is)
  of_done (file ∷ files) (zero, within, is) =
      let of_name : file.name.now ≡ name = cc in
      let of_bytes : file.bytes.items ≡ bytes = cc in
      let done : Ok tt ≡ outcome = cc in
      record {
        file = file;
        of_files = (0, omega (arith, within), refl);
        name_is = sym of_name;
        bytes_are = sym of_bytes;
        comes_out = subst (ComesOut file puts status) done tt;
      }
  of_done (file ∷ files) (suc i, within, is) =
      of_more files file (of_done files (i, omega (arith, within), is))

  -- the last one, behind those that were done
  of_last : (front others : List Written) (failed : Written) (result : Outcome)
      → Contains (write failed.name.now failed.bytes.items result ∷ []) (write name bytes outcome)
      → ComesOut failed puts status result → IsOf (front ++ failed ∷ others)
  of_last front others failed result (zero, within, is) out =
      let of_name : failed.name.now ≡ name = cc in
      let of_bytes : failed.bytes.items ≡ bytes = cc in
      let same : result ≡ outcome = cc in
      record {
        file = failed;
        of_files = Contains-append_right front (failed ∷ others) failed (0, omega (arith), refl);
        name_is = sym of_name;
        bytes_are = sym of_bytes;
        comes_out = subst (ComesOut failed puts status) same out;
      }
  of_last front others failed result (suc i, within, is) out = absurd (omega (arith, within))

  of_unwritten : (front others : List Written) (failed : Written) (last : List Call) → IsWriteWithoutMemory failed last
      → Contains last (write name bytes outcome) → status ≡ 12 → IsOf (front ++ failed ∷ others)
  of_unwritten front others failed last (inl none) is twelve =
      absurd (none_there name bytes outcome (subst (λ calls. Contains calls (write name bytes outcome)) none is))
  of_unwritten front others failed last (inr one) is twelve =
      of_last front others failed (Err shelf.NoMemory)
      (subst (λ calls. Contains calls (write name bytes outcome)) one is) twelve

-- by how the success ends
written_by : (success : Success) (writes puts : List Call) (status : ℕ) (name bytes : List ℕ) (outcome : Outcome)
    → FinishesBy success writes puts status → Contains writes (write name bytes outcome)
    → IsOf puts status name bytes outcome success.writes.items
written_by success writes puts status name bytes outcome (all_written puts' status' text) is =
    of_done puts' status' name bytes outcome success.writes.items is
written_by success writes puts status name bytes outcome (write_failed front others failed puts' in_order line) is =
    subst (IsOf puts' 3 name bytes outcome) (sym in_order)
    (elim (Contains-append_cases (writes_of front) _ (write name bytes outcome) is) [
      | inl before ↦ of_front puts' 3 name bytes outcome front (failed ∷ others)
          (of_done puts' 3 name bytes outcome front before)
      | inr behind ↦ of_last puts' 3 name bytes outcome front others failed (Err shelf.Fault) behind (refl, line)
    ])
written_by success writes puts status name bytes outcome (called.no_memory front others failed last puts' in_order none line) is =
    subst (IsOf puts' 12 name bytes outcome) (sym in_order)
    (elim (Contains-append_cases (writes_of front) last (write name bytes outcome) is) [
      | inl before ↦ of_front puts' 12 name bytes outcome front (failed ∷ others)
          (of_done puts' 12 name bytes outcome front before)
      | inr behind ↦ of_unwritten puts' 12 name bytes outcome front others failed last none behind refl
    ])

-- behind reads
behind_reads : (reads writes : List Call) → HasNoWrite reads → (name bytes : List ℕ) (outcome : Outcome)
    → Contains (reads ++ writes) (write name bytes outcome) → Contains writes (write name bytes outcome)
behind_reads reads writes none name bytes outcome is =
    elim (Contains-append_cases reads writes (write name bytes outcome) is) [
      | inl before ↦ absurd (none name bytes outcome before)
      | inr behind ↦ behind
    ]

pub EndsBy-left : (words : List (List ℕ)) (calls puts : List Call) (status : ℕ) → EndsBy words calls puts status
    → AreLeftBy words calls puts status
EndsBy-left words calls puts status (finished reads writes puts' status' success due finishes) name bytes outcome is =
    let none : HasNoWrite reads = subst HasNoWrite (sym due.reads_are) (reads_no_write _ due.answered) in
    let one = written_by success writes puts' status' name bytes outcome finishes
    (behind_reads reads writes none name bytes outcome is) in
    record {
      reads = reads;
      writes = writes;
      calls_are = refl;
      success = success;
      due = due;
      file = one.file;
      of_success = one.of_files;
      name_is = one.name_is;
      bytes_are = one.bytes_are;
      comes_out = one.comes_out;
    }
EndsBy-left words calls puts status (refused reads puts' status' refusal due put) name bytes outcome is =
    absurd (refusal_no_write words reads refusal due name bytes outcome is)
