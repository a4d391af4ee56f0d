-- Files written one after the other.
use Rattle.std.proofs.Common.{◌≡◌, ◌∙◌, ℕ, ◌+◌, ◌<◌, List, [], ◌∷◌, ◌++◌, length, take, drop, Option, Some, None, String, refl, sym, ap, subst, append_assoc}
use Rattle.std.specs.Option.{option_map}
use Rattle.std.specs.String.{string_bytes}
use Rattle.std.specs.Prelude.{slice_index_or}
use Rattle.std.specs.declared.alloc.Global.{Global}
use Rattle.std.proofs.lemmas.List.{take_more, take-append-drop}
use Rattle.ci_io.specs.Outcomes.{Files, Rises, ShelfState, with_file}
use Rattle.ci_calls.specs.declared.refusals.Refusal.{Refusal}
use Rattle.ci_calls.specs.declared.refusals.Refusal.TheVariants as refusal
use Rattle.ci_calls.specs.declared.success.Success.{Success}
use Rattle.ci_calls.specs.declared.success.Written.{Written}
use Rattle.ci_calls.specs.declared.finishing.WriteErr.TheVariants.{Fault, NoMemory}
use Rattle.ci_calls.specs.Finishing.{Change, IsPut, AreWritten, HasWritten, Finishes, done, write_fault, put_fault, no_memory_in_write, no_memory_in_put}
use Rattle.ci_calls.specs.private.Finish.{AreUnwritten, IsTextPut, taken, fault, no_memory}
use Rattle.ci_calls.specs.Refusals.{status_of, line_of}
use Rattle.ci_calls.specs.Finishing.{with_files}
use Rattle.ci_calls.proofs.Counts.{Rises-later}

-- some files and then others
with_files-append : (front others : List Written) (files : Files) → with_files (front ++ others) files ≡ with_files others (with_files front files)
with_files-append [] others files = refl
with_files-append (file ∷ front) others files = with_files-append front others (with_file file.name.now (Some file.bytes.items) files)

-- what was made of the files in two steps
in_two : (before between after : Option Files) (first second : Files → Files) → between ≡ option_map first before
    → after ≡ option_map second between → after ≡ option_map (λ files. second (first files)) before
in_two None between after first second one two = two ∙ ap (option_map second) one
in_two (Some files) between after first second one two = two ∙ ap (option_map second) one

-- no file at all
pub none_written : (before : ShelfState) → AreWritten before before []
none_written before = same before.files
  where
    same : (files : Option Files) → files ≡ option_map (with_files []) files
    same None = refl
    same (Some files) = refl

-- one file more
pub AreWritten-more : (before between after : ShelfState) (front : List Written) (file : Written)
    → AreWritten before between front → AreWritten between after (file ∷ [])
    → AreWritten before after (front ++ file ∷ [])
AreWritten-more before between after front file one two =
    in_two before.files between.files after.files (with_files front) (with_files (file ∷ [])) one two
    ∙ same before.files
  where
    same : (files : Option Files) → option_map (λ held. with_files (file ∷ []) (with_files front held)) files
        ≡ option_map (with_files (front ++ file ∷ [])) files
    same None = refl
    same (Some files) = ap Some (sym (with_files-append front (file ∷ []) files))

-- the files up to a place, and the one there
pub written-more : (writes : List Written) (i : ℕ) (file : Written) → i < length writes → file ≡ slice_index_or writes i file
    → take (i + 1) writes ≡ take i writes ++ file ∷ []
written-more writes i file within is = take_more writes i file within ∙ ap (λ last. take i writes ++ last ∷ []) (sym is)

-- the files are those up to a place, the one there, and those behind it
pub written-split : (writes : List Written) (i : ℕ) (file : Written) → i < length writes → file ≡ slice_index_or writes i file
    → writes ≡ take i writes ++ file ∷ drop (i + 1) writes
written-split writes i file within is =
    sym (take-append-drop (i + 1) writes)
    ∙ ap (λ front. front ++ drop (i + 1) writes) (written-more writes i file within is)
    ∙ append_assoc (take i writes) (file ∷ []) (drop (i + 1) writes)

-- ---- the end of a call

-- all was written, and then the text was put, or its put failed
pub Finishes-put : (change : Change) (success : Success) (status : ℕ) → HasWritten change success.writes.items
    → IsTextPut success.text.items change.sink_before change.sink_after status → Finishes change success status
Finishes-put change success status written (taken took) = done written took
Finishes-put change success status written (fault some between never_falls counted front line) = put_fault (record {
  written = written;
  has_text = some;
  between = between;
  never_falls = never_falls;
  counted = counted;
  front = front;
  line = line;
})
Finishes-put change success status written (no_memory some between never_falls counted none line) =
    no_memory_in_put (record {
      written = written;
      has_text = some;
      between = between;
      never_falls = never_falls;
      counted = counted;
      nothing_taken = none;
      line = line;
    })

-- the write of one of the files failed, and its fault line was put
pub Finishes-unwritten : (change : Change) (success : Success) (refused : Refusal) (line : String Global) (text : List ℕ) (status : ℕ)
    → AreUnwritten change.write_may_fail success.writes.items change.shelf_before change.shelf_after (Fault refused line)
    → text ≡ string_bytes line → status ≡ status_of refused → IsPut change.sink_before change.sink_after text
    → Finishes change success status
Finishes-unwritten change success refused line text status unwritten same is put =
    let failed = unwritten.unwritten in
    subst (Finishes change success) (sym (is ∙ ap status_of failed.4)) (write_fault (record {
      front = unwritten.front;
      failed = unwritten.failed;
      others = unwritten.others;
      in_order = unwritten.in_order;
      content = failed.0;
      files = in_two change.shelf_before.files unwritten.between.files change.shelf_after.files (with_files unwritten.front)
          (with_file unwritten.failed.name.now failed.0) unwritten.front_written failed.1;
      may_fail = failed.2;
      counted = Rises-later _ _ _ unwritten.never_falls failed.3;
      line = subst (IsPut change.sink_before change.sink_after) (same ∙ failed.5 ∙ ap line_of failed.4) put;
    }))

-- memory ran out for the write of one of the files
pub Finishes-no_memory : (change : Change) (success : Success) (status : ℕ)
    → AreUnwritten change.write_may_fail success.writes.items change.shelf_before change.shelf_after NoMemory
    → status ≡ status_of refusal.NoMemory → IsPut change.sink_before change.sink_after (line_of refusal.NoMemory)
    → Finishes change success status
Finishes-no_memory change success status unwritten is put =
    subst (Finishes change success) (sym is) (no_memory_in_write (record {
      front = unwritten.front;
      failed = unwritten.failed;
      others = unwritten.others;
      in_order = unwritten.in_order;
      files = unwritten.unwritten ∙ unwritten.front_written;
      line = put;
    }))

-- ---- a call that began with reads

-- What holds of a shelf holds of another with the same files and the same count of writes that failed.
module _ (change : Change) (before : ShelfState) (same_files : change.shelf_before.files ≡ before.files)
    (same_count : change.shelf_before.write_faults ≡ before.write_faults) where
  abbrev earlier : Change
  earlier = record change { shelf_before = before }

  AreWritten-earlier : (after : ShelfState) (writes : List Written) → AreWritten change.shelf_before after writes → AreWritten before after writes
  AreWritten-earlier after writes written = written ∙ ap (option_map (with_files writes)) same_files

  HasWritten-earlier : (writes : List Written) → HasWritten change writes → HasWritten earlier writes
  HasWritten-earlier writes has = record {
    written = AreWritten-earlier change.shelf_after writes has.written;
    same_count = λ none. has.same_count none ∙ same_count;
  }

  pub Finishes-earlier : (success : Success) (status : ℕ) → Finishes change success status → Finishes earlier success status
  Finishes-earlier success status (done written took) = done (HasWritten-earlier success.writes.items written) took
  Finishes-earlier success status (write_fault failed) = write_fault (record {
    front = failed.front;
    failed = failed.failed;
    others = failed.others;
    in_order = failed.in_order;
    content = failed.content;
    files = failed.files ∙ ap (option_map (λ held. with_file failed.failed.name.now failed.content (with_files failed.front held))) same_files;
    may_fail = failed.may_fail;
    counted = subst (λ n. Rises n change.shelf_after.write_faults) same_count failed.counted;
    line = failed.line;
  })
  Finishes-earlier success status (put_fault failed) = put_fault (record {
    written = HasWritten-earlier success.writes.items failed.written;
    has_text = failed.has_text;
    between = failed.between;
    never_falls = failed.never_falls;
    counted = failed.counted;
    front = failed.front;
    line = failed.line;
  })
  Finishes-earlier success status (no_memory_in_write failed) = no_memory_in_write (record {
    front = failed.front;
    failed = failed.failed;
    others = failed.others;
    in_order = failed.in_order;
    files = AreWritten-earlier change.shelf_after failed.front failed.files;
    line = failed.line;
  })
  Finishes-earlier success status (no_memory_in_put failed) = no_memory_in_put (record {
    written = HasWritten-earlier success.writes.items failed.written;
    has_text = failed.has_text;
    between = failed.between;
    never_falls = failed.never_falls;
    counted = failed.counted;
    nothing_taken = failed.nothing_taken;
    line = failed.line;
  })
