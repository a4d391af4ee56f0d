-- For every reader: what a call of `find` leaves that could not write all of its files, or not put its text, over every
-- shelf and every sink.
use Rattle.std.specs.Prelude.{◌≡◌, ℕ, ◌≤◌, ◌⊎◌, List, [], ◌∷◌, ◌++◌, drop, take, Err}
use Rattle.ci_io.specs.declared.shelves.ShelfErr.TheVariants as shelf
use Rattle.ci_io.specs.declared.sinks.SinkErr.TheVariants as sink
use Rattle.ci_io.specs.CallLists.{Call, write, put}
use Rattle.ci_arguments.specs.declared.tables.CommandName.TheVariants.{Find}
use Rattle.ci_arguments.specs.Words.{Reading, ReadsAs}
use Rattle.ci_calls.specs.declared.refusals.Refusal.TheVariants.{Write, Put, NoMemory}
use Rattle.ci_calls.specs.Called.{IsLinePut}
use Rattle.ci_calls.specs.Reads.{AreFit, reads_of}
use Rattle.ci_calls.specs.Refusals.{Name}
use Rattle.ci_find.specs.ChoiceReading.{find_output, find_files}
use Rattle.ci_find.specs.Headline.{FoundBytes, bytes_read, files_written, whole_writes, IsChosen}
use Rattle.ci_find.specs.SinceCalls.{HasNoWrite}

-- What a call comes to with these files yet to be written, by the last call on the shelf, if there is one, those on the
-- sink, and the status. The write of the next file fails, and the fault line names it; or memory runs out, for the
-- write or before it. Where no file is left, the put of the text fails, or memory runs out for it.
pub data StopsAt (text : List ℕ) : (files : List (List ℕ × List ℕ)) → (last puts : List Call) → ℕ → Type 0 where
  write_fails :
      (name : Name) (bytes : List ℕ) (others : List (List ℕ × List ℕ)) (puts : List Call) →
      IsLinePut (Write name) puts →
      StopsAt text ((name.now, bytes) ∷ others) (write name.now bytes (Err shelf.Fault) ∷ []) puts 3
  no_memory_in_write :
      (name bytes : List ℕ) (others : List (List ℕ × List ℕ)) (last puts : List Call) →
      (last ≡ []) ⊎ (last ≡ write name bytes (Err shelf.NoMemory) ∷ []) → IsLinePut NoMemory puts →
      StopsAt text ((name, bytes) ∷ others) last puts 12
  put_fails : (line : List Call) → IsLinePut Put line → StopsAt text [] [] (put text (Err sink.Fault) ∷ line) 3
  no_memory_in_put :
      (line : List Call) → IsLinePut NoMemory line → StopsAt text [] [] (put text (Err sink.NoMemory) ∷ line) 12

-- All files were read. Of those that `find` writes, the first, as many as this number from 0 to 4, were written whole,
-- and then it stopped at the others, none of which but the next was begun. The bytes of all four are those of one legal
-- book, and all of the headline holds of them.
pub record AreFirstWhole (reading : Reading) (calls puts : List Call) (status : ℕ) : Type 0 where
  pub bytes : FoundBytes
  pub fit : AreFit (find_files reading) (bytes_read bytes)
  pub chosen : IsChosen reading bytes
  pub number : ℕ
  pub at_most_four : number ≤ 4
  pub last : List Call
  pub calls_are : calls
      ≡ reads_of (find_files reading) (bytes_read bytes)
      ++ (whole_writes (take number (files_written (find_output reading) bytes)) ++ last)
  pub stops : StopsAt bytes.text (drop number (files_written (find_output reading) bytes)) last puts status

-- memory ran out before there was anything to write, and the fault line says so
pub record IsBeforeWrites (calls puts : List Call) (status : ℕ) : Type 0 where
  pub is_memory : status ≡ 12
  pub none_begun : HasNoWrite calls
  pub line : IsLinePut NoMemory puts

-- so it is after status 3 or 12 where the words read as `find`
abbrev pub FirstFilesAreWhole : List (List ℕ) → (calls puts : List Call) → ℕ → Type 0
FirstFilesAreWhole words calls puts status =
    (status ≡ 3) ⊎ (status ≡ 12) → (reading : Reading) → ReadsAs words reading → reading.command ≡ Find
    → AreFirstWhole reading calls puts status ⊎ IsBeforeWrites calls puts status
