-- For every reader: the command `check`, which tells whether files are those of a choice of cuts.
use Rattle.std.specs.Prelude.{◌≡◌, ℕ, List, [], ◌∷◌, codes, Option}
use Rattle.ci_reading.specs.Lines.{line}
use Rattle.ci_log.specs.Books.{Book, Spells}
use Rattle.ci_verilog.specs.Modules.{Module}
use Rattle.ci_vread.specs.Spelling.{Spell}
use Rattle.ci_select.specs.WrongPlaces.{IsAcceptable, IsFirstWrongPlace, place}
use Rattle.ci_calls.specs.declared.refusals.Refusal.{Refusal}
use Rattle.ci_calls.specs.declared.refusals.Refusal.TheVariants.{Rejected}
use Rattle.ci_calls.specs.declared.success.Success.{Success}
use Rattle.ci_calls.specs.Files.{book_input, executable_input, input_bytes, new_file_input, units_input}
use Rattle.ci_calls.specs.Inputs.{Input}
use Rattle.ci_find.specs.Profiled.{Settings, RunFiles, Profiled, IsUnprofiled, instance_by, run_files}

-- the names of the files of a choice: the new file, the units and the log book
pub record CheckNames : Type 0 where
  pub new : List ℕ
  pub units : List ℕ
  pub logs : List ℕ

-- the executable, the files of the choice, the table and the input
abbrev pub check_inputs : List ℕ → CheckNames → (table input : Option (List ℕ)) → List Input
check_inputs file names table input =
    executable_input file ∷ new_file_input names.new ∷ units_input names.units ∷ book_input names.logs
    ∷ run_files table input

-- what the bytes of the files of a choice say
pub record CheckFiles (read : List (List ℕ)) : Type 0 where
  pub executable : List ℕ
  pub new_bytes : List ℕ
  pub units_text : List ℕ
  pub logs_text : List ℕ
  pub others : List (List ℕ)
  pub read_is : read ≡ executable ∷ new_bytes ∷ units_text ∷ logs_text ∷ others
  pub modules : List Module
  pub book : Book
  pub modules_are : Spell units_text modules
  pub book_is : Spells logs_text book

-- They are those of a choice: the book is legal, the modules are those of its units, and the new file is its own. It
-- puts that they are accepted.
pub record IsCheckMade (settings : Settings) (read : List (List ℕ)) (success : Success) : Type 0 where
  pub files : CheckFiles read
  pub profiled : Profiled settings files.executable files.others
  pub accepted : IsAcceptable (instance_by profiled) profiled.files.file files.book files.modules files.new_bytes
  pub text_is : success.text.items ≡ line (codes "accepted")
  pub writes_none : success.writes.items ≡ []

-- It refuses an executable that can't be chosen from, and files of no choice, by the first place that is wrong.
pub data IsCheckRefused (settings : Settings) (read : List (List ℕ)) : Refusal → Type 0 where
  unprofiled :
      {refusal : Refusal} (files : CheckFiles read) (run : RunFiles settings files.executable files.others)
      → IsUnprofiled run.file (input_bytes run.input) settings.steps refusal → IsCheckRefused settings read refusal
  rejected :
      {round leader item reason : ℕ} (files : CheckFiles read)
      (profiled : Profiled settings files.executable files.others)
      → IsFirstWrongPlace (instance_by profiled) profiled.files.file files.book files.modules files.new_bytes
      (place round leader item reason)
      → IsCheckRefused settings read (Rejected round leader item reason)
