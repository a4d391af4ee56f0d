-- For every reader: the command `find`, a whole choice of cuts.
use Rattle.std.specs.Prelude.{◌≡◌, ℕ, Bool, true, false, List, [], ◌∷◌, ◌++◌, codes, filter, length, map, reverse}
use Rattle.std.specs.Prelude.{Option}
use Rattle.std.specs.Fmt.{decimal}
use Rattle.ci_reading.specs.Lines.{line}
use Rattle.ci_elf.specs.Executables.{Executable}
use Rattle.ci_emu.specs.declared.profile.Profile.{Profile}
use Rattle.ci_log.specs.declared.book.Entry.{Entry}
use Rattle.ci_log.specs.declared.book.Entry.TheVariants.{Spent}
use Rattle.ci_log.specs.Books.{Book, SpellsIn}
use Rattle.ci_log.specs.declared.book.Version.{Version}
use Rattle.ci_machine.specs.Words.{AreBytes}
use Rattle.ci_unit.specs.Tables.{IsTable}
use Rattle.ci_unit.specs.Units.{Unit}
use Rattle.ci_vemit.specs.Templates.{modules_of}
use Rattle.ci_vemit.specs.Texts.{text_of}
use Rattle.ci_select.specs.Histories.{is_take}
use Rattle.ci_select.specs.Instances.{Instance}
use Rattle.ci_select.specs.UnitNumbers.{AreUnits}
use Rattle.ci_select.specs.Savings.{IsSaved}
use Rattle.ci_select.specs.LegalBooks.{IsLegal}
use Rattle.ci_select.specs.GivenUp.{GivesUpByNeed}
use Rattle.ci_select.specs.NewFiles.{IsNewFile}
use Rattle.ci_report.specs.Reports.{IsReport}
use Rattle.ci_calls.specs.declared.refusals.Refusal.{Refusal}
use Rattle.ci_calls.specs.declared.success.Success.{Success}
use Rattle.ci_calls.specs.declared.success.Written.{Written}
use Rattle.ci_calls.specs.Files.{executable_input, input_bytes}
use Rattle.ci_calls.specs.Inputs.{Input}
use Rattle.ci_find.specs.Profiled.{Settings, RunFiles, Profiled, IsUnprofiled, instance_by, run_files}

-- the executable, the table and the input
abbrev pub find_inputs : List ℕ → (table input : Option (List ℕ)) → List Input
find_inputs file table input = executable_input file ∷ run_files table input

-- what it writes: the names of the files, and the version of the log book
pub record FindOutput : Type 0 where
  pub new : List ℕ
  pub units : List ℕ
  pub logs : List ℕ
  pub report : List ℕ
  pub version : Version

abbrev pub is_spent : Entry → Bool
is_spent (Spent leader budget) = true
is_spent entry = false

-- how many cuts were taken, how many units they have, how many searches were given up, and the cycles that are saved
abbrev pub summary : List Entry → List Unit → ℕ → List ℕ
summary entries units saved =
    codes "cuts " ++ decimal (length (filter is_take entries)) ++ codes " units " ++ decimal (length units)
    ++ codes " skipped " ++ decimal (length (filter is_spent entries)) ++ codes " gain " ++ decimal saved

abbrev pub summary_line : List Entry → List Unit → ℕ → List ℕ
summary_line entries units saved = line (summary entries units saved)

-- a file that is written: its name and its bytes
abbrev pub written : Written → List ℕ × List ℕ
written file = (file.name.now, file.bytes.items)

-- There is a legal book of the instance, in which each search was given up exactly by need. Its units, its text in the
-- version, its report and its new file are written, in this order, and the line of its numbers is put. The file and the
-- new one are of bytes.
pub record IsChoice (instance : Instance) (profile : Profile) (file : Executable) (output : FindOutput)
    (success : Success) : Type 0 where
  pub book : Book
  pub units : List Unit
  pub saved : ℕ
  pub logs_text : List ℕ
  pub report_text : List ℕ
  pub new_bytes : List ℕ
  pub legal : IsLegal instance book
  pub given_up : GivesUpByNeed instance (reverse book.entries)
  pub units_are : AreUnits instance (reverse book.entries) units
  pub units_keep : IsTable units
  pub saved_is : IsSaved instance (reverse book.entries) saved
  pub logs_are : SpellsIn output.version logs_text book
  pub report_is : IsReport instance profile book report_text
  pub new_is : IsNewFile instance file (reverse book.entries) new_bytes
  pub file_of_bytes : AreBytes file.bytes
  pub new_of_bytes : AreBytes new_bytes
  pub writes_are :
      map written success.writes.items
      ≡ (output.units, text_of (modules_of units)) ∷ (output.logs, logs_text) ∷ (output.report, report_text)
      ∷ (output.new, new_bytes) ∷ []
  pub text_is : success.text.items ≡ summary_line book.entries units saved

-- It makes a choice for the executable, by its profiled run.
pub record IsFindMade (output : FindOutput) (settings : Settings) (read : List (List ℕ)) (success : Success) :
    Type 0 where
  pub executable : List ℕ
  pub others : List (List ℕ)
  pub read_is : read ≡ executable ∷ others
  pub profiled : Profiled settings executable others
  pub choice : IsChoice (instance_by profiled) profiled.profile profiled.files.file output success

-- it refuses files that can't be chosen from
pub record IsFindRefused (settings : Settings) (read : List (List ℕ)) (refusal : Refusal) : Type 0 where
  pub executable : List ℕ
  pub others : List (List ℕ)
  pub read_is : read ≡ executable ∷ others
  pub files : RunFiles settings executable others
  pub unprofiled : IsUnprofiled files.file (input_bytes files.input) settings.steps refusal
