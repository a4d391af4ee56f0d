-- For every reader, the headline. When `find` ends with status 0, the written executable with the written Verilog
-- gives, for every input and bound, the output, final memory and end of the original, and conversely, wherever the
-- original run is tame; every written unit computes its cut's operations on all inputs; and each chosen cut is convex,
-- within its ports, and no cut that fits its remaining block gains more.
--
-- It holds over every shelf and every sink. The original is the bytes that the read of OLD answered. The written
-- executable and the written Verilog are the bytes that the writes of NEW and UNITS were handed. A bound is a number n
-- of steps. Output: after n steps both are equal. End, final memory: where one run has ended within n steps, the other
-- ends within n + 256, by the same end, with equal memory outside the text. Tame: for n + 256 steps, by the leaders
-- that the file, the profiled run and `--leader` list. The remaining block is the block as it stands in the program
-- before the take.
use Rattle.std.specs.Prelude.{◌≡◌, ℕ, List, [], ◌∷◌, ◌++◌, map, reverse, Ok}
use Rattle.std.specs.FinSet as finite
use Rattle.std.specs.Ordering.{nat_cmp}
use Rattle.ci_io.specs.CallLists.{Call, write, put}
use Rattle.ci_isa.specs.declared.instruction.Insn.{Insn}
use Rattle.ci_cut.specs.Best.{IsBest}
use Rattle.ci_log.specs.declared.book.Entry.{Entry}
use Rattle.ci_log.specs.declared.book.Entry.TheVariants.{Take}
use Rattle.ci_log.specs.Books.{Book, SpellsIn}
use Rattle.ci_verilog.specs.Modules.{Module}
use Rattle.ci_vread.specs.Spelling.{Spell}
use Rattle.ci_unit.specs.Units.{unit_of}
use Rattle.ci_select.specs.declared.plan.Plan.{Plan}
use Rattle.ci_rewrite.specs.ComputedUnits.{ComputeUnit}
use Rattle.ci_select.specs.GivenUp.{GivesUpByNeed}
use Rattle.ci_select.specs.Histories.{History, leader_of}
use Rattle.ci_select.specs.Instances.{Instance}
use Rattle.ci_select.specs.LegalBooks.{IsTrueOf}
use Rattle.ci_select.specs.Savings.{IsSaved}
use Rattle.ci_select.specs.PresentBlocks.{HasPresentCut, IsPresent, graph_at}
use Rattle.ci_select.specs.WrongPlaces.{IsAcceptable}
use Rattle.ci_runs.specs.ChosenFiles.{RunsAlike, rewriting_of}
use Rattle.ci_runs.specs.ProfiledRuns.{SavesInProfile}
use Rattle.ci_report.specs.Reports.{IsReport}
use Rattle.ci_arguments.specs.declared.tables.CommandName.TheVariants.{Find}
use Rattle.ci_arguments.specs.Words.{Reading, ReadsAs}
use Rattle.ci_calls.specs.Files.{input_bytes}
use Rattle.ci_calls.specs.Reads.{AreFit, reads_of}
use Rattle.ci_find.specs.ChoiceReading.{IsPlanOf, log_version, settings_of, find_output, find_files}
use Rattle.ci_find.specs.FindCommand.{FindOutput, summary_line}
use Rattle.ci_find.specs.Profiled.{Profiled, instance_by}

-- ---- what is read, written and put

-- The bytes that the reads of `find` answer, those that its writes are handed, and the text that it puts.
pub record FoundBytes : Type 0 where
  pub executable : List ℕ
  -- of the table and the input, where the words name them
  pub others : List (List ℕ)
  pub units : List ℕ
  pub logs : List ℕ
  pub report : List ℕ
  pub new : List ℕ
  pub text : List ℕ

-- what is read, in order: OLD, and then the table and the input
abbrev pub bytes_read : FoundBytes → List (List ℕ)
bytes_read bytes = bytes.executable ∷ bytes.others

-- what is written, by names and bytes, in order: UNITS, LOGS, REPORT, NEW
abbrev pub files_written : FindOutput → FoundBytes → List (List ℕ × List ℕ)
files_written output bytes =
    (output.units, bytes.units) ∷ (output.logs, bytes.logs) ∷ (output.report, bytes.report) ∷ (output.new, bytes.new)
    ∷ []

-- one whole write for each
abbrev pub whole_writes : List (List ℕ × List ℕ) → List Call
whole_writes files = map (λ file. write file.0 file.1 (Ok tt)) files

-- ---- the written executable, the written Verilog, and the book of the cuts

-- What is written are the modules of the units of a legal book for the run that the executable is chosen from, this
-- book in the version that --log names, its report, and the executable with the folded blocks. The text that is put has
-- what the cuts of the book save over that run.
pub record AreFiles (reading : Reading) (bytes : FoundBytes) : Type 0 where
  pub plan : Plan
  pub is_plan : IsPlanOf reading plan
  pub profiled : Profiled (settings_of reading plan) bytes.executable bytes.others
  pub modules : List Module
  pub book : Book
  pub modules_are : Spell bytes.units modules
  pub book_is : SpellsIn (log_version reading) bytes.logs book
  pub acceptable : IsAcceptable (instance_by profiled) profiled.files.file book modules bytes.new
  pub report_is : IsReport (instance_by profiled) profiled.profile book bytes.report
  pub saved : ℕ
  pub saved_is : IsSaved (instance_by profiled) (reverse book.entries) saved
  pub text_is : bytes.text ≡ summary_line book.entries acceptable.modules_are.0 saved

-- ---- every written unit computes its cut's operations on all inputs; and each chosen cut is convex, within its ports,
-- and no cut that fits its remaining block gains more

-- A take, behind these entries: its cut, of its block as that stands in the program before it. The module of its number
-- has at all words the values of the cut's unit.
pub record IsChosenCut (instance : Instance) (modules : List Module) (history : History) (leader number : ℕ) :
    Type 0 where
  pub insns : List Insn
  pub cut : finite.FinSet nat_cmp
  pub has_cut : HasPresentCut instance history leader insns cut
  pub computes : ComputeUnit modules number (unit_of insns (graph_at instance leader insns) (finite.contains cut))
  pub is_best : IsBest (graph_at instance leader insns) instance.plan.limits (finite.contains cut)

-- So it is of each take of the book. And each entry of a search is true of its block, as that stands in the program
-- before it: its cut is the best, or there is none, or the search for one needs more than the budget. Just such
-- searches are given up.
pub record TellTheBest (instance : Instance) (modules : List Module) (book : Book) : Type 0 where
  pub takes :
      (before behind : List Entry) (leader number : ℕ) → book.entries ≡ before ++ Take leader number ∷ behind
      → IsChosenCut instance modules (reverse before) leader number
  pub searches :
      (before behind : List Entry) (entry : Entry) → book.entries ≡ before ++ entry ∷ behind
      → (insns : List Insn) × IsPresent instance (reverse before) (leader_of entry) insns
      × IsTrueOf (graph_at instance (leader_of entry) insns) instance.plan entry
  pub given_up : GivesUpByNeed instance (reverse book.entries)

-- ---- when `find` ends with status 0

-- These are the files of a choice; the written executable runs as the original does, wherever that is tame, and costs
-- less by what its cuts save, where that ends otherwise than by a refused access; the profiled run is tame, and costs
-- less by the number in the line, where it so ends; and each cut is the best.
pub record IsChosen (reading : Reading) (bytes : FoundBytes) : Type 0 where
  pub files : AreFiles reading bytes
  pub runs : RunsAlike (instance_by files.profiled) files.profiled.files.file files.book files.modules bytes.new
  pub profiled :
      SavesInProfile (rewriting_of (instance_by files.profiled) files.profiled.files.file files.modules bytes.new)
      files.profiled.files.latencies (settings_of reading files.plan).steps (input_bytes files.profiled.files.input)
      files.profiled.profile files.saved
  pub best : TellTheBest (instance_by files.profiled) files.modules files.book

-- The calls on the shelf are the reads of OLD, the table and the input, as the words have them, in this order, and then
-- one whole write of each of UNITS, LOGS, REPORT and NEW, in this order. The call on the sink is one put, which is
-- taken. Of the bytes in these calls all of the headline holds.
pub record IsChosenBy (reading : Reading) (calls puts : List Call) : Type 0 where
  pub bytes : FoundBytes
  pub fit : AreFit (find_files reading) (bytes_read bytes)
  pub calls_are : calls
      ≡ reads_of (find_files reading) (bytes_read bytes) ++ whole_writes (files_written (find_output reading) bytes)
  pub puts_are : puts ≡ put bytes.text (Ok tt) ∷ []
  pub chosen : IsChosen reading bytes

-- so it is where the words read as `find`
abbrev pub AreChosenBy : List (List ℕ) → (calls puts : List Call) → Type 0
AreChosenBy words calls puts =
    (reading : Reading) → ReadsAs words reading → reading.command ≡ Find → IsChosenBy reading calls puts
