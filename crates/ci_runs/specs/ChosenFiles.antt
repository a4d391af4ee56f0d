-- What a legal choice of cuts promises of whole runs. For every reader.
use Rattle.std.specs.Prelude.{◌≡◌, ℕ, false, List, [], ◌∷◌, pos, reverse, Ok}
use Rattle.std.specs.FinSet as finite
use Rattle.std.specs.Ordering.{nat_cmp}
use Rattle.ci_isa.specs.declared.instruction.Insn.{Insn}
use Rattle.ci_lat.specs.TableRules.{IsLatencyTable}
use Rattle.ci_elf.specs.Executables.{Executable}
use Rattle.ci_elf.specs.Rules.{IsReadAs}
use Rattle.ci_block.specs.CustomWords.{HasNoCustomWord}
use Rattle.ci_machine.specs.Words.{AreBytes}
use Rattle.ci_machine.specs.Runs.{Latencies}
use Rattle.ci_verilog.specs.Modules.{Module}
use Rattle.ci_cut.specs.Gain.{gain}
use Rattle.ci_log.specs.declared.book.Entry.{Entry}
use Rattle.ci_log.specs.declared.book.Entry.TheVariants.{Take}
use Rattle.ci_log.specs.Books.{Book}
use Rattle.ci_unit.specs.Tables.{IsTable}
use Rattle.ci_unit.specs.Units.{Unit}
use Rattle.ci_vemit.specs.Templates.{modules_of}
use Rattle.ci_rewrite.specs.RunLatencies.{AreOfTable}
use Rattle.ci_select.specs.Histories.{History, is_take}
use Rattle.ci_select.specs.Instances.{Instance, AreBlocksOf}
use Rattle.ci_select.specs.PresentBlocks.{HasPresentCut, graph_at}
use Rattle.ci_select.specs.UnitNumbers.{AreUnits}
use Rattle.ci_select.specs.Savings.{IsSaved}
use Rattle.ci_select.specs.LegalBooks.{IsLegal}
use Rattle.ci_select.specs.NewFiles.{IsNewFile, with_bytes}
use Rattle.ci_runs.specs.WholeRuns.{Rewriting, Saving, RunAlike, MeetAtLeaders, CostLess, saved}

-- The cuts that were taken, each with the leader of its block and its gain there, the last one first.
module _ (instance : Instance) where
  pub data AreSavings : History → List Saving → Type 0 where
    none : AreSavings [] []
    of_search :
        {history : History} {entry : Entry} {savings : List Saving}
        → is_take entry ≡ false → AreSavings history savings → AreSavings (entry ∷ history) savings
    of_take :
        {history : History} {leader number : ℕ} {savings : List Saving} {insns : List Insn}
        {cut : finite.FinSet nat_cmp}
        → AreSavings history savings → HasPresentCut instance history leader insns cut
        → AreSavings (Take leader number ∷ history)
        (record { leader = leader; gain = gain (graph_at instance leader insns) (finite.contains cut) } ∷ savings)

-- the file, the one with the folded blocks, the modules, and the live sets of the instance
abbrev pub rewriting_of : Instance → Executable → List Module → List ℕ → Rewriting
rewriting_of instance file modules new =
    record { old = file; new = with_bytes file new; modules = modules; live = instance.live }

-- The book is legal for blocks of the file, which has no custom word; these are its units, which keep what every table
-- of units keeps, and its new file.
pub record IsChosenFile (instance : Instance) (file : Executable) (book : Book) (units : List Unit) (new : List ℕ) :
    Type 0 where
  pub old : List ℕ
  pub old_is : IsReadAs old (Ok file)
  pub old_bytes : AreBytes old
  pub no_custom : HasNoCustomWord file
  pub blocks : AreBlocksOf file instance.blocks instance.live
  pub table : IsLatencyTable instance.table
  pub legal : IsLegal instance book
  pub units_are : AreUnits instance (reverse book.entries) units
  pub units_keep : IsTable units
  pub new_is : IsNewFile instance file (reverse book.entries) new
  pub new_bytes : AreBytes new

-- The cuts of the book have gains. With the modules, wherever the run of the file is tame, the new file runs as the
-- file does and meets it at each listed leader; and where that ends otherwise than by a refused access, it costs less
-- by the gain of each cut as often as its block is entered. By the entries of the instance that is together what the
-- book saves.
pub record RunsAlike (instance : Instance) (file : Executable) (book : Book) (modules : List Module) (new : List ℕ) :
    Type 0 where
  pub savings : List Saving
  pub savings_are : AreSavings instance (reverse book.entries) savings
  pub read : IsReadAs new (Ok (with_bytes file new))
  pub runs : RunAlike (rewriting_of instance file modules new)
  pub fronts : MeetAtLeaders (rewriting_of instance file modules new)
  pub accounts :
      (latencies : Latencies) → AreOfTable instance.table latencies
      → CostLess (rewriting_of instance file modules new) latencies savings
  pub sum :
      (total : ℕ) → IsSaved instance (reverse book.entries) total → saved savings instance.entries ≡ pos total

-- The new file of a legal book runs as the file does, with the modules of the book's units.
abbrev pub ChosenFilesRunAlike : Type 0
ChosenFilesRunAlike =
    (instance : Instance) (file : Executable) (book : Book) (units : List Unit) (new : List ℕ)
    → IsChosenFile instance file book units new → RunsAlike instance file book (modules_of units) new
