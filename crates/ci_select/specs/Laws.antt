-- What the definitions say of all books: laws, which the functions of `src/laws.rt` have as their contracts.
use Rattle.std.specs.Prelude.{◌≡◌, ℕ, ◌^◌, ◌<◌, ◌≤◌, true, List, ◌∷◌, ◌++◌, length, reverse, slice_get, Some}
use Rattle.std.specs.FinSet as finite
use Rattle.std.specs.List.{AllByRecursion, Contains, sum_by}
use Rattle.std.specs.Ordering.{nat_cmp}
use Rattle.ci_word.specs.Numbers.{sum_below}
use Rattle.ci_isa.specs.declared.instruction.Insn.{Insn}
use Rattle.ci_lat.specs.TableRules.{IsLatencyTable}
use Rattle.ci_elf.specs.Executables.{Executable, IsWellFormed}
use Rattle.ci_block.specs.declared.blocks.Block.{Block}
use Rattle.ci_block.specs.Blocks.{AreInOrder}
use Rattle.ci_cut.specs.Best.{IsBest}
use Rattle.ci_log.specs.declared.book.Entry.{Entry}
use Rattle.ci_log.specs.declared.book.Entry.TheVariants.{Take}
use Rattle.ci_log.specs.Books.{Book, IsBook}
use Rattle.ci_live.specs.Sets.{Sets}
use Rattle.ci_machine.specs.Programs.{State, loaded_program}
use Rattle.ci_machine.specs.Runs.{Latencies}
use Rattle.ci_machine.specs.Steps.{Meaning}
use Rattle.ci_machine.specs.Words.{AreBytes}
use Rattle.ci_emu.specs.declared.profile.Profile.{Profile}
use Rattle.ci_emu.specs.Profiles.{IsProfileOf, entries_in}
use Rattle.ci_unit.specs.Units.{Unit}
use Rattle.ci_verilog.specs.Modules.{Module}
use Rattle.ci_select.specs.declared.acceptance.Verdict.{Verdict}
use Rattle.ci_select.specs.declared.rounds.Due.{Due}
use Rattle.ci_select.specs.declared.taken.Taken.{Taken}
use Rattle.ci_select.specs.Histories.{AreOneButLogs, History, is_search_of, leader_of}
use Rattle.ci_select.specs.Instances.{Instance, AreBlocksOf, AreOfSomeFile, entered, entries_of}
use Rattle.ci_select.specs.AlikeInstances.{AreAlike}
use Rattle.ci_select.specs.PresentBlocks.{HasPresentCut, IsPresent, graph_at}
use Rattle.ci_select.specs.UnitNumbers.{AreUnits, IsUnitAt}
use Rattle.ci_select.specs.Savings.{IsSaved, IsSavedBy}
use Rattle.ci_select.specs.Takes.{AreTaken, cycles_of}
use Rattle.ci_select.specs.Dues.{IsDue}
use Rattle.ci_select.specs.GivenUp.{GivesUpByNeed}
use Rattle.ci_select.specs.LegalBooks.{HasShortLog, IsLegal, IsLegalHistory, IsTrueOf}
use Rattle.ci_select.specs.NewFiles.{IsNewFile}
use Rattle.ci_select.specs.WrongPlaces.{IsAcceptable, IsVerdict}

-- ---- for readers of a book

-- Each entry of a legal book is true of the block that it names, as that stands in the program before it.
abbrev pub EntriesAreTrue : Type 0
EntriesAreTrue =
    (instance : Instance) (book : Book) (before behind : List Entry) (entry : Entry)
    → AreOfSomeFile instance.blocks instance.live → IsLatencyTable instance.table
    → IsLegal instance book → book.entries ≡ before ++ entry ∷ behind
    → (insns : List Insn) × IsPresent instance (reverse before) (leader_of entry) insns
    × IsTrueOf (graph_at instance (leader_of entry) insns) instance.plan entry

-- Each take of a legal book is of the best cut of its block, as that stands in the program before it: the cut is convex
-- and within the ports, and no set that fits gains more.
abbrev pub TakesAreBest : Type 0
TakesAreBest =
    (instance : Instance) (book : Book) (before behind : List Entry) (leader unit : ℕ)
    → AreOfSomeFile instance.blocks instance.live → IsLatencyTable instance.table
    → IsLegal instance book → book.entries ≡ before ++ Take leader unit ∷ behind
    → (insns : List Insn) × (cut : finite.FinSet nat_cmp) × HasPresentCut instance (reverse before) leader insns cut
    × IsBest (graph_at instance leader insns) instance.plan.limits (finite.contains cut)

-- A take of a legal book names the unit of the cut that it takes: the unit at its number is that one.
abbrev pub TakesNameTheirUnits : Type 0
TakesNameTheirUnits =
    (instance : Instance) (book : Book) (units : List Unit) (before behind : List Entry) (leader number : ℕ)
    → AreInOrder instance.blocks → IsLegal instance book → AreUnits instance (reverse book.entries) units
    → book.entries ≡ before ++ Take leader number ∷ behind
    → (unit : Unit) × IsUnitAt instance (reverse before) leader unit × (slice_get units number ≡ Some unit)

-- Behind a legal book each block of the file is present: it has instructions in the program with the folded blocks.
abbrev pub EachBlockIsPresent : Type 0
EachBlockIsPresent =
    (instance : Instance) (book : Book) (block : Block) → IsLegal instance book → Contains instance.blocks block
    → (insns : List Insn) × IsPresent instance (reverse book.entries) block.leader insns

-- A legal book has a search of each block that was entered.
abbrev pub EachEnteredBlockIsSearched : Type 0
EachEnteredBlockIsSearched =
    (instance : Instance) (book : Book) (leader : ℕ) → IsLegal instance book → Contains (entered instance) leader
    → (entry : Entry) × Contains book.entries entry × (is_search_of leader entry ≡ true)

-- ---- there is one of each

-- A history has one present block at a leader, one list of units, one number of cycles that it saves, and one thing
-- that is due.
abbrev pub PresentIsOne : Type 0
PresentIsOne =
    (instance : Instance) (history : History) (leader : ℕ) (left right : List Insn)
    → AreInOrder instance.blocks → IsPresent instance history leader left → IsPresent instance history leader right
    → left ≡ right

abbrev pub UnitsAreOne : Type 0
UnitsAreOne =
    (instance : Instance) (history : History) (left right : List Unit)
    → AreInOrder instance.blocks → AreUnits instance history left → AreUnits instance history right → left ≡ right

abbrev pub SavedIsOne : Type 0
SavedIsOne =
    (instance : Instance) (history : History) (left right : ℕ)
    → AreInOrder instance.blocks → IsSaved instance history left → IsSaved instance history right → left ≡ right

abbrev pub DueIsOne : Type 0
DueIsOne =
    (instance : Instance) (history : History) (left right : Due)
    → AreInOrder instance.blocks → IsLegalHistory instance history
    → IsDue instance history left → IsDue instance history right → left ≡ right

-- There is one new file of a file and a legal history, of lists of bytes.
abbrev pub NewFileIsOne : Type 0
NewFileIsOne =
    (instance : Instance) (file : Executable) (history : History) (left right : List ℕ)
    → IsWellFormed file → AreBytes file.bytes → AreBlocksOf file instance.blocks instance.live
    → IsLegalHistory instance history
    → IsNewFile instance file history left → IsNewFile instance file history right
    → AreBytes left → AreBytes right → left ≡ right

-- An instance has one legal book in which each search was given up exactly by need, but for the logs.
abbrev pub ChoiceIsOne : Type 0
ChoiceIsOne =
    (instance : Instance) (left right : Book)
    → AreOfSomeFile instance.blocks instance.live → IsLatencyTable instance.table
    → IsLegal instance left → GivesUpByNeed instance (reverse left.entries)
    → IsLegal instance right → GivesUpByNeed instance (reverse right.entries)
    → AreOneButLogs left.entries right.entries × (left.finish ≡ right.finish)

-- A book with modules and a new file has one verdict.
abbrev pub VerdictIsOne : Type 0
VerdictIsOne =
    (instance : Instance) (file : Executable) (book : Book) (modules : List Module) (new : List ℕ)
    (left right : Verdict)
    → AreInOrder instance.blocks → IsVerdict instance file book modules new left
    → IsVerdict instance file book modules new right → left ≡ right

-- ---- what legal books keep

-- The entries of a legal book of a file's blocks stand in the order of its grammar, and each has what it allows.
abbrev pub LegalBooksAreBooks : Type 0
LegalBooksAreBooks =
    (instance : Instance) (book : Book)
    → AreOfSomeFile instance.blocks instance.live → AllByRecursion HasShortLog book.entries → IsLegal instance book
    → IsBook book

-- ---- histories that are one but for their logs

-- What is due behind one is due behind the other, with the same present blocks, units and cycles that are saved, and
-- the same new files.
pub record SayTheSame (instance : Instance) (left right : History) : Type 0 where
  pub due : (what : Due) → IsDue instance left what → IsDue instance right what
  pub present :
      (leader : ℕ) (insns : List Insn) → IsPresent instance left leader insns → IsPresent instance right leader insns
  pub units : (units : List Unit) → AreUnits instance left units → AreUnits instance right units
  pub saved : (saved : ℕ) → IsSaved instance left saved → IsSaved instance right saved
  pub new_file :
      (file : Executable) (bytes : List ℕ) → IsNewFile instance file left bytes → IsNewFile instance file right bytes

-- So logs alone make no difference.
abbrev pub LogsDecideNothing : Type 0
LogsDecideNothing =
    (instance : Instance) (left right : History) → AreOneButLogs left right → SayTheSame instance left right

-- ---- instances that say the same

-- What is acceptable for an instance is so for each that says the same.
abbrev pub AcceptableAlike : Type 0
AcceptableAlike =
    (left right : Instance) (file : Executable) (book : Book) (modules : List Module) (new : List ℕ)
    → AreAlike left right → IsAcceptable left file book modules new → IsAcceptable right file book modules new

-- ---- what units save

-- The units of a legal book save all that its cuts do,
abbrev pub UnitsSaveAll : Type 0
UnitsSaveAll =
    (instance : Instance) (book : Book) (units : List Unit) (gains : ℕ → ℕ) (saved : ℕ)
    → AreInOrder instance.blocks → IsLegal instance book → AreUnits instance (reverse book.entries) units
    → ((unit : ℕ) → unit < length units → IsSavedBy instance unit (reverse book.entries) (gains unit))
    → IsSaved instance (reverse book.entries) saved → sum_below (length units) (λ _. true) gains ≡ saved

-- and each of them saves something.
abbrev pub EachUnitSaves : Type 0
EachUnitSaves =
    (instance : Instance) (book : Book) (units : List Unit) (unit saved : ℕ)
    → AreOfSomeFile instance.blocks instance.live → IsLegal instance book
    → AreUnits instance (reverse book.entries) units → unit < length units
    → IsSavedBy instance unit (reverse book.entries) saved → 1 ≤ saved

-- A unit saves one number of cycles.
abbrev pub SavedByIsOne : Type 0
SavedByIsOne =
    (instance : Instance) (unit : ℕ) (history : History) (left right : ℕ)
    → AreInOrder instance.blocks → IsSavedBy instance unit history left → IsSavedBy instance unit history right
    → left ≡ right

-- The blocks are entered no more often than the profiled run has steps.
abbrev pub EntriesAreSteps : Type 0
EntriesAreSteps =
    (file : Executable) (blocks : List Block) (live : Sets) (meaning : Meaning) (n : ℕ) (state : State)
    (latencies : Latencies) (profile : Profile)
    → AreBlocksOf file blocks live → IsProfileOf meaning (loaded_program file) n state latencies profile
    → sum_by (λ block. entries_in profile block.leader) blocks ≤ n

-- So a legal book saves less than 2 to the power 63 cycles,
abbrev pub SavedIsFew : Type 0
SavedIsFew =
    (instance : Instance) (book : Book) (saved : ℕ)
    → AreOfSomeFile instance.blocks instance.live → IsLatencyTable instance.table → IsLegal instance book
    → entries_of instance ≤ 2 ^ 32 → IsSaved instance (reverse book.entries) saved → saved < 2 ^ 63

-- and so do its takes.
abbrev pub TakesSaveFew : Type 0
TakesSaveFew =
    (instance : Instance) (book : Book) (takes : List Taken)
    → AreOfSomeFile instance.blocks instance.live → IsLatencyTable instance.table → IsLegal instance book
    → entries_of instance ≤ 2 ^ 32 → AreTaken instance (reverse book.entries) (reverse takes)
    → sum_by cycles_of takes < 2 ^ 63
