-- The first wrong place of a book, of the modules of its units, and of its new file; and what a verdict on them says.
use Rattle.std.specs.Prelude.{◌≡◌, ℕ, List, [], ◌∷◌, ◌++◌, map, reverse, Some, None, ⊤}
use Rattle.ci_isa.specs.declared.instruction.Insn.{Insn}
use Rattle.ci_elf.specs.Executables.{Executable}
use Rattle.ci_cut.specs.FlowGraph.{FlowGraph}
use Rattle.ci_cut.specs.Need.{NeedExceeds}
use Rattle.ci_log.specs.declared.book.Entry.{Entry}
use Rattle.ci_log.specs.declared.book.Entry.TheVariants.{Best, Without, Spent, Take}
use Rattle.ci_log.specs.declared.book.Finish.{Finish}
use Rattle.ci_log.specs.Books.{Book}
use Rattle.ci_check.specs.declared.checking.Wrong.{Wrong}
use Rattle.ci_check.specs.Rules.{IsFirstWrong}
use Rattle.ci_unit.specs.Units.{Unit}
use Rattle.ci_verilog.specs.Modules.{Module}
use Rattle.ci_vemit.specs.Templates.{modules_of}
use Rattle.ci_select.specs.declared.acceptance.Verdict.{Verdict}
use Rattle.ci_select.specs.declared.acceptance.Verdict.TheVariants.{Accepted, Rejected}
use Rattle.ci_select.specs.declared.plan.Plan.{Plan}
use Rattle.ci_select.specs.declared.rounds.Due.TheVariants as due
use Rattle.ci_select.specs.Histories.{History, round}
use Rattle.ci_select.specs.Instances.{Instance}
use Rattle.ci_select.specs.PresentBlocks.{IsPresent, graph_at}
use Rattle.ci_select.specs.UnitNumbers.{AreUnits}
use Rattle.ci_select.specs.Dues.{IsDue}
use Rattle.ci_select.specs.LegalBooks.{IsLegal, IsLegalHistory}
use Rattle.ci_select.specs.NewFiles.{IsNewFile}

-- ---- entries and the end

-- an entry, or the end
pub data Part : Type 0 where
  entry : Entry → Part
  finish : Finish → Part

-- the entries and the end of a book, in order
abbrev pub parts_of : Book → List Part
parts_of book = map (λ e. entry e) book.entries ++ finish book.finish ∷ []

-- It is no search entry of the block, or gives the search up with another budget, or where the need isn't greater.
abbrev pub IsOtherSearch : ℕ → FlowGraph → Plan → Part → Type 0
IsOtherSearch leader graph plan (entry (Best l cut log)) = ¬ (l ≡ leader)
IsOtherSearch leader graph plan (entry (Without l log)) = ¬ (l ≡ leader)
IsOtherSearch leader graph plan (entry (Spent l budget)) =
    ¬ ((l ≡ leader) × (budget ≡ plan.budget) × NeedExceeds graph plan.limits plan.budget)
IsOtherSearch leader graph plan (entry (Take l unit)) = ⊤
IsOtherSearch leader graph plan (finish f) = ⊤

-- It is a search entry of the block, and this is the first item of its log that is wrong.
abbrev pub HasWrongLog : ℕ → FlowGraph → Plan → Part → Wrong → Type 0
HasWrongLog leader graph plan (entry (Best l cut log)) wrong =
    (l ≡ leader) × IsFirstWrong graph plan.limits (Some cut) log wrong
HasWrongLog leader graph plan (entry (Without l log)) wrong =
    (l ≡ leader) × IsFirstWrong graph plan.limits None log wrong
HasWrongLog leader graph plan part wrong = ⊥

-- the number of takes before, the leader of the block that is due, the number of an item of a log, and the reason
pub record Place : Type 0 where
  pub round : ℕ
  pub leader : ℕ
  pub item : ℕ
  pub reason : ℕ

abbrev pub place : ℕ → ℕ → ℕ → ℕ → Place
place round leader item reason = record { round = round; leader = leader; item = item; reason = reason }

module _ (instance : Instance) where
  -- The part is wrong behind a legal history, at this place: of a log that is wrong the item and its reason, 8 where a
  -- search is due and another part stands, 9 where a take is, and 10 where an end is. The round is the number of takes
  -- before.
  pub data IsWrongPart (history : History) (part : Part) : Place → Type 0 where
    wrong_log :
        {leader : ℕ} {insns : List Insn} {wrong : Wrong}
        → IsDue instance history (due.Search leader) → IsPresent instance history leader insns
        → HasWrongLog leader (graph_at instance leader insns) instance.plan part wrong
        → IsWrongPart history part (place (round history) leader wrong.item wrong.reason)
    no_search :
        {leader : ℕ} {insns : List Insn}
        → IsDue instance history (due.Search leader) → IsPresent instance history leader insns
        → IsOtherSearch leader (graph_at instance leader insns) instance.plan part
        → IsWrongPart history part (place (round history) leader 0 8)
    no_take :
        {leader unit : ℕ}
        → IsDue instance history (due.Take leader unit) → ¬ (part ≡ entry (Take leader unit))
        → IsWrongPart history part (place (round history) leader 0 9)
    no_end :
        {f : Finish}
        → IsDue instance history (due.End f) → ¬ (part ≡ finish f)
        → IsWrongPart history part (place (round history) 0 0 10)

  -- the first part of the book that is wrong, where all before it are right
  pub record IsFirstWrongPart (book : Book) (wrong : Place) : Type 0 where
    pub before : List Entry
    pub part : Part
    pub behind : List Part
    pub split : parts_of book ≡ map (λ e. entry e) before ++ part ∷ behind
    pub legal : IsLegalHistory instance (reverse before)
    pub is_wrong : IsWrongPart (reverse before) part wrong

  -- ---- books with modules and a new file

  module _ (file : Executable) (book : Book) (modules : List Module) (new : List ℕ) where
    -- the modules are those of the book's units
    abbrev pub AreModules : Type 0
    AreModules = (units : List Unit) × AreUnits instance (reverse book.entries) units × (modules ≡ modules_of units)

    -- The book is legal, with the modules of its units and its new file.
    pub record IsAcceptable : Type 0 where
      pub legal : IsLegal instance book
      pub modules_are : AreModules
      pub new_is : IsNewFile instance file (reverse book.entries) new

    -- The first wrong place: in the book, then the modules, then the new file. Of the last two the round is the number
    -- of all takes, and they have no leader and no item.
    pub data IsFirstWrongPlace : Place → Type 0 where
      in_book : {wrong : Place} → IsFirstWrongPart book wrong → IsFirstWrongPlace wrong
      other_modules :
          IsLegal instance book → ¬ AreModules → IsFirstWrongPlace (place (round (reverse book.entries)) 0 0 11)
      other_file :
          IsLegal instance book → AreModules → ¬ IsNewFile instance file (reverse book.entries) new
          → IsFirstWrongPlace (place (round (reverse book.entries)) 0 0 12)

    -- the verdict is right
    abbrev pub IsVerdict : Verdict → Type 0
    IsVerdict Accepted = IsAcceptable
    IsVerdict (Rejected round leader item reason) = IsFirstWrongPlace (place round leader item reason)
