-- The report of a choice of cuts.
use Rattle.std.specs.Prelude.{◌≡◌, ℕ, suc, ◌==◌, Bool, false, nat_lt, pos, List, [], ◌∷◌, ◌++◌, length, filter, reverse}
use Rattle.std.specs.FinSet as finite
use Rattle.std.specs.List.{flat_map}
use Rattle.std.specs.Ordering.{nat_cmp}
use Rattle.ci_isa.specs.declared.instruction.Insn.{Insn}
use Rattle.ci_isa.specs.Table.{IsWordOf}
use Rattle.ci_block.specs.declared.blocks.Block.{Block}
use Rattle.ci_block.specs.Blocks.{size_of}
use Rattle.ci_cut.specs.Gain.{gain}
use Rattle.ci_emu.specs.declared.profile.Profile.{Profile}
use Rattle.ci_log.specs.declared.book.Entry.{Entry}
use Rattle.ci_log.specs.declared.book.Entry.TheVariants.{Best, Without, Spent, Take}
use Rattle.ci_log.specs.declared.log.Item.{Item}
use Rattle.ci_log.specs.Books.{Book}
use Rattle.ci_unit.specs.Units.{Unit}
use Rattle.ci_unit.specs.Uses.{unit_word}
use Rattle.ci_select.specs.Histories.{History, round}
use Rattle.ci_select.specs.Instances.{Instance}
use Rattle.ci_select.specs.PresentBlocks.{HasPresentCut, graph_at}
use Rattle.ci_select.specs.UnitNumbers.{AreUnits}
use Rattle.ci_select.specs.Savings.{IsSaved}
use Rattle.ci_report.specs.Lines.{first_line, plan_line, profile_line, block_line, cut_line, skip_line, unit_line}
use Rattle.ci_report.specs.Lines.{total_line}

-- ---- blocks

-- the lines of the blocks that were entered, in the order of their leaders
abbrev pub block_lines : (ℕ → ℕ) → List Block → List ℕ
block_lines entries blocks =
    flat_map (λ block. block_line block.leader (size_of block) (entries block.leader))
    (filter (λ block. nat_lt 0 (entries block.leader)) blocks)

-- ---- takes and skips

module _ (instance : Instance) where
  -- The line of an entry behind those before it: a take and a search that was given up have one, other searches none.
  pub data IsEntryLine (history : History) : Entry → List ℕ → Type 0 where
    of_best :
        {leader : ℕ} {cut : finite.FinSet nat_cmp} {log : List Item} → IsEntryLine history (Best leader cut log) []
    of_none : {leader : ℕ} {log : List Item} → IsEntryLine history (Without leader log) []
    of_skip :
        {leader budget : ℕ}
        → IsEntryLine history (Spent leader budget) (skip_line (round history) leader budget)
    of_take :
        {leader unit gained word : ℕ} {insns : List Insn} {cut : finite.FinSet nat_cmp}
        → HasPresentCut instance history leader insns cut
        → pos gained ≡ gain (graph_at instance leader insns) (finite.contains cut)
        → IsWordOf word (unit_word insns (graph_at instance leader insns) (finite.contains cut) unit)
        → IsEntryLine history (Take leader unit)
        (cut_line (round history) leader unit gained (instance.entries leader) (finite.contains cut) word)

  -- the lines of the entries up to some place, in the order of the book
  pub data AreEntryLines : History → List ℕ → Type 0 where
    none : AreEntryLines [] []
    more :
        {history : History} {entry : Entry} {lines added : List ℕ}
        → AreEntryLines history lines → IsEntryLine history entry added
        → AreEntryLines (entry ∷ history) (lines ++ added)

-- ---- units

-- it is a take as the unit of this number
abbrev pub is_take_as : ℕ → Entry → Bool
is_take_as number (Take leader unit) = unit == number
is_take_as number entry = false

-- how many of the entries are
abbrev pub uses_of : List Entry → ℕ → ℕ
uses_of entries number = length (filter (is_take_as number) entries)

-- the lines of the units from this number on, with their uses among the entries
abbrev pub unit_lines : List Entry → ℕ → List Unit → List ℕ
unit_lines entries number [] = []
unit_lines entries number (unit ∷ units) =
    unit_line number unit (uses_of entries number) ++ unit_lines entries (suc number) units

-- ---- the whole text

-- the text is the report of the book over the profile
pub record IsReport (instance : Instance) (profile : Profile) (book : Book) (text : List ℕ) : Type 0 where
  pub entry_lines : List ℕ
  pub units : List Unit
  pub saved : ℕ
  pub entry_lines_are : AreEntryLines instance (reverse book.entries) entry_lines
  pub units_are : AreUnits instance (reverse book.entries) units
  pub saved_is : IsSaved instance (reverse book.entries) saved
  pub text_is :
      text
      ≡ first_line ++ plan_line instance.plan instance.table
      ++ profile_line profile.end profile.steps profile.cost ++ block_lines instance.entries instance.blocks
      ++ entry_lines ++ unit_lines book.entries 0 units ++ total_line saved
