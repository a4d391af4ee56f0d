-- The cuts of a book that were taken, by what a choice tells of them.
use Rattle.std.specs.Prelude.{◌≡◌, ℕ, ◌*◌, false, pos, List, [], ◌∷◌}
use Rattle.std.specs.FinSet as finite
use Rattle.ci_isa.specs.declared.instruction.Insn.{Insn}
use Rattle.ci_isa.specs.Table.{IsWordOf}
use Rattle.ci_cut.specs.Gain.{gain}
use Rattle.ci_log.specs.declared.book.Entry.{Entry}
use Rattle.ci_log.specs.declared.book.Entry.TheVariants.{Take}
use Rattle.ci_unit.specs.Uses.{unit_word}
use Rattle.ci_select.specs.declared.taken.Taken.{Taken}
use Rattle.ci_select.specs.Histories.{History, is_take, round}
use Rattle.ci_select.specs.Instances.{Instance}
use Rattle.ci_select.specs.PresentBlocks.{HasPresentCut, graph_at}

-- what a take saves over the profiled run, in cycles
abbrev pub cycles_of : Taken → ℕ
cycles_of taken = taken.gain * taken.entries

module _ (instance : Instance) where
  -- This is the cut that the last search of the block found, taken as the unit of this number.
  pub record IsTaken (history : History) (leader unit : ℕ) (taken : Taken) : Type 0 where
    pub insns : List Insn
    pub has_cut : HasPresentCut instance history leader insns taken.cut
    pub round_is : taken.round ≡ round history
    pub leader_is : taken.leader ≡ leader
    pub unit_is : taken.unit ≡ unit
    pub entries_are : taken.entries ≡ instance.entries leader
    pub gain_is : pos taken.gain ≡ gain (graph_at instance leader insns) (finite.contains taken.cut)
    pub word_is :
        IsWordOf taken.word (unit_word insns (graph_at instance leader insns) (finite.contains taken.cut) unit)

  -- These are the cuts that were taken, the newest first.
  pub data AreTaken : History → List Taken → Type 0 where
    none : AreTaken [] []
    of_search :
        {history : History} {entry : Entry} {takes : List Taken}
        → is_take entry ≡ false → AreTaken history takes → AreTaken (entry ∷ history) takes
    of_take :
        {history : History} {leader unit : ℕ} {takes : List Taken} {taken : Taken}
        → AreTaken history takes → IsTaken history leader unit taken
        → AreTaken (Take leader unit ∷ history) (taken ∷ takes)
