-- The units of a book, by their numbers.
use Rattle.std.specs.Prelude.{◌≡◌, ℕ, false, List, [], ◌∷◌, ◌++◌}
use Rattle.std.specs.FinSet as finite
use Rattle.std.specs.List.{Contains}
use Rattle.std.specs.Ordering.{nat_cmp}
use Rattle.ci_isa.specs.declared.instruction.Insn.{Insn}
use Rattle.ci_log.specs.declared.book.Entry.{Entry}
use Rattle.ci_log.specs.declared.book.Entry.TheVariants.{Take}
use Rattle.ci_unit.specs.Units.{Unit, unit_of}
use Rattle.ci_select.specs.Histories.{History, is_take}
use Rattle.ci_select.specs.Instances.{Instance}
use Rattle.ci_select.specs.PresentBlocks.{HasPresentCut, graph_at}

module _ (instance : Instance) where
  -- the unit of the cut that the last search of the block found
  pub record IsUnitAt (history : History) (leader : ℕ) (unit : Unit) : Type 0 where
    pub insns : List Insn
    pub cut : finite.FinSet nat_cmp
    pub has_cut : HasPresentCut instance history leader insns cut
    pub unit_is : unit ≡ unit_of insns (graph_at instance leader insns) (finite.contains cut)

  -- The units so far, in the order of their numbers: the unit of each take once, where it was taken first.
  pub data AreUnits : History → List Unit → Type 0 where
    none : AreUnits [] []
    of_search :
        {history : History} {entry : Entry} {units : List Unit}
        → is_take entry ≡ false → AreUnits history units → AreUnits (entry ∷ history) units
    known :
        {history : History} {leader number : ℕ} {units : List Unit} {unit : Unit}
        → AreUnits history units → IsUnitAt history leader unit → Contains units unit
        → AreUnits (Take leader number ∷ history) units
    new :
        {history : History} {leader number : ℕ} {units : List Unit} {unit : Unit}
        → AreUnits history units → IsUnitAt history leader unit → ¬ Contains units unit
        → AreUnits (Take leader number ∷ history) (units ++ unit ∷ [])
