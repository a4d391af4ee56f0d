-- What is due behind the entries of a book so far: a search, a take or the end. The choice is that of the iterative
-- selection of Atasu, Pozzi, Ienne (DAC 2003) and Pozzi, Atasu, Ienne (TCAD 2006), with weights and an order among
-- equals of this project's own.
use Rattle.std.specs.Prelude.{◌≡◌, ℕ, ◌<◌, ◌≤◌, List, ◌∷◌, length, Some, slice_get}
use Rattle.std.specs.List.{Contains}
use Rattle.ci_log.specs.declared.book.Entry.TheVariants.{Take}
use Rattle.ci_log.specs.declared.book.Finish.TheVariants.{Empty, Count}
use Rattle.ci_unit.specs.Units.{Unit}
use Rattle.ci_select.specs.declared.rounds.Due.{Due}
use Rattle.ci_select.specs.declared.rounds.Due.TheVariants as due
use Rattle.ci_select.specs.Histories.{History, round}
use Rattle.ci_select.specs.Instances.{Instance, entered}
use Rattle.ci_select.specs.UnitNumbers.{AreUnits, IsUnitAt}
use Rattle.ci_select.specs.Candidates.{IsDueCandidate, HasNoCandidate}

module _ (instance : Instance) where
  -- A search of the block is due: of each block that was entered, in ascending order, before the first take, and of the
  -- block that was taken just now.
  pub data IsSearchDue : History → ℕ → Type 0 where
    at_first :
        {history : History} {leader : ℕ}
        → round history ≡ 0 → slice_get (entered instance) (length history) ≡ Some leader → IsSearchDue history leader
    after_take : {history : History} {leader unit : ℕ} → IsSearchDue (Take leader unit ∷ history) leader

  abbrev pub HasNoSearchDue : History → Type 0
  HasNoSearchDue history = (leader : ℕ) → ¬ IsSearchDue history leader

  -- No search is due, and this block is the candidate that is; the unit of its cut, and the units so far.
  pub record IsNextTake (history : History) (leader : ℕ) (units : List Unit) (unit : Unit) : Type 0 where
    pub no_search : HasNoSearchDue history
    pub candidate : IsDueCandidate instance history leader
    pub units_are : AreUnits instance history units
    pub unit_is : IsUnitAt instance history leader unit

  -- This is due. A take names the number of the equal unit, or the next number where there is none and there may be one
  -- more. The candidate that is due alone decides whether the end is: that another one would need no new unit counts
  -- for nothing.
  pub data IsDue (history : History) : Due → Type 0 where
    searches : {leader : ℕ} → IsSearchDue history leader → IsDue history (due.Search leader)
    takes_known :
        {leader number : ℕ} {units : List Unit} {unit : Unit}
        → IsNextTake history leader units unit → slice_get units number ≡ Some unit
        → IsDue history (due.Take leader number)
    takes_new :
        {leader : ℕ} {units : List Unit} {unit : Unit}
        → IsNextTake history leader units unit → ¬ Contains units unit → length units < instance.plan.count
        → IsDue history (due.Take leader (length units))
    ends_empty : HasNoSearchDue history → HasNoCandidate instance history → IsDue history (due.End Empty)
    ends_full :
        {leader : ℕ} {units : List Unit} {unit : Unit}
        → IsNextTake history leader units unit → ¬ Contains units unit → instance.plan.count ≤ length units
        → IsDue history (due.End Count)
