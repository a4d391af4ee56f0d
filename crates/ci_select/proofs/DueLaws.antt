-- What is due behind a history is one thing.
use Rattle.std.proofs.Common.{◌≡◌, ℕ, inl, inr, List, length, Option, Some, None, refl, sym, ap, subst}
use Rattle.ci_block.specs.Blocks.{AreInOrder}
use Rattle.ci_log.specs.declared.book.Finish.TheVariants.{Empty, Count}
use Rattle.ci_unit.specs.Units.{Unit}
use Rattle.ci_select.specs.declared.rounds.Due.{Due}
use Rattle.ci_select.specs.declared.rounds.Due.TheVariants as due
use Rattle.ci_select.specs.Histories.{History}
use Rattle.ci_select.specs.Instances.{Instance}
use Rattle.ci_select.specs.UnitNumbers.{IsUnitAt}
use Rattle.ci_select.specs.Candidates.{HasNoCandidate}
use Rattle.ci_select.specs.Dues.{HasNoSearchDue, IsDue, IsNextTake, IsSearchDue, ends_empty, ends_full, searches, takes_known, takes_new}
use Rattle.ci_select.specs.private.Followed.{IsNumberFor}
use Rattle.ci_select.specs.Laws.{DueIsOne}
pub use Rattle.ci_select.proofs.SearchDues.{search_due_is_one}
use Rattle.ci_select.proofs.CandidateLaws.{due_candidate_is_one}
use Rattle.ci_select.proofs.UnitLaws.{number_is_one, unit_is_one, units_are_one}

-- ---- three kinds of what is due

-- the take of the candidate as the unit of the number, or the end where there is no number for its unit
abbrev pub due_of : ℕ → Option ℕ → Due
due_of leader None = due.End Count
due_of leader (Some number) = due.Take leader number

-- a search, a take by the number for its unit, or the end where there is no candidate
pub data IsWay (instance : Instance) (history : History) : Due → Type 0 where
  by_search : {leader : ℕ} → IsSearchDue instance history leader → IsWay instance history (due.Search leader)
  by_take :
      {leader : ℕ} {units : List Unit} {unit : Unit} (number : Option ℕ)
      → IsNextTake instance history leader units unit → IsNumberFor units instance.plan.count unit number
      → IsWay instance history (due_of leader number)
  by_end :
      HasNoSearchDue instance history → HasNoCandidate instance history → IsWay instance history (due.End Empty)

way_of :
    {instance : Instance} {history : History} {what : Due} → IsDue instance history what
    → IsWay instance history what
way_of (searches is) = by_search is
way_of (takes_known {number = number} next at) = by_take (Some number) next (inl at)
way_of (takes_new {units = units} next apart few) = by_take (Some (length units)) next (inr (apart, refl, few))
way_of (ends_empty no_search no_candidate) = by_end no_search no_candidate
way_of (ends_full next apart full) = by_take None next (apart, full)

-- and back
pub due_by_number :
    {instance : Instance} {history : History} {leader : ℕ} {units : List Unit} {unit : Unit} (number : Option ℕ)
    → IsNextTake instance history leader units unit → IsNumberFor units instance.plan.count unit number
    → IsDue instance history (due_of leader number)
due_by_number None next none = ends_full next none.0 none.1
due_by_number (Some number) next (inl at) = takes_known next at
due_by_number {instance} {history} {leader} (Some number) next (inr is) =
    subst (λ n. IsDue instance history (due.Take leader n)) (sym is.1) (takes_new next is.0 is.2)

-- the cut whose take is due is that of the candidate
pub next_of_take :
    {instance : Instance} {history : History} {leader number : ℕ} → IsDue instance history (due.Take leader number)
    → (units : List Unit) × (unit : Unit) × IsNextTake instance history leader units unit
next_of_take (takes_known {units = units} {unit = unit} next at) = (units, unit, next)
next_of_take (takes_new {units = units} {unit = unit} next apart few) = (units, unit, next)

-- ---- one of them

module _ (instance : Instance) (history : History) (order : AreInOrder instance.blocks) where
  way_is_one : (left right : Due) → IsWay instance history left → IsWay instance history right → left ≡ right
  way_is_one left right (by_search l) (by_search r) = ap due.Search (search_due_is_one l r)
  way_is_one left right (by_search l) (by_take number next is) = absurd (next.no_search _ l)
  way_is_one left right (by_search l) (by_end no_search no_candidate) = absurd (no_search _ l)
  way_is_one left right (by_take number next is) (by_search r) = absurd (next.no_search _ r)
  way_is_one left right (by_take number next is) (by_end no_search no_candidate) =
      absurd (no_candidate _ _ next.candidate.candidate)
  way_is_one left right (by_end no_search no_candidate) (by_search r) = absurd (no_search _ r)
  way_is_one left right (by_end no_search no_candidate) (by_take number next is) =
      absurd (no_candidate _ _ next.candidate.candidate)
  way_is_one left right (by_end no_search no_candidate) (by_end again also) = refl
  way_is_one left right
      (by_take {leader = l} {units = a} {unit = u} number next is)
      (by_take {leader = m} {units = b} {unit = v} other after has) =
      let leaders : l ≡ m = due_candidate_is_one order next.candidate after.candidate in
      let units : a ≡ b = units_are_one instance history a b order next.units_are after.units_are in
      let here = subst (λ leader. IsUnitAt instance history leader v) (sym leaders) after.unit_is in
      let unit : u ≡ v = unit_is_one order next.unit_is here in
      let numbers = number_is_one next.units_are u instance.plan.count number other is
      (subst (λ us. IsNumberFor us instance.plan.count u other) (sym units)
      (subst (λ w. IsNumberFor b instance.plan.count w other) (sym unit) has)) in
      λ i. due_of (leaders i) (numbers i)

pub due_is_one : DueIsOne
due_is_one instance history left right order legal l r =
    way_is_one instance history order left right (way_of l) (way_of r)
