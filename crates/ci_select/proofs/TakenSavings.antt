-- What is told of takes says what they save.
use Rattle.std.proofs.Common.{◌≡◌, ℕ, ◌+◌, ◌*◌, ◌≤◌, Bool, true, false, List, refl, sym, ap, ◌∙◌, subst, inl, inr, arith}
use Rattle.std.specs.Prelude.{pos, ◌*ℤ◌, if◌then◌else◌, ◌==◌, reverse}
use Rattle.std.specs.FinSet as finite
use Rattle.std.specs.List.{sum_by}
use Rattle.std.proofs.lemmas.Bool.{cases_eq, eq-eqb, ne_eqb}
use Rattle.std.proofs.lemmas.List.Sorted.{IsPermutation-reverse, sum_by-IsPermutation}
use Rattle.std.proofs.lemmas.List.Sums.{sum_by-cons}
use Rattle.ci_cut.specs.Gain.{gain}
use Rattle.ci_select.specs.declared.taken.Taken.{Taken}
use Rattle.ci_select.specs.Histories.{History}
use Rattle.ci_select.specs.Instances.{Instance}
use Rattle.ci_select.specs.PresentBlocks.{graph_at}
use Rattle.ci_select.specs.Candidates.{IsCandidate}
use Rattle.ci_select.specs.Savings.{IsSaved, IsSavedBy, none, of_search, of_take, by_none, by_search, by_other, by_take}
use Rattle.ci_select.specs.Takes.{AreTaken, IsTaken, cycles_of}
use Rattle.ci_select.specs.Takes as taken

-- a take is that of a candidate, which saves its cycles
taken_saves :
    {instance : Instance} {history : History} {leader unit : ℕ} {take : Taken} → IsTaken instance history leader unit take
    → IsCandidate instance history leader (pos (cycles_of take))
taken_saves {instance} {leader = leader} {take = take} is = record {
  insns = is.insns;
  cut = take.cut;
  has_cut = is.has_cut;
  saved_is =
      as_product take.gain take.entries
      ∙ ap (λ z. z *ℤ pos take.entries) is.gain_is
      ∙ ap (λ n. gain (graph_at instance leader is.insns) (finite.contains take.cut) *ℤ pos n) is.entries_are;
}
  where
    as_product : (a b : ℕ) → pos (a * b) ≡ pos a *ℤ pos b
    as_product a b = refl

-- so the takes save their cycles together
pub takes_save :
    {instance : Instance} {history : History} {takes : List Taken} → AreTaken instance history takes
    → IsSaved instance history (sum_by cycles_of takes)
takes_save taken.none = none
takes_save (taken.of_search found before) = of_search found (takes_save before)
takes_save {instance} {history} (taken.of_take {takes = ts} {taken = t} before is) =
    subst (IsSaved instance history) (other_way (cycles_of t) (sum_by cycles_of ts) ∙ sym (sum_by-cons cycles_of t ts))
    (of_take (takes_save before) (taken_saves is))
  where
    other_way : (a b : ℕ) → b + a ≡ a + b
    other_way a b = omega arith

-- what a take saves, where it is one of this unit
abbrev pub cycles_by : ℕ → Taken → ℕ
cycles_by unit take = if take.unit == unit then cycles_of take else 0

-- which is no more than it saves
pub at_most_all : (unit : ℕ) (take : Taken) → cycles_by unit take ≤ cycles_of take
at_most_all unit take = by_test (take.unit == unit)
  where
    by_test : (b : Bool) → (if b then cycles_of take else 0) ≤ cycles_of take
    by_test true = omega arith
    by_test false = omega arith

unit_takes_save :
    {instance : Instance} {history : History} {takes : List Taken} (unit : ℕ) → AreTaken instance history takes
    → IsSavedBy instance unit history (sum_by (cycles_by unit) takes)
unit_takes_save unit taken.none = by_none
unit_takes_save unit (taken.of_search found before) = by_search found (unit_takes_save unit before)
unit_takes_save {instance} {history} unit (taken.of_take {unit = u} {takes = ts} {taken = t} before is) =
    elim (cases_eq t.unit unit) [
      | inl its ↦
          subst (IsSavedBy instance unit history)
          (other_way (cycles_of t) (cycles_by unit t) (sum_by (cycles_by unit) ts)
          (ap (λ b. if b then cycles_of t else 0) (sym (eq-eqb t.unit unit its)))
          ∙ sym (sum_by-cons (cycles_by unit) t ts))
          (by_take (sym is.unit_is ∙ its) (unit_takes_save unit before) (taken_saves is))
      | inr other ↦
          subst (IsSavedBy instance unit history)
          (nothing_more (cycles_by unit t) (sum_by (cycles_by unit) ts)
          (ap (λ b. if b then cycles_of t else 0) (ne_eqb t.unit unit other))
          ∙ sym (sum_by-cons (cycles_by unit) t ts))
          (by_other (λ same. other (is.unit_is ∙ same)) (unit_takes_save unit before))
    ]
  where
    other_way : (c a b : ℕ) → c ≡ a → b + c ≡ a + b
    other_way c a b same = omega arith

    nothing_more : (a b : ℕ) → a ≡ 0 → b ≡ a + b
    nothing_more a b is_none = omega arith

-- in either order
pub saved_in_order :
    (instance : Instance) (history : History) (takes : List Taken) (unit : ℕ) → AreTaken instance history (reverse takes)
    → IsSavedBy instance unit history (sum_by (cycles_by unit) takes)
saved_in_order instance history takes unit are =
    subst (IsSavedBy instance unit history) (sum_by-IsPermutation (cycles_by unit) takes (reverse takes) (IsPermutation-reverse takes))
    (unit_takes_save unit are)
