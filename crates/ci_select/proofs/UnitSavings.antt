-- What the units of a legal book save.
use Rattle.std.proofs.Common.{◌≡◌, ℕ, ◌+◌, ◌<◌, ◌≤◌, true, List, ◌∷◌, length, true≢false, refl, sym, ap, ◌∙◌, subst, inl, inr, arith}
use Rattle.std.specs.Prelude.{pos, if◌then◌else◌, ◌==◌, reverse}
use Rattle.std.specs.List.{Contains}
use Rattle.std.proofs.lemmas.Bool.{cases_eq, eq-eqb, ne_eqb}
use Rattle.std.proofs.lemmas.List.{length_push}
use Rattle.std.proofs.lemmas.Option.{slice_get_within}
use Rattle.ci_word.specs.Numbers.{sum_below}
use Rattle.ci_word.proofs.NumberLaws.{sum_below-le, sum_below-same}
use Rattle.ci_block.specs.Blocks.{AreInOrder}
use Rattle.ci_log.specs.declared.book.Entry.TheVariants.{Take}
use Rattle.ci_unit.specs.Units.{Unit}
use Rattle.ci_select.specs.declared.rounds.Due.TheVariants as due
use Rattle.ci_select.specs.Histories.{History}
use Rattle.ci_select.specs.Instances.{Instance}
use Rattle.ci_select.specs.UnitNumbers.{AreUnits, IsUnitAt, known, new}
use Rattle.ci_select.specs.UnitNumbers as numbers
use Rattle.ci_select.specs.Savings.{IsSaved, IsSavedBy, none, of_search, of_take, by_none, by_search, by_other, by_take}
use Rattle.ci_select.specs.Dues.{IsDue, takes_known, takes_new}
use Rattle.ci_select.specs.LegalBooks.{IsLegalHistory, IsRight}
use Rattle.ci_select.specs.Laws.{EachUnitSaves, SavedByIsOne, UnitsSaveAll}
use Rattle.ci_select.proofs.CandidateLaws.{saved_is_one}
use Rattle.ci_select.proofs.CandidateGains.{candidate_saves}
use Rattle.ci_select.proofs.PresentLaws.{blocks_in_order}
use Rattle.ci_select.proofs.SumLaws.{added_once}
use Rattle.ci_select.proofs.TakenUnits.{unit_of_take}
use Rattle.ci_select.proofs.UnitLaws.{due_of_take, numbered_is_there, unit_is_one, units_are_one}

-- ---- shares of what is saved

-- what the takes save that have this key
abbrev pub share : {instance : Instance} {history : History} {saved : ℕ} → (ℕ → ℕ → ℕ) → ℕ → IsSaved instance history saved → ℕ
share key k none = 0
share key k (of_search found before) = share key k before
share key k (of_take {leader = l} {unit = u} {more = m} before candidate) = share key k before + (if key l u == k then m else 0)

abbrev pub number_of : ℕ → ℕ → ℕ
number_of leader number = number

abbrev pub place_of : ℕ → ℕ → ℕ
place_of leader number = leader

-- the share of a unit is what it saves
pub share_is_saved :
    {instance : Instance} {history : History} {saved : ℕ} (unit : ℕ) (is : IsSaved instance history saved)
    → IsSavedBy instance unit history (share number_of unit is)
share_is_saved unit none = by_none
share_is_saved unit (of_search found before) = by_search found (share_is_saved unit before)
share_is_saved {instance} unit (of_take {history = h} {leader = l} {unit = u} {more = m} before candidate) = elim (cases_eq u unit) [
  | inl its ↦
      subst (λ b. IsSavedBy instance unit (Take l u ∷ h) (share number_of unit before + (if b then m else 0))) (sym (eq-eqb u unit its))
      (by_take its (share_is_saved unit before) candidate)
  | inr other ↦
      subst (λ b. IsSavedBy instance unit (Take l u ∷ h) (share number_of unit before + (if b then m else 0))) (sym (ne_eqb u unit other))
      (subst (IsSavedBy instance unit (Take l u ∷ h)) (with_none (share number_of unit before))
      (by_other other (share_is_saved unit before)))
]
  where
    with_none : (n : ℕ) → n ≡ n + 0
    with_none n = omega arith

-- and that is one number
pub saved_by_is_one : SavedByIsOne
saved_by_is_one instance unit history left right order by_none by_none = refl
saved_by_is_one instance unit history left right order (by_search {saved = a} found l) (by_search {saved = b} again r) =
    saved_by_is_one instance unit _ a b order l r
saved_by_is_one instance unit history left right order (by_search found l) (by_other other r) = absurd (true≢false found)
saved_by_is_one instance unit history left right order (by_search found l) (by_take its r candidate) = absurd (true≢false found)
saved_by_is_one instance unit history left right order (by_other other l) (by_search found r) = absurd (true≢false found)
saved_by_is_one instance unit history left right order (by_other {saved = a} other l) (by_other {saved = b} apart r) =
    saved_by_is_one instance unit _ a b order l r
saved_by_is_one instance unit history left right order (by_other other l) (by_take its r candidate) = absurd (other its)
saved_by_is_one instance unit history left right order (by_take its l candidate) (by_search found r) = absurd (true≢false found)
saved_by_is_one instance unit history left right order (by_take its l candidate) (by_other other r) = absurd (other its)
saved_by_is_one instance unit history left right order
    (by_take {saved = a} {more = m} its l candidate) (by_take {saved = b} {more = n} also r other) =
    let before : a ≡ b = saved_by_is_one instance unit _ a b order l r in
    let more : pos m ≡ pos n = saved_is_one order candidate other in
    let same : m ≡ n = cc in
    omega (arith, before, same)

-- ---- numbers of takes

-- the number of a take is that of one of the units
pub take_is_numbered :
    {instance : Instance} {history : History} {leader number : ℕ} {units : List Unit} → AreInOrder instance.blocks
    → IsRight instance history (Take leader number) → AreUnits instance (Take leader number ∷ history) units
    → number < length units
take_is_numbered {number = n} {units = us} order right are =
    let is = unit_of_take order (due_of_take right) are in
    slice_get_within us n is.0 is.2

-- that of a unit that is new is the next one
new_is_next :
    {instance : Instance} {history : History} {leader number : ℕ} {units : List Unit} {unit : Unit}
    → AreInOrder instance.blocks → AreUnits instance history units → IsUnitAt instance history leader unit
    → ¬ Contains units unit → IsDue instance history (due.Take leader number) → number ≡ length units
new_is_next {instance} {history} {units = us} {unit = u} order units unit apart
    (takes_known {number = n} {units = b} {unit = v} next at) =
    let same = units_are_one instance history us b order units next.units_are in
    let one = unit_is_one order unit next.unit_is in
    absurd (apart (subst (λ ws. Contains ws u) (sym same) (subst (Contains b) (sym one) (numbered_is_there b n v at))))
new_is_next {instance} {history} {units = us} order units unit apart (takes_new {units = b} next away few) =
    ap length (sym (units_are_one instance history us b order units next.units_are))

-- ---- all units

-- the shares of the units are all that is saved
shares_are_all :
    {instance : Instance} {history : History} {saved : ℕ} {units : List Unit} (m : ℕ) → AreInOrder instance.blocks
    → IsLegalHistory instance history → AreUnits instance history units → length units ≤ m
    → (is : IsSaved instance history saved) → sum_below m (λ _. true) (λ unit. share number_of unit is) ≡ saved
shares_are_all m order legal units few none = nothing m
  where
    nothing : (m : ℕ) → sum_below m (λ _. true) (λ unit. 0) ≡ 0
    nothing m = omega (arith, sum_below-le m (λ _. true) (λ unit. 0) 0 (λ k below. omega arith))
shares_are_all m order legal (numbers.of_search found units) few (of_search again before) =
    shares_are_all m order legal.1 units few before
shares_are_all m order legal (known units unit there) few (of_search found before) = absurd (true≢false found)
shares_are_all m order legal (new units unit apart) few (of_search found before) = absurd (true≢false found)
shares_are_all m order legal (numbers.of_search found units) few (of_take before candidate) = absurd (true≢false found)
shares_are_all m order legal (known {number = n} units unit there) few (of_take {more = c} before candidate) =
    let numbered = take_is_numbered order legal.0 (known units unit there) in
    added_once m n c (λ unit. share number_of unit before) (omega (arith, numbered, few))
    ∙ ap (λ s. s + c) (shares_are_all m order legal.1 units few before)
shares_are_all m order legal (new {number = n} {units = us} {unit = u} units unit apart) few (of_take {more = c} before candidate) =
    let numbered = take_is_numbered order legal.0 (new units unit apart) in
    added_once m n c (λ unit. share number_of unit before) (omega (arith, numbered, few))
    ∙ ap (λ s. s + c) (shares_are_all m order legal.1 units (omega (arith, few, length_push us u)) before)

pub units_save_all : UnitsSaveAll
units_save_all instance book units gains saved order legal are each is =
    sum_below-same (length units) (λ _. true) (λ _. true) gains (λ unit. share number_of unit is) (λ k below. refl)
    (λ k below passes. saved_by_is_one instance k (reverse book.entries) (gains k) (share number_of k is) order (each k below) (share_is_saved k is))
    ∙ shares_are_all (length units) order legal.entries are (omega arith) is

-- ---- each unit

some_saved :
    {instance : Instance} {history : History} {units : List Unit} {saved : ℕ} (unit : ℕ) → AreInOrder instance.blocks
    → IsLegalHistory instance history → AreUnits instance history units → unit < length units
    → IsSavedBy instance unit history saved → 1 ≤ saved
some_saved unit order legal numbers.none below by_none = absurd (omega arith)
some_saved unit order legal (numbers.of_search found units) below (by_search again before) = some_saved unit order legal.1 units below before
some_saved unit order legal (numbers.of_search found units) below (by_other other before) = absurd (true≢false found)
some_saved unit order legal (numbers.of_search found units) below (by_take its before candidate) = absurd (true≢false found)
some_saved unit order legal (known units is there) below (by_search found before) = absurd (true≢false found)
some_saved unit order legal (new units is apart) below (by_search found before) = absurd (true≢false found)
some_saved unit order legal (known units is there) below (by_other other before) = some_saved unit order legal.1 units below before
some_saved unit order legal (new {number = n} {units = us} {unit = u} units is apart) below (by_other other before) =
    let next = new_is_next order units is apart (due_of_take legal.0) in
    some_saved unit order legal.1 units (omega (arith, length_push us u, next, other)) before
some_saved unit order legal (known units is there) below (by_take {more = m} its before candidate) =
    omega (arith, candidate_saves order legal candidate)
some_saved unit order legal (new units is apart) below (by_take {more = m} its before candidate) =
    omega (arith, candidate_saves order legal candidate)

pub each_unit_saves : EachUnitSaves
each_unit_saves instance book units unit saved of_file legal are below is =
    some_saved unit (blocks_in_order instance of_file) legal.entries are below is
