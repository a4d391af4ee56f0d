-- The units of a legal history.
use Rattle.std.proofs.Common.{◌≡◌, ◌≢◌, ℕ, ◌<◌, ◌≤◌, List, [], ◌∷◌, ◌++◌, length, Option, Some, None, inl, inr, true≢false, refl, sym, ap, ◌∙◌, subst, arith}
use Rattle.std.specs.Prelude.{slice_get}
use Rattle.std.specs.FinSet as finite
use Rattle.std.specs.List.{AllPairs, Contains}
use Rattle.std.proofs.lemmas.List.{length_push}
use Rattle.std.proofs.lemmas.List.Elements.{Contains-get_or}
use Rattle.std.proofs.lemmas.List.Quantifiers.{all_pairs_push}
use Rattle.std.proofs.lemmas.Option.{get_or_from_slice_get, slice_get_within}
use Rattle.ci_block.specs.Blocks.{AreInOrder}
use Rattle.ci_log.specs.declared.book.Entry.TheVariants.{Take}
use Rattle.ci_unit.specs.Units.{Unit, unit_of}
use Rattle.ci_select.specs.declared.rounds.Due.TheVariants as due
use Rattle.ci_select.specs.Histories.{History}
use Rattle.ci_select.specs.Instances.{Instance}
use Rattle.ci_select.specs.PresentBlocks.{graph_at}
use Rattle.ci_select.specs.UnitNumbers.{AreUnits, IsUnitAt, none, of_search, known, new}
use Rattle.ci_select.specs.Dues.{IsDue, takes_known, takes_new}
use Rattle.ci_select.specs.private.Followed.{IsNumberFor}
use Rattle.ci_select.specs.LegalBooks.{IsLegalHistory, IsRight, searched, taken}
use Rattle.ci_select.specs.Laws.{UnitsAreOne}
use Rattle.ci_select.proofs.HistoryLaws.{cut_is_one}
use Rattle.ci_select.proofs.PresentIsOne.{present_is_one}

-- there is one unit at a leader,
pub unit_is_one :
    {instance : Instance} {history : History} {leader : ℕ} {left right : Unit} → AreInOrder instance.blocks
    → IsUnitAt instance history leader left → IsUnitAt instance history leader right → left ≡ right
unit_is_one {instance} {history} {leader} order left right =
    let insns : left.insns ≡ right.insns =
    present_is_one instance history leader left.insns right.insns order left.has_cut.present right.has_cut.present in
    let cut : left.cut ≡ right.cut = cut_is_one left.has_cut.has_cut right.has_cut.has_cut in
    left.unit_is
    ∙ (λ i. unit_of (insns i) (graph_at instance leader (insns i)) (finite.contains (cut i)))
    ∙ sym right.unit_is

-- and one list of all
pub units_are_one : UnitsAreOne
units_are_one instance history left right order none none = refl
units_are_one instance history left right order (of_search search l) (of_search again r) =
    units_are_one instance _ left right order l r
units_are_one instance history left right order (of_search search l) (known r unit there) = absurd (true≢false search)
units_are_one instance history left right order (of_search search l) (new r unit apart) = absurd (true≢false search)
units_are_one instance history left right order (known l unit there) (of_search search r) = absurd (true≢false search)
units_are_one instance history left right order (known l unit there) (known r other here) =
    units_are_one instance _ left right order l r
units_are_one instance history left right order
    (known {units = a} {unit = u} l unit there) (new {units = b} {unit = v} r other apart) =
    let same = units_are_one instance _ a b order l r in
    absurd (apart (subst (λ us. Contains us v) same (subst (Contains a) (unit_is_one order unit other) there)))
units_are_one instance history left right order (new l unit apart) (of_search search r) = absurd (true≢false search)
units_are_one instance history left right order
    (new {units = a} {unit = u} l unit apart) (known {units = b} {unit = v} r other there) =
    let same = units_are_one instance _ a b order l r in
    absurd (apart (subst (λ us. Contains us u) (sym same) (subst (Contains b) (sym (unit_is_one order unit other)) there)))
units_are_one instance history left right order
    (new {units = a} {unit = u} l unit apart) (new {units = b} {unit = v} r other away) =
    let same = units_are_one instance _ a b order l r in
    let one = unit_is_one order unit other in
    λ i. same i ++ one i ∷ []

-- ---- numbers

-- a unit with a number is there
pub numbered_is_there :
    (units : List Unit) (number : ℕ) (unit : Unit) → slice_get units number ≡ Some unit → Contains units unit
numbered_is_there units number unit at =
    (number, slice_get_within units number unit at, get_or_from_slice_get units number unit unit at)

-- no unit of a history stands twice
pub units_are_apart :
    {instance : Instance} {history : History} {units : List Unit} → AreUnits instance history units
    → AllPairs (λ earlier later. earlier ≢ later) units
units_are_apart none = λ i j d before within same. omega arith
units_are_apart (of_search search units) = units_are_apart units
units_are_apart (known units unit there) = units_are_apart units
units_are_apart (new {units = us} {unit = u} units unit apart) =
    all_pairs_push (λ earlier later. earlier ≢ later) us u (units_are_apart units)
    (λ k d within same. apart (subst (Contains us) same (Contains-get_or us k d within)))

-- so that it has one number
numbers_are_one :
    (units : List Unit) (unit : Unit) (i j : ℕ) → AllPairs (λ earlier later. earlier ≢ later) units
    → slice_get units i ≡ Some unit → slice_get units j ≡ Some unit → i ≡ j
numbers_are_one units unit i j apart l r =
    let same : (k m : ℕ) → slice_get units k ≡ Some unit → slice_get units m ≡ Some unit → ¬ (k < m) =
    λ k m at here before.
    apart k m unit before (slice_get_within units m unit here)
    (get_or_from_slice_get units k unit unit at ∙ sym (get_or_from_slice_get units m unit unit here)) in
    omega (arith, same i j l r, same j i r l)

-- the number for a unit is one, where there is one
pub number_is_one :
    {instance : Instance} {history : History} {units : List Unit} → AreUnits instance history units
    → (unit : Unit) (count : ℕ) (left right : Option ℕ) → IsNumberFor units count unit left
    → IsNumberFor units count unit right → left ≡ right
number_is_one units unit count None None l r = refl
number_is_one {units = us} units unit count None (Some n) l (inl at) = absurd (l.0 (numbered_is_there us n unit at))
number_is_one units unit count None (Some n) l (inr is) = absurd (omega (arith, l.1, is.2))
number_is_one {units = us} units unit count (Some m) None (inl at) r = absurd (r.0 (numbered_is_there us m unit at))
number_is_one units unit count (Some m) None (inr is) r = absurd (omega (arith, r.1, is.2))
number_is_one {units = us} units unit count (Some m) (Some n) (inl at) (inl here) =
    ap Some (numbers_are_one us unit m n (units_are_apart units) at here)
number_is_one {units = us} units unit count (Some m) (Some n) (inl at) (inr is) =
    absurd (is.0 (numbered_is_there us m unit at))
number_is_one {units = us} units unit count (Some m) (Some n) (inr is) (inl at) =
    absurd (is.0 (numbered_is_there us n unit at))
number_is_one units unit count (Some m) (Some n) (inr is) (inr has) = ap Some (is.1 ∙ sym has.1)

-- ---- how many there are

-- a take that is right is due
pub due_of_take :
    {instance : Instance} {history : History} {leader number : ℕ} → IsRight instance history (Take leader number)
    → IsDue instance history (due.Take leader number)
due_of_take (searched is present log) = absurd log
due_of_take (taken is) = is

-- where the unit of the take that is due is new, there may be one more
room_of_take :
    {instance : Instance} {history : History} {leader number : ℕ} {units : List Unit} {unit : Unit}
    → AreInOrder instance.blocks → AreUnits instance history units → IsUnitAt instance history leader unit
    → ¬ Contains units unit → IsDue instance history (due.Take leader number) → length units < instance.plan.count
room_of_take {instance} {history} {units = us} {unit = u} order units unit apart
    (takes_known {number = n} {units = b} {unit = v} next at) =
    let same = units_are_one instance history us b order units next.units_are in
    let one = unit_is_one order unit next.unit_is in
    absurd (apart (subst (λ ws. Contains ws u) (sym same) (subst (Contains b) (sym one) (numbered_is_there b n v at))))
room_of_take {instance} {history} {units = us} order units unit apart (takes_new {units = b} next away few) =
    let same = units_are_one instance history us b order units next.units_are in
    subst (λ ws. length ws < instance.plan.count) (sym same) few

-- there are no more of them than the plan allows
pub units_within_count :
    {instance : Instance} {history : History} {units : List Unit} → AreInOrder instance.blocks
    → IsLegalHistory instance history → AreUnits instance history units → length units ≤ instance.plan.count
units_within_count order legal none = omega arith
units_within_count order legal (of_search search units) = units_within_count order legal.1 units
units_within_count order legal (known units unit there) = units_within_count order legal.1 units
units_within_count order legal (new {units = us} {unit = u} units unit apart) =
    let room = room_of_take order units unit apart (due_of_take legal.0) in
    omega (arith, length_push us u, room)
