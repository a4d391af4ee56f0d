-- The unit of each take of a legal book has the take's number.
use Rattle.std.proofs.Common.{◌≡◌, ℕ, List, [], ◌∷◌, ◌++◌, length, reverse, Some, true≢false, refl, sym, ap, ◌∙◌, subst, append_assoc, length-append, arith}
use Rattle.std.specs.Prelude.{slice_get}
use Rattle.std.specs.List.{Contains}
use Rattle.std.proofs.lemmas.List.{get_or_append_left, get_or_push, length_push, reverse-append}
use Rattle.std.proofs.lemmas.Option.{get_or_from_slice_get, slice_get-get_or, slice_get_within}
use Rattle.ci_block.specs.Blocks.{AreInOrder}
use Rattle.ci_log.specs.declared.book.Entry.TheVariants.{Take}
use Rattle.ci_unit.specs.Units.{Unit}
use Rattle.ci_select.specs.declared.rounds.Due.TheVariants as due
use Rattle.ci_select.specs.Histories.{History}
use Rattle.ci_select.specs.Instances.{Instance}
use Rattle.ci_select.specs.UnitNumbers.{AreUnits, IsUnitAt, known, new, of_search}
use Rattle.ci_select.specs.Dues.{IsDue, takes_known, takes_new}
use Rattle.ci_select.specs.Laws.{TakesNameTheirUnits}
use Rattle.ci_select.proofs.TruthLaws.{entry_is_right}
use Rattle.ci_select.proofs.UnitLaws.{due_of_take, unit_is_one, units_are_one}

-- ---- units that are added at the end

-- the units in front keep their numbers,
kept_in_front : (front units : List Unit) (n : ℕ) (unit : Unit) → slice_get front n ≡ Some unit
    → slice_get (front ++ units) n ≡ Some unit
kept_in_front front units n unit at =
    let within = slice_get_within front n unit at in
    slice_get-get_or (front ++ units) n unit (omega (arith, length-append front units))
    ∙ ap Some (get_or_append_left front units unit n within ∙ get_or_from_slice_get front n unit unit at)

-- and the one behind them has the next
added : (front : List Unit) (unit : Unit) → slice_get (front ++ unit ∷ []) (length front) ≡ Some unit
added front unit =
    slice_get-get_or (front ++ unit ∷ []) (length front) unit (omega (arith, length_push front unit))
    ∙ ap Some (get_or_push front unit unit (length front) refl)

-- later entries keep the numbers
record KeepsUnits (instance : Instance) (history : History) (units : List Unit) : Type 0 where
  front : List Unit
  are : AreUnits instance history front
  kept : (n : ℕ) (unit : Unit) → slice_get front n ≡ Some unit → slice_get units n ≡ Some unit

-- of more entries behind a history
units_are_kept :
    {instance : Instance} (later history : History) {units : List Unit} → AreUnits instance (later ++ history) units
    → KeepsUnits instance history units
units_are_kept [] history {units} are = record { front = units; are = are; kept = λ n unit at. at }
units_are_kept (entry ∷ later) history (of_search search are) = units_are_kept later history are
units_are_kept (entry ∷ later) history (known are unit there) = units_are_kept later history are
units_are_kept (entry ∷ later) history (new {units = us} {unit = u} are unit apart) =
    let before = units_are_kept later history are in
    record {
      front = before.front;
      are = before.are;
      kept = λ n v at. kept_in_front us (u ∷ []) n v (before.kept n v at);
    }

-- ---- the unit of a take

-- the unit of the cut of the block has the number
abbrev pub HasUnit : Instance → History → ℕ → ℕ → List Unit → Type 0
HasUnit instance history leader number units =
    (unit : Unit) × IsUnitAt instance history leader unit × (slice_get units number ≡ Some unit)

-- which is so behind its take
pub unit_of_take :
    {instance : Instance} {history : History} {leader number : ℕ} {units : List Unit} → AreInOrder instance.blocks
    → IsDue instance history (due.Take leader number) → AreUnits instance (Take leader number ∷ history) units
    → HasUnit instance history leader number units
unit_of_take order is (of_search search are) = absurd (true≢false search)
unit_of_take {instance} {history} {number = n} order
    (takes_known {units = us} {unit = u} next at) (known {units = ws} are unit there) =
    let same = units_are_one instance history us ws order next.units_are are in
    (u, next.unit_is, subst (λ vs. slice_get vs n ≡ Some u) same at)
unit_of_take {instance} {history} {number = n} order
    (takes_known {units = us} {unit = u} next at) (new {units = ws} {unit = w} are unit apart) =
    let same = units_are_one instance history us ws order next.units_are are in
    (u, next.unit_is, kept_in_front ws (w ∷ []) n u (subst (λ vs. slice_get vs n ≡ Some u) same at))
unit_of_take {instance} {history} order
    (takes_new {units = us} {unit = u} next apart few) (known {units = ws} {unit = w} are unit there) =
    let same = units_are_one instance history us ws order next.units_are are in
    let one = unit_is_one order next.unit_is unit in
    absurd (apart (subst (λ vs. Contains vs u) (sym same) (subst (Contains ws) (sym one) there)))
unit_of_take {instance} {history} order
    (takes_new {units = us} {unit = u} next apart few) (new {units = ws} {unit = w} are unit away) =
    let same = units_are_one instance history us ws order next.units_are are in
    let one = unit_is_one order next.unit_is unit in (
      u,
      next.unit_is,
      subst (λ vs. slice_get (vs ++ w ∷ []) (length us) ≡ Some u) same
          (subst (λ v. slice_get (us ++ v ∷ []) (length us) ≡ Some u) one (added us u)),
    )

pub takes_name_their_units : TakesNameTheirUnits
takes_name_their_units instance book units before behind leader number order legal are split =
    let history = reverse before in
    let turned : reverse book.entries ≡ reverse behind ++ Take leader number ∷ history =
    ap reverse split ∙ reverse-append before (Take leader number ∷ behind)
    ∙ ap (λ entries. entries ++ history) (reverse-append (Take leader number ∷ []) behind)
    ∙ append_assoc (reverse behind) (Take leader number ∷ []) history in
    let right = entry_is_right instance book.entries before behind (Take leader number) legal.entries split in
    let keeps =
    units_are_kept (reverse behind) (Take leader number ∷ history) (subst (λ h. AreUnits instance h units) turned are) in
    let unit = unit_of_take order (due_of_take right.0) keeps.are in
    (unit.0, unit.1, keeps.kept number unit.0 unit.2)
