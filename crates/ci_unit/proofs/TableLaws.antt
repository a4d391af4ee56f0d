-- Units in a table: which is found, and one more.
use Rattle.std.proofs.Common.{◌≡◌, ◌≢◌, ℕ, ◌<◌, false, List, [], ◌∷◌, ◌++◌, length, get_or, Contains, Some}
use Rattle.std.proofs.Common.{slice_get, if◌then◌else◌, sym, ap, ◌∙◌, subst, arith, true≢false}
use Rattle.std.specs.List.{list_any, position}
use Rattle.std.proofs.lemmas.List.{length-append}
use Rattle.std.proofs.lemmas.List.Elements.{All-push, Contains-get_or}
use Rattle.std.proofs.lemmas.List.Quantifiers.{position-Some, all_pairs_push}
use Rattle.std.proofs.lemmas.Map.Views.{list_any-from_Contains, Contains-from_any}
use Rattle.std.proofs.lemmas.Option.{slice_get-get_or}
use Rattle.std.proofs.lemmas.Bool.{false_from_ne_true}
use Rattle.indexmap.specs.IndexSet.{insert_key}
use Rattle.ci_unit.specs.Units.{IsUnit}
use Rattle.ci_unit.specs.Units as units
use Rattle.ci_unit.specs.Tables.{IsTable}
use Rattle.ci_unit.specs.Equality.{same_unit}
use Rattle.ci_unit.specs.EqualityLaws.{same_unit_decides, units_equivalent}

module _ (table : List units.Unit) (unit : units.Unit) where
  -- the place that is found is the unit's
  pub found_at : (k : ℕ) → Some k ≡ position (same_unit unit) table → slice_get table k ≡ Some unit
  found_at k is =
      let found = position-Some (same_unit unit) table k unit (sym is) in
      slice_get-get_or table k unit found.0 ∙ ap Some (sym ((same_unit_decides unit (get_or table k unit)).0 found.1))

  pub not_found : false ≡ list_any (same_unit unit) table → ¬ Contains table unit
  not_found none there = true≢false (sym (list_any-from_Contains units_equivalent unit table there) ∙ sym none)

  -- a unit that isn't there goes to the end
  pub inserted : ¬ Contains table unit → insert_key same_unit table unit ≡ table ++ unit ∷ []
  inserted absent =
      ap (λ b. if b then table else table ++ unit ∷ [])
      (false_from_ne_true (list_any (same_unit unit) table)
      (λ found. absent (Contains-from_any (λ x y. (same_unit_decides x y).0) unit table found)))

  pub table_more : IsTable table → length table < 32 → IsUnit unit → ¬ Contains table unit → IsTable (table ++ unit ∷ [])
  table_more is room unit_is absent =
      record {
        few = omega (arith, length-append table (unit ∷ []));
        units_are = All-push IsUnit table unit is.units_are unit_is;
        distinct =
            all_pairs_push (λ one other. one ≢ other) table unit is.distinct
            (λ k d below same. absent (subst (Contains table) same (Contains-get_or table k d below)));
      }
