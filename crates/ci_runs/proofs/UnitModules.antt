-- The modules of a table of units.
use Rattle.std.proofs.Common.{◌≡◌, ℕ, suc, List, [], ◌∷◌, All, map, Some, ap, ◌∙◌}
use Rattle.std.specs.Prelude.{option_map, slice_get, slice_index}
use Rattle.std.proofs.lemmas.List.Elements.{All-cons, All-contains, All-head, All-nil, All-tail}
use Rattle.std.proofs.lemmas.Option.{get_or_from_slice_get, slice_get-map}
use Rattle.ci_verilog.specs.Modules.{IsModule, Module}
use Rattle.ci_unit.specs.Tables.{IsTable}
use Rattle.ci_unit.specs.Units.{IsUnit, Unit}
use Rattle.ci_vemit.specs.Templates.{module_of, modules_from, modules_of}
use Rattle.ci_vemit.proofs.BuildingLaws.{modules_are_in_order}
use Rattle.ci_vemit.proofs.UnitModules.{module_is}
use Rattle.ci_vemit.proofs.UnitValues.{modules_compute}
use Rattle.ci_rewrite.specs.ComputedUnits.{ComputeUnit, HasUnitValue}
use Rattle.ci_select.proofs.UnitLaws.{numbered_is_there}

-- modules of units from any number on keep what every module keeps
modules_keep : (k : ℕ) (units : List Unit) → All IsUnit units → All IsModule (modules_from k units)
modules_keep k [] are = All-nil IsModule
modules_keep k (unit ∷ units) are =
    All-cons IsModule (module_of k unit) (modules_from (suc k) units)
    (module_is k unit (All-head IsUnit unit units are)) (modules_keep (suc k) units (All-tail IsUnit unit units are))

-- so those of a table do
pub table_of_modules : {units : List Unit} → IsTable units → All IsModule (modules_of units)
table_of_modules {units} keep = modules_keep 0 units keep.units_are

-- at all words the module of a unit has the unit's value
has_unit_value : (number : ℕ) (unit : Unit) → IsUnit unit → HasUnitValue (module_of number unit) unit
has_unit_value number unit is a b c d e results words =
    modules_compute number unit is a b c d e (words 0) (words 1) (words 2) (words 3) (words 4) results

module _ (units : List Unit) (number : ℕ) (unit : Unit) (at : slice_get units number ≡ Some unit) where
  -- it is the module of its number
  there : slice_get (modules_of units) number ≡ Some (module_of number unit)
  there = modules_are_in_order units number ∙ ap (option_map (module_of number)) at

  -- the module of the number of a unit computes that,
  pub module_computes : IsTable units → ComputeUnit (modules_of units) number unit
  module_computes keep = record {
    computing = module_of number unit;
    there = there;
    value = has_unit_value number unit
        (All-contains IsUnit units unit keep.units_are (numbered_is_there units number unit at));
  }

  -- and takes its cycles
  pub module_takes : slice_index (map (λ m. m.cycles) (modules_of units)) number ≡ unit.cycles
  module_takes =
      get_or_from_slice_get (map (λ (m : Module). m.cycles) (modules_of units)) number unit.cycles 0
      (slice_get-map (λ (m : Module). m.cycles) (modules_of units) number
      ∙ ap (option_map (λ (m : Module). m.cycles)) there)
