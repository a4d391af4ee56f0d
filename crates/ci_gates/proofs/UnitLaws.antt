-- The netlists of units.
use Rattle.std.specs.Prelude.{◌≡◌, ℕ, zero, suc, ◌^◌, ◌<◌, List, [], ◌∷◌, length, All, slice_get, Some, option_map}
use Rattle.std.specs.List.{slice_index_or}
use Rattle.std.proofs.Common.{refl, ap, ◌∙◌, subst, arith, rules}
use Rattle.std.proofs.lemmas.Option.{slice_get_within, get_or_from_slice_get}
use Rattle.ci_verilog.specs.Modules.{Module}
use Rattle.ci_netlist.specs.Netlists.{Netlist}
use Rattle.ci_unit.specs.Units.{Unit, IsUnit}
use Rattle.ci_unit.specs.Tables.{IsTable}
use Rattle.ci_vemit.specs.Templates.{module_of, modules_of}
use Rattle.ci_vemit.proofs.BuildingLaws.{modules_are_in_order}
use Rattle.ci_vemit.proofs.UnitValues.{modules_compute}
use Rattle.ci_gates.specs.Modules.{IsNetlistOf, IsNetlistOfUnit}

-- there is a unit at each place
pub unit_there : (units : List Unit) (k : ℕ) → k < length units → (unit : Unit) × slice_get units k ≡ Some unit
unit_there [] k below = absurd (omega arith)
unit_there (unit ∷ units) zero below = (unit, refl)
unit_there (unit ∷ units) (suc k) below = unit_there units k (omega arith)

module _ (units : List Unit) (k : ℕ) (unit : Unit) (there : slice_get units k ≡ Some unit) where
  -- the module at the unit's place is that of the unit
  module_there : slice_get (modules_of units) k ≡ Some (module_of k unit)
  module_there = modules_are_in_order units k ∙ ap (option_map (module_of k)) there

  pub module_within : k < length (modules_of units)
  module_within = slice_get_within (modules_of units) k (module_of k unit) module_there

  pub module_at : (modules : List Module) (place : ℕ) (found : Module) → modules ≡ modules_of units → place ≡ k
      → found ≡ slice_index_or modules place found → found ≡ module_of k unit
  module_at modules place found same is_place is_found =
      is_found ∙ (λ i. slice_index_or (same i) (is_place i) found)
      ∙ get_or_from_slice_get (modules_of units) k (module_of k unit) found module_there

  pub unit_is : IsTable units → IsUnit unit
  unit_is table =
      subst (λ u. IsUnit u) (get_or_from_slice_get units k unit unit there)
      (table.units_are k unit (slice_get_within units k unit there))

five_words : (a b c d e : ℕ) → a < 2 ^ 32 → b < 2 ^ 32 → c < 2 ^ 32 → d < 2 ^ 32 → e < 2 ^ 32 → All (λ n. n < 2 ^ 32) (a ∷ b ∷ c ∷ d ∷ e ∷ [])
five_words a b c d e is_a is_b is_c is_d is_e = search rules

pub is_netlist_of_unit : (k : ℕ) (unit : Unit) (net : Netlist) → IsUnit unit → IsNetlistOf (module_of k unit) net → IsNetlistOfUnit k unit net
is_netlist_of_unit k unit net is of =
    record {
      count = of.count;
      value = λ a b c d e is_a is_b is_c is_d is_e results.
          let words = five_words a b c d e is_a is_b is_c is_d is_e in
          let through = of.value (a ∷ b ∷ c ∷ d ∷ e ∷ []) results words in
          let computes = modules_compute k unit is a b c d e is_a is_b is_c is_d is_e results in
          ((λ v. computes.0 (through.0 v)), (λ v. through.1 (computes.1 v)));
    }
