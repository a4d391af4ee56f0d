-- What the definitions say of the module of every unit, for everybody.
use Rattle.std.specs.Prelude.{◌≡◌, ℕ, ◌^◌, ◌<◌, ◌↔◌, List, [], ◌∷◌, slice_get, option_map}
use Rattle.ci_verilog.specs.Modules.{IsModule}
use Rattle.ci_verilog.specs.Values.{IsValueOf}
use Rattle.ci_unit.specs.Units.{Unit, IsUnit, IsTripleOf}
use Rattle.ci_vemit.specs.Templates.{module_of, modules_of}

-- it keeps what every module keeps
abbrev pub ModulesAreModules : Type 0
ModulesAreModules = (k : ℕ) (unit : Unit) → IsUnit unit → IsModule (module_of k unit)

-- at words it has the values of the unit
abbrev pub ModulesComputeUnits : Type 0
ModulesComputeUnits =
    (k : ℕ) (unit : Unit) → IsUnit unit
    → (a b c d e : ℕ) → a < 2 ^ 32 → b < 2 ^ 32 → c < 2 ^ 32 → d < 2 ^ 32 → e < 2 ^ 32 → (results : List ℕ)
    → IsValueOf (module_of k unit) (a ∷ b ∷ c ∷ d ∷ e ∷ []) results ↔ IsTripleOf unit (a ∷ b ∷ c ∷ d ∷ e ∷ []) results

-- it has its number, and the unit's cycles
abbrev pub ModulesKeepCycles : Type 0
ModulesKeepCycles =
    (k : ℕ) (unit : Unit) → ((module_of k unit).number ≡ k) × ((module_of k unit).cycles ≡ unit.cycles)

-- the module at each place is that of the unit there, if there is one
abbrev pub ModulesAreInOrder : Type 0
ModulesAreInOrder =
    (units : List Unit) (k : ℕ) → slice_get (modules_of units) k ≡ option_map (module_of k) (slice_get units k)
