-- Modules that compute units, for everybody.
use Rattle.std.specs.Prelude.{◌≡◌, ℕ, ◌↔◌, List, [], ◌∷◌, slice_get, Some}
use Rattle.ci_elf.specs.WordLists.{AreWords}
use Rattle.ci_verilog.specs.Modules.{Module}
use Rattle.ci_verilog.specs.Values.{IsValueOf}
use Rattle.ci_unit.specs.Units.{Unit, IsTripleOf}

-- at all words the module has the unit's value: y, z and x are its outputs, and 0 where it has no more
abbrev pub HasUnitValue : Module → Unit → Type 0
HasUnitValue m unit =
    (a b c d e : ℕ) (results : List ℕ) → AreWords (a ∷ b ∷ c ∷ d ∷ e ∷ [])
    → IsValueOf m (a ∷ b ∷ c ∷ d ∷ e ∷ []) results ↔ IsTripleOf unit (a ∷ b ∷ c ∷ d ∷ e ∷ []) results

-- so does the module of this number
pub record ComputeUnit (modules : List Module) (number : ℕ) (unit : Unit) : Type 0 where
  pub computing : Module
  pub there : slice_get modules number ≡ Some computing
  pub value : HasUnitValue computing unit
