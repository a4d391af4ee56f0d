-- Netlists of modules and of units, for everybody.
use Rattle.std.specs.Prelude.{ℕ, ◌^◌, ◌<◌, ◌≤◌, ◌↔◌, List, [], ◌∷◌, length, All}
use Rattle.ci_netlist.specs.Netlists.{Netlist, IsValueOf}
use Rattle.ci_verilog.specs.Modules.{Module}
use Rattle.ci_verilog.specs.Values as module_value
use Rattle.ci_unit.specs.Units.{Unit, IsTripleOf}
use Rattle.ci_vemit.specs.Templates.{module_of}
use Rattle.ci_gates.specs.Counts.{IsCountOf}

-- the netlist has the module's count of gates, and at all words the module's values
pub record IsNetlistOf (m : Module) (net : Netlist) : Type 0 where
  pub count : IsCountOf m (length net.gates)
  pub value : (arguments results : List ℕ) → All (λ n. n < 2 ^ 32) arguments
      → IsValueOf net arguments results ↔ module_value.IsValueOf m arguments results

-- the module has a count of at most 4,194,304
abbrev pub HasFewGates : Module → Type 0
HasFewGates m = (n : ℕ) × IsCountOf m n × (n ≤ 4194304)

-- the netlist has the count of gates of the unit's module, and at all words the unit's values
pub record IsNetlistOfUnit (k : ℕ) (unit : Unit) (net : Netlist) : Type 0 where
  pub count : IsCountOf (module_of k unit) (length net.gates)
  pub value : (a b c d e : ℕ) → a < 2 ^ 32 → b < 2 ^ 32 → c < 2 ^ 32 → d < 2 ^ 32 → e < 2 ^ 32
      → (results : List ℕ) → IsValueOf net (a ∷ b ∷ c ∷ d ∷ e ∷ []) results ↔ IsTripleOf unit (a ∷ b ∷ c ∷ d ∷ e ∷ []) results
