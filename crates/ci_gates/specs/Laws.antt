-- What the count of a module is, for everybody.
use Rattle.std.specs.Prelude.{◌≡◌, ℕ}
use Rattle.ci_verilog.specs.Modules.{Module, IsModule}
use Rattle.ci_gates.specs.Counts.{IsCountOf}

-- a module has a count
abbrev pub CountExists : Type 0
CountExists = (m : Module) → IsModule m → (n : ℕ) × IsCountOf m n

-- and no other
abbrev pub CountIsOne : Type 0
CountIsOne = (m : Module) → IsModule m → (n k : ℕ) → IsCountOf m n → IsCountOf m k → n ≡ k
