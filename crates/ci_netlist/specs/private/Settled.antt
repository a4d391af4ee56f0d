-- For private contracts: what the code holds of what gates give.
use Rattle.std.specs.Prelude.{◌≡◌, ℕ, ◌<◌, Bool, List, length}
use Rattle.std.specs.List.{slice_index_or}
use Rattle.ci_netlist.specs.declared.bits.Gate.{Gate}
use Rattle.ci_netlist.specs.Netlists.{Settles}

-- the first gates give these truth values
abbrev pub Holds : (ℕ → Bool) → List Bool → Type 0
Holds gives given = (k : ℕ) → k < length given → (d : Bool) → gives k ≡ slice_index_or given k d

-- as many as there are gates, and what settles the gates gives these
pub record SettlesAs (gates : List Gate) (arguments : List ℕ) (given : List Bool) : Type 0 where
  pub count : length given ≡ length gates
  pub holds : (gives : ℕ → Bool) → Settles gates arguments gives → Holds gives given
