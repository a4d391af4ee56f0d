-- Netlists of gates with two inputs, and what they compute, for everybody.
use Rattle.std.specs.Prelude.{◌≡◌, ℕ, ◌+◌, ◌*◌, ◌/◌, ◌%◌, ◌<◌, ◌≤◌, Bool, true, false, not, ◌&&◌, ◌||◌, nat_eq, ⊤}
use Rattle.std.specs.Prelude.{List, [], ◌∷◌, length, map, slice_index, take, drop}
use Rattle.std.specs.List.{slice_index_or}
use Rattle.std.specs.Int.{bit_at}
use Rattle.ci_netlist.specs.declared.bits.Bit.{Bit}
use Rattle.ci_netlist.specs.declared.bits.Bit.TheVariants.{Zero, One, Input, Made}
use Rattle.ci_netlist.specs.declared.bits.Gate.{Gate}
use Rattle.ci_netlist.specs.declared.bits.Gate.TheVariants.{And, Or, Xor}

-- ---- truth values and numbers

-- exactly one of the two holds
abbrev pub differ : Bool → Bool → Bool
differ true b = not b
differ false b = b

-- the digit of a truth value
abbrev pub digit : Bool → ℕ
digit true = 1
digit false = 0

-- the number of binary digits, the lowest first
abbrev pub number_of : List Bool → ℕ
number_of [] = 0
number_of (b ∷ bs) = digit b + 2 * number_of bs

-- ---- what bits and gates hold

-- at these values of the inputs, where the gates give these truth values
abbrev pub bit_value : List ℕ → (ℕ → Bool) → Bit → Bool
bit_value arguments gives Zero = false
bit_value arguments gives One = true
bit_value arguments gives (Input n) = nat_eq (bit_at (slice_index arguments (n / 32)) (n % 32)) 1
bit_value arguments gives (Made g) = gives g

-- the function of a gate, where the bits hold this
abbrev pub gate_value : (Bit → Bool) → Gate → Bool
gate_value holds (And a b) = holds a && holds b
gate_value holds (Or a b) = holds a || holds b
gate_value holds (Xor a b) = differ (holds a) (holds b)

-- the number that bits spell, the lowest bit first
abbrev pub spelt : (Bit → Bool) → List Bit → ℕ
spelt holds bits = number_of (map holds bits)

-- each gate gives the value of its function
unfoldable pub Settles : List Gate → List ℕ → (ℕ → Bool) → Type 0
Settles gates arguments gives =
    (k : ℕ) → k < length gates → (d : Gate)
    → gives k ≡ gate_value (bit_value arguments gives) (slice_index_or gates k d)

-- ---- netlists

abbrev pub Names : ℕ → Bit → Type 0
Names made Zero = ⊤
Names made One = ⊤
Names made (Input n) = n < 160
Names made (Made g) = g < made

-- the bit is a constant, a bit of the five inputs, or the output of one of so many gates
pub record IsBit (made : ℕ) (bit : Bit) : Type 0 where
  pub names : Names made bit

pub record AreBits (made : ℕ) (bits : List Bit) : Type 0 where
  pub each : (k : ℕ) → k < length bits → (d : Bit) → IsBit made (slice_index_or bits k d)

abbrev pub HasBits : ℕ → Gate → Type 0
HasBits made (And a b) = IsBit made a × IsBit made b
HasBits made (Or a b) = IsBit made a × IsBit made b
HasBits made (Xor a b) = IsBit made a × IsBit made b

-- each gate names inputs and earlier gates alone
unfoldable pub AreGates : List Gate → Type 0
AreGates gates = (k : ℕ) → k < length gates → (d : Gate) → HasBits k (slice_index_or gates k d)

-- gates in their order, and the bits of the results y, z and x, one behind the other, the lowest bit of each first
pub record Netlist : Type 0 where
  pub gates : List Gate
  pub outputs : List Bit

pub record IsNetlist (net : Netlist) : Type 0 where
  pub are_gates : AreGates net.gates
  pub few : length net.gates ≤ 4194304
  pub words : length net.outputs ≡ 96
  pub are_bits : AreBits (length net.gates) net.outputs

-- ---- the value of a netlist

-- the numbers that the outputs spell, 32 bits each
abbrev pub results_of : (Bit → Bool) → List Bit → List ℕ
results_of holds outputs =
    spelt holds (take 32 outputs) ∷ spelt holds (take 32 (drop 32 outputs)) ∷ spelt holds (drop 64 outputs) ∷ []

-- the netlist has these results at these values of its inputs: each gate gives the value of its function
pub record IsValueOf (net : Netlist) (arguments results : List ℕ) : Type 0 where
  pub gives : ℕ → Bool
  pub settled : Settles net.gates arguments gives
  pub results_are : results ≡ results_of (bit_value arguments gives) net.outputs
