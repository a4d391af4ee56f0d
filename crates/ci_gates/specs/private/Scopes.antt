-- For private contracts: words of bits that stand for the names of a module.
use Rattle.std.specs.Prelude.{◌≡◌, ℕ, ◌+◌, ◌*◌, ◌<◌, ◌≤◌, Bool, List, length, take, drop}
use Rattle.std.specs.List.{Contains, slice_index_or}
use Rattle.ci_verilog.specs.declared.vectors.Vector.{Vector}
use Rattle.ci_verilog.specs.declared.expressions.Wire.{Wire}
use Rattle.ci_verilog.specs.Modules.{Known, WireList, IsInput, known_by}
use Rattle.ci_verilog.specs.Values.{of_width}
use Rattle.ci_verilog.specs.private.Held.{Fits}
use Rattle.ci_netlist.specs.declared.bits.Bit.{Bit}
use Rattle.ci_netlist.specs.Netlists.{bit_value, spelt, AreBits}

-- the vector that bits stand for
abbrev pub vector_of : (Bit → Bool) → List Bit → Vector
vector_of holds bits = of_width (length bits) (spelt holds bits)

-- each of the five inputs and each wire has 64 bits, the inputs first
abbrev pub slot : List Bit → ℕ → List Bit
slot words start = take 64 (drop start words)

pub record IsScope (wires : WireList) (words : List Bit) : Type 0 where
  pub room : 64 * (5 + length wires.list) ≤ length words
  pub narrow : (v : Known) → Contains (known_by wires) v → v.width ≤ 64

-- the names stand for what the bits hold
pub record HoldsWords (holds : Bit → Bool) (names : List ℕ → Vector) (wires : WireList) (words : List Bit) : Type 0 where
  pub inputs_are : (name : List ℕ) (k : ℕ) → IsInput wires.wide name k
      → names name ≡ of_width 32 (spelt holds (slot words (64 * k)))
  pub wires_are : (k : ℕ) → k < length wires.list → (d : Wire)
      → names (slice_index_or wires.list k d).name
      ≡ of_width (slice_index_or wires.list k d).width (spelt holds (slot words (64 * (5 + k))))
  pub fit : (v : Known) → Contains (known_by wires) v → Fits (names v.name) v.width

-- the bits stand for this vector of the names, and they are bits wherever the words are
pub record Stands (wires : WireList) (words bits : List Bit) (of : (List ℕ → Vector) → Vector) : Type 0 where
  pub value : (arguments : List ℕ) (gives : ℕ → Bool) (names : List ℕ → Vector)
      → HoldsWords (bit_value arguments gives) names wires words → vector_of (bit_value arguments gives) bits ≡ of names
  pub are_bits : (made : ℕ) → AreBits made words → AreBits made bits

-- there are values of the inputs, of the gates and of the names that go together
pub record IsHeld (wires : WireList) (words : List Bit) : Type 0 where
  pub arguments : List ℕ
  pub gives : ℕ → Bool
  pub names : List ℕ → Vector
  pub holds : HoldsWords (bit_value arguments gives) names wires words
