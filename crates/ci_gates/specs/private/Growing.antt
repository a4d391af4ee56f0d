-- For private contracts: what is said of gates while more of them are appended.
use Rattle.std.specs.Prelude.{◌≡◌, ℕ, ◌+◌, ◌-◌, ◌*◌, ◌/◌, ◌%◌, ◌^◌, Bool, ◌&&◌, ◌||◌, bit_and, bit_or, bit_xor}
use Rattle.std.specs.Prelude.{List, [], ◌∷◌, ◌++◌, length, take, drop, replicate}
use Rattle.ci_verilog.specs.declared.expressions.Operator.{Operator}
use Rattle.ci_verilog.specs.declared.expressions.Operator.TheVariants.{Less}
use Rattle.ci_netlist.specs.declared.bits.Bit.{Bit}
use Rattle.ci_netlist.specs.declared.bits.Bit.TheVariants.{Zero}
use Rattle.ci_netlist.specs.declared.bits.Gate.{Gate}
use Rattle.ci_netlist.specs.Netlists.{differ, bit_value, Settles, AreBits}
use Rattle.ci_gates.specs.declared.building.Kind.{Kind}
use Rattle.ci_gates.specs.declared.building.Kind.TheVariants as kind
use Rattle.ci_gates.specs.declared.shifts.Direction.{Direction}
use Rattle.ci_gates.specs.declared.shifts.Direction.TheVariants.{Left, Right}

-- so many gates were appended: what settles all of them settles those that were there
pub record Grows (old new : List Gate) (count : ℕ) : Type 0 where
  pub count_is : length new ≡ length old + count
  pub kept : (arguments : List ℕ) (gives : ℕ → Bool) → Settles new arguments gives → Settles old arguments gives

-- this holds of the truth values of all bits, whatever the inputs are
abbrev pub Always : List Gate → ((Bit → Bool) → Type 0) → Type 0
Always gates P = (arguments : List ℕ) (gives : ℕ → Bool) → Settles gates arguments gives → P (bit_value arguments gives)

-- so many gates were appended, which made a word of this width
pub record MakesWord (old new : List Gate) (count width : ℕ) (bits : List Bit) : Type 0 where
  pub grows : Grows old new count
  pub width_is : length bits ≡ width
  pub are_bits : AreBits (length new) bits

-- ---- words

-- what a gate of this kind makes of truth values, and of the numbers of words bit by bit
abbrev pub kind_value : Kind → Bool → Bool → Bool
kind_value kind.And a b = a && b
kind_value kind.Or a b = a || b
kind_value kind.Xor a b = differ a b

abbrev pub kind_number : Kind → ℕ → ℕ → ℕ
kind_number kind.And m n = bit_and m n
kind_number kind.Or m n = bit_or m n
kind_number kind.Xor m n = bit_xor m n

-- bit by bit
abbrev pub pairs : (Bool → Bool → Bool) → List Bool → List Bool → List Bool
pairs f [] bs = []
pairs f (a ∷ as_) [] = []
pairs f (a ∷ as_) (b ∷ bs) = f a b ∷ pairs f as_ bs

-- the width of what an operator makes, by that of the left operand
abbrev pub operator_width : Operator → ℕ → ℕ
operator_width Less n = 1
operator_width operator n = n

-- a word of this width that is shifted so many places, with zeros behind it
abbrev pub shift_value : Direction → ℕ → ℕ → ℕ → ℕ
shift_value Left width n places = n * 2 ^ places % 2 ^ width
shift_value Right width n places = n / 2 ^ places

-- the bits moved so many places, which are at most the width
abbrev pub moved_bits : Direction → List Bit → ℕ → List Bit
moved_bits Left bits places = replicate places Zero ++ take (length bits - places) bits
moved_bits Right bits places = drop places bits ++ replicate places Zero
