-- For private contracts: the words of a module's wires, one after the other.
use Rattle.std.specs.Prelude.{◌≡◌, ℕ, ◌+◌, ◌-◌, ◌*◌, ◌%◌, ◌^◌, ◌<◌, Bool, List, ◌∷◌, ◌++◌, length, map, take, replicate, slice_index, All}
use Rattle.ci_verilog.specs.declared.vectors.Vector.{Vector}
use Rattle.ci_verilog.specs.declared.expressions.Wire.{Wire}
use Rattle.ci_verilog.specs.declared.expressions.Expr.{Expr}
use Rattle.ci_verilog.specs.Modules.{WireList, wires_of, known_by, IsExpr, Module, IsModule}
use Rattle.ci_verilog.specs.Values.{expr_value, Settles, results_of}
use Rattle.ci_netlist.specs.declared.bits.Bit.{Bit}
use Rattle.ci_netlist.specs.declared.bits.Bit.TheVariants.{Zero}
use Rattle.ci_netlist.specs.declared.bits.Gate.{Gate}
use Rattle.ci_netlist.specs.Netlists as netlist
use Rattle.ci_netlist.specs.Netlists.{bit_value, spelt, AreBits}
use Rattle.ci_gates.specs.Counts.{HaveGates, IsCountOf}
use Rattle.ci_gates.specs.private.Growing.{Grows}
use Rattle.ci_gates.specs.private.Scopes.{slot, HoldsWords}

-- a word and the zeros above it
abbrev pub slot_of : List Bit → List Bit
slot_of bits = bits ++ replicate (64 - length bits) Zero

-- the words of so many inputs
pub record AreInputs (words : List Bit) (count : ℕ) : Type 0 where
  pub room : length words ≡ 64 * count
  pub are_bits : (made : ℕ) → AreBits made words
  pub hold : (arguments : List ℕ) (gives : ℕ → Bool) (k : ℕ) → k < count
      → spelt (bit_value arguments gives) (slot words (64 * k)) ≡ slice_index arguments k % 2 ^ 32

abbrev pub first_wires : WireList → ℕ → WireList
first_wires wires k = wires_of wires.wide (take k wires.list)

abbrev pub values_of : List Wire → List Expr
values_of wires = map (λ wire. wire.value) wires

-- the words of the inputs and of the module's first wires, for which these gates were made
pub record AreWords (m : Module) (gates : List Gate) (words : List Bit) (k : ℕ) : Type 0 where
  pub is_module : IsModule m
  pub count : HaveGates (known_by m.wires) (values_of (take k m.wires.list)) (length gates)
  pub room : length words ≡ 64 * (5 + k)
  pub are_bits : AreBits (length gates) words
  pub hold : (arguments : List ℕ) (gives : ℕ → Bool) (names : List ℕ → Vector) → All (λ n. n < 2 ^ 32) arguments
      → netlist.Settles gates arguments gives → Settles m arguments names
      → HoldsWords (bit_value arguments gives) names (first_wires m.wires k) words

-- the bits of the module's results, for which these gates were made
pub record AreOutputs (m : Module) (gates : List Gate) (bits : List Bit) : Type 0 where
  pub count : IsCountOf m (length gates)
  pub words : length bits ≡ 96
  pub are_bits : AreBits (length gates) bits
  pub value : (arguments : List ℕ) (gives : ℕ → Bool) (names : List ℕ → Vector) → All (λ n. n < 2 ^ 32) arguments
      → netlist.Settles gates arguments gives → Settles m arguments names
      → netlist.results_of (bit_value arguments gives) bits ≡ map (expr_value names) (results_of m)

-- the words of all wires still stand for them, behind which these expressions took their gates
pub record AreBehind (m : Module) (gates : List Gate) (words : List Bit) (exprs : List Expr) : Type 0 where
  pub count : HaveGates (known_by m.wires) (values_of m.wires.list ++ exprs) (length gates)
  pub room : length words ≡ 64 * (5 + length m.wires.list)
  pub are_bits : AreBits (length gates) words
  pub hold : (arguments : List ℕ) (gives : ℕ → Bool) (names : List ℕ → Vector) → All (λ n. n < 2 ^ 32) arguments
      → netlist.Settles gates arguments gives → Settles m arguments names
      → HoldsWords (bit_value arguments gives) names m.wires words

-- the expression is that of the next result behind these
pub record IsNext (m : Module) (exprs : List Expr) (expr : Expr) : Type 0 where
  pub others : List Expr
  pub splits : results_of m ≡ exprs ++ expr ∷ others
  pub is_word : IsExpr (known_by m.wires) expr 32

-- the bits stand for a result, for which gates were appended
pub record IsResult (m : Module) (old new : List Gate) (expr : Expr) (bits : List Bit) : Type 0 where
  pub count : ℕ
  pub grows : Grows old new count
  pub width : length bits ≡ 32
  pub are_bits : AreBits (length new) bits
  pub value : (arguments : List ℕ) (gives : ℕ → Bool) (names : List ℕ → Vector) → All (λ n. n < 2 ^ 32) arguments
      → netlist.Settles new arguments gives → Settles m arguments names
      → spelt (bit_value arguments gives) bits ≡ expr_value names expr
