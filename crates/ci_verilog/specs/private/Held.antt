-- For private contracts: vectors within their widths, and what the code holds of the names that are known so far.
use Rattle.std.specs.Prelude.{◌≡◌, ℕ, ◌^◌, ◌<◌, ◌≤◌, List, length, slice_index}
use Rattle.std.specs.List.{Contains, slice_index_or}
use Rattle.ci_verilog.specs.declared.vectors.Vector.{Vector}
use Rattle.ci_verilog.specs.declared.expressions.Simple.{Simple}
use Rattle.ci_verilog.specs.declared.expressions.Item.{Item}
use Rattle.ci_verilog.specs.declared.expressions.Term.{Term}
use Rattle.ci_verilog.specs.declared.expressions.Expr.{Expr}
use Rattle.ci_verilog.specs.declared.expressions.Wire.{Wire}
use Rattle.ci_verilog.specs.Modules.{Known, WireList, IsInput, known_by, IsSimple, IsItem, AreItems, IsTerm, IsExpr}
use Rattle.ci_verilog.specs.Values.{of_width}

abbrev pub InRange : Vector → Type 0
InRange v = v.value < 2 ^ v.width

pub record Fits (v : Vector) (width : ℕ) : Type 0 where
  pub width_is : v.width ≡ width
  pub in_range : v.value < 2 ^ width

-- the names stand for these values of the inputs, and the wires for these values
pub record Holds (names : List ℕ → Vector) (arguments : List ℕ) (wires : WireList) (values : List ℕ) : Type 0 where
  pub inputs_are : (k : ℕ) (name : List ℕ) → IsInput wires.wide name k
      → names name ≡ of_width 32 (slice_index arguments k)
  pub wires_are : (k : ℕ) → k < length wires.list → (d : Wire)
      → names (slice_index_or wires.list k d).name ≡ of_width (slice_index_or wires.list k d).width (slice_index values k)
  pub fit : (v : Known) → Contains (known_by wires) v → Fits (names v.name) v.width
  pub narrow : (v : Known) → Contains (known_by wires) v → v.width ≤ 64

abbrev pub IsHeld : List ℕ → WireList → List ℕ → Type 0
IsHeld arguments wires values = (names : List ℕ → Vector) × Holds names arguments wires values

-- a simple, an item, items, a term and an expression of some width
abbrev pub SimpleFits : WireList → Simple → Type 0
SimpleFits wires simple = (width : ℕ) × IsSimple (known_by wires) simple width

abbrev pub ItemFits : WireList → Item → Type 0
ItemFits wires item = (width : ℕ) × IsItem (known_by wires) item width

abbrev pub ItemsFit : WireList → List Item → Type 0
ItemsFit wires items = (width : ℕ) × (width ≤ 64) × AreItems (known_by wires) items width

abbrev pub TermFits : WireList → Term → Type 0
TermFits wires term = (width : ℕ) × IsTerm (known_by wires) term width

abbrev pub ExprFits : WireList → Expr → Type 0
ExprFits wires expr = (width : ℕ) × IsExpr (known_by wires) expr width
