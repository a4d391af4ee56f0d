-- The unit of a cut, for everybody: the operations of its members, in the order of the block, with what they are
-- applied to and which of them are its outputs; and what a unit computes.
use Rattle.std.specs.Prelude.{◌≡◌, ℕ, zero, suc, ◌<◌, ◌≤◌, ◌^◌, Bool, false, not, if◌then◌else◌, List, [], ◌∷◌}
use Rattle.std.specs.Prelude.{length, map, filter, slice_index, slice_index_or}
use Rattle.std.specs.List.{flat_map, Contains}
use Rattle.ci_word.specs.declared.arithmetic.Op.TheVariants.{Add}
use Rattle.ci_word.specs.Arithmetic.{operation, word_of}
use Rattle.ci_word.specs.Numbers.{numbers_below, count_below}
use Rattle.ci_isa.specs.declared.instruction.Insn.{Insn}
use Rattle.ci_isa.specs.declared.instruction.Insn.TheVariants.{Alu, AluImm, Lui, Ebreak}
use Rattle.ci_isa.specs.Effects.{operands, class_of, is_division, padded}
use Rattle.ci_isa.specs.Sequences.{nth_insn}
use Rattle.ci_cut.specs.declared.graph.Source.{Source}
use Rattle.ci_cut.specs.declared.graph.Source.TheVariants.{Entry, Made}
use Rattle.ci_cut.specs.FlowGraph.{FlowGraph, node_at, is_source}
use Rattle.ci_cut.specs.Ports.{is_outside, is_output}
use Rattle.ci_cut.specs.Hardware.{hardware}
use Rattle.ci_unit.specs.declared.operations.Arg.{Arg}
use Rattle.ci_unit.specs.declared.operations.Arg.TheVariants.{Input, Earlier, Constant}
use Rattle.ci_unit.specs.declared.operations.UnitOp.{UnitOp}

-- ---- units

-- Operations in their order, the numbers of those that are outputs, in their order, and the cycles of one use.
pub record Unit : Type 0 where
  pub ops : List UnitOp
  pub outputs : List ℕ
  pub cycles : ℕ

-- an operation past the end, which no unit has
abbrev pub no_op : UnitOp
no_op = record { class = class_of Ebreak; op = Add; left = Constant 0; right = Constant 0 }

abbrev pub op_at : Unit → ℕ → UnitOp
op_at unit n = slice_index_or unit.ops n no_op

-- the argument of operation n is one of the five inputs, an earlier operation or a word
abbrev pub IsArg : ℕ → Arg → Type 0
IsArg n (Input i) = i < 5
IsArg n (Earlier m) = m < n
IsArg n (Constant word) = word < 2 ^ 32

pub record IsOp (n : ℕ) (op : UnitOp) : Type 0 where
  pub no_division : is_division op.op ≡ false
  pub left : IsArg n op.left
  pub right : IsArg n op.right

-- what every unit keeps
pub record IsUnit (unit : Unit) : Type 0 where
  pub some : 1 ≤ length unit.ops
  pub few : length unit.ops ≤ 256
  pub ops : (n : ℕ) → n < length unit.ops → IsOp n (op_at unit n)
  pub outputs : (n : ℕ) → Contains unit.outputs n → n < length unit.ops
  pub outputs_rise : (j k : ℕ) → j < k → k < length unit.outputs
      → slice_index unit.outputs j < slice_index unit.outputs k
  pub has_output : 1 ≤ length unit.outputs
  pub few_outputs : length unit.outputs ≤ 3
  pub cycles_least : 1 ≤ unit.cycles
  pub cycles_most : unit.cycles ≤ 9999999

-- ---- the unit of a cut

-- each source once, where it stands first
abbrev pub once : List Source → List Source
once [] = []
once (source ∷ rest) = source ∷ filter (λ other. not (is_source source other)) (once rest)

-- the place of a source in a list that has it
abbrev pub place_in : List Source → Source → ℕ
place_in [] source = 0
place_in (other ∷ rest) source = if is_source source other then 0 else suc (place_in rest source)

-- by the members and the inputs
module _ (cut : ℕ → Bool) (inputs : List Source) where
  -- what an operand of this source is in the unit: a member's result, by its number among the members, or an input
  abbrev pub arg_from : Source → Arg
  arg_from (Entry r) = Input (place_in inputs (Entry r))
  arg_from (Made m) = if cut m then Earlier (count_below m cut) else Input (place_in inputs (Made m))

  -- Operands in these registers, x0 being the constant 0. The others have the sources, one after the other.
  abbrev pub args_from : List ℕ → List Source → List Arg
  args_from [] sources = []
  args_from (zero ∷ registers) sources = Constant 0 ∷ args_from registers sources
  args_from (suc r ∷ registers) [] = []
  args_from (suc r ∷ registers) (source ∷ sources) = arg_from source ∷ args_from registers sources

abbrev pub arg_at : List Arg → ℕ → Arg
arg_at args n = slice_index_or args n (Constant 0)

-- the operation of an instruction with these arguments; LUI adds 0 to its constant
abbrev pub operation_of : Insn → List Arg → UnitOp
operation_of (Alu op rd rs1 rs2) args =
    record { class = class_of (Alu op rd rs1 rs2); op = op; left = arg_at args 0; right = arg_at args 1 }
operation_of (AluImm op rd rs1 imm) args =
    record { class = class_of (AluImm op rd rs1 imm); op = op; left = arg_at args 0; right = Constant (word_of imm) }
operation_of (Lui rd upper) args =
    record { class = class_of (Lui rd upper); op = Add; left = Constant upper; right = Constant 0 }
operation_of insn args = no_op

module _ (insns : List Insn) (graph : FlowGraph) (cut : ℕ → Bool) where
  -- the members in the order of the block
  abbrev pub members : List ℕ
  members = numbers_below (length insns) cut

  -- The inputs: what the members read from outside the cut, by first use in the order of the block and of the operands.
  abbrev pub inputs_of : List Source
  inputs_of = once (filter (is_outside cut) (flat_map (λ k. (node_at graph k).sources) members))

  -- the operation of member k, by these inputs
  abbrev pub op_of : List Source → ℕ → UnitOp
  op_of inputs k =
      let insn = nth_insn insns k in
      operation_of insn (args_from cut inputs (operands insn) (node_at graph k).sources)

  -- the members that are outputs, in the order of the block
  abbrev pub outputs_of : List ℕ
  outputs_of = numbers_below (length insns) (is_output graph cut)

  abbrev pub unit_of : Unit
  unit_of = record {
    ops = map (op_of inputs_of) members;
    outputs = map (λ k. count_below k cut) outputs_of;
    cycles = hardware graph cut;
  }

-- ---- the value of a unit

-- what an argument is, by the inputs and the results of the operations
abbrev pub arg_value : List ℕ → List ℕ → Arg → ℕ
arg_value inputs results (Input i) = slice_index inputs i
arg_value inputs results (Earlier n) = slice_index results n
arg_value inputs results (Constant word) = word

abbrev pub op_value : List ℕ → List ℕ → UnitOp → ℕ
op_value inputs results op = operation op.op (arg_value inputs results op.left) (arg_value inputs results op.right)

-- The unit makes these outputs of these inputs, by some results of its operations: each is what its operation gives of
-- the inputs and of the other results. Each operation is applied to inputs, constants and earlier results, so that
-- there are just one.
pub record IsValueOf (unit : Unit) (inputs outputs : List ℕ) : Type 0 where
  pub results : List ℕ
  pub results_are : results ≡ map (op_value inputs results) unit.ops
  pub outputs_are : outputs ≡ map (slice_index results) unit.outputs

-- the same as three words, of which those past the outputs are 0
pub record IsTripleOf (unit : Unit) (inputs given : List ℕ) : Type 0 where
  pub outputs : List ℕ
  pub value : IsValueOf unit inputs outputs
  pub triple : given ≡ padded 3 outputs
