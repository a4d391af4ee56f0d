-- How a block uses the unit of a cut, for everybody: the registers of its inputs and of its outputs, and the words.
use Rattle.std.specs.Prelude.{◌≡◌, ℕ, ◌<◌, Bool, true, nat_lt, List, map, drop, slice_index}
use Rattle.ci_isa.specs.declared.instruction.Insn.{Insn}
use Rattle.ci_isa.specs.Effects.{results}
use Rattle.ci_isa.specs.Sequences.{nth_insn}
use Rattle.ci_cut.specs.declared.graph.Source.{Source}
use Rattle.ci_cut.specs.declared.graph.Source.TheVariants.{Entry, Made}
use Rattle.ci_cut.specs.FlowGraph.{FlowGraph, reads}
use Rattle.ci_cut.specs.Ports.{inputs}
use Rattle.ci_unit.specs.Units.{inputs_of, outputs_of}
use Rattle.ci_unit.specs.UseWords.{put_of, taking, reads_of, use_words}

-- what nodes read at the block's entry is in registers
abbrev pub AreRegisters : FlowGraph → Type 0
AreRegisters graph = (k r : ℕ) → reads graph k (Entry r) ≡ true → r < 32

-- operands are passed where there are more than three inputs
abbrev pub passes : FlowGraph → (ℕ → Bool) → Bool
passes graph cut = nat_lt 3 (inputs graph cut)

module _ (insns : List Insn) where
  -- the register that takes node k's result, and x0 where it has none
  abbrev pub result_register : ℕ → ℕ
  result_register k = slice_index (results (nth_insn insns k)) 0

  -- the register that a source is in
  abbrev pub register_of : Source → ℕ
  register_of (Entry r) = r
  register_of (Made k) = result_register k

  module _ (graph : FlowGraph) (cut : ℕ → Bool) where
    -- the registers of the inputs in their order
    abbrev pub input_registers : List ℕ
    input_registers = map register_of (inputs_of insns graph cut)

    -- and those of the outputs
    abbrev pub output_registers : List ℕ
    output_registers = map result_register (outputs_of insns graph cut)

    -- the `cput` of the fourth and the fifth input
    abbrev pub input_put : List Insn
    input_put = put_of (passes graph cut) input_registers

    -- the unit word of this number
    abbrev pub unit_word : ℕ → Insn
    unit_word number = taking number input_registers output_registers

    -- a `cread` of each output behind the first
    abbrev pub output_reads : List Insn
    output_reads = reads_of 0 (drop 1 output_registers)

    -- the words of a use, in their order
    abbrev pub use_of : ℕ → List Insn
    use_of number = use_words (passes graph cut) number input_registers output_registers
