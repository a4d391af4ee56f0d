-- Which graphs and cuts a unit can be read off, for everybody.
use Rattle.std.specs.Prelude.{◌≡◌, ℕ, ◌<◌, Bool, List, length}
use Rattle.ci_isa.specs.declared.instruction.Insn.{Insn}
use Rattle.ci_isa.specs.Effects.{operands, without_x0, may_join}
use Rattle.ci_isa.specs.Sequences.{nth_insn}
use Rattle.ci_cut.specs.FlowGraph.{FlowGraph, node_at}
use Rattle.ci_cut.specs.declared.graph.Limits.{Limits}
use Rattle.ci_cut.specs.Gain.{Fits}

-- The graph's nodes are the instructions in order: a node is eligible where its instruction may be part of a unit, and
-- has as many sources as its instruction has operands other than x0. The graph of a block of these instructions is such
-- a graph.
pub record AreOperands (insns : List Insn) (graph : FlowGraph) : Type 0 where
  pub same_length : length graph.nodes ≡ length insns
  pub eligible_is : (k : ℕ) → k < length insns → (node_at graph k).eligible ≡ may_join (nth_insn insns k)
  pub sources_fit : (k : ℕ) → k < length insns
      → length (node_at graph k).sources ≡ length (without_x0 (operands (nth_insn insns k)))

-- The set may become an instruction under some limits. All limits are at most five inputs and three outputs.
abbrev pub FitsSomeLimits : FlowGraph → (ℕ → Bool) → Type 0
FitsSomeLimits graph cut = (limits : Limits) × Fits graph limits cut
