-- What a block that is folded by its graph keeps and saves, for everybody: whatever the table of the graph, and
-- whatever is live behind the block.
use Rattle.std.specs.Prelude.{◌≡◌, ℕ, Bool, pos, ◌+ℤ◌, List}
use Rattle.std.specs.FinSet as finite
use Rattle.std.specs.Ordering.{nat_cmp}
use Rattle.ci_isa.specs.declared.instruction.Insn.{Insn}
use Rattle.ci_lat.specs.Latencies.{Latencies as Table}
use Rattle.ci_machine.specs.Runs.{Latencies}
use Rattle.ci_cut.specs.FlowGraph.{FlowGraph}
use Rattle.ci_cut.specs.Gain.{gain}
use Rattle.ci_cut.specs.Hardware.{hardware}
use Rattle.ci_dfg.specs.BlockGraph.{graph_of}
use Rattle.ci_unit.specs.Units.{unit_of}
use Rattle.ci_rewrite.specs.Blocks.{IsBlock, AreNamed}
use Rattle.ci_rewrite.specs.Costs.{cost_of}
use Rattle.ci_rewrite.specs.RunLatencies.{AreOfTable}
use Rattle.ci_rewrite.specs.SameSteps.{KeepsRuns}

module _ (insns : List Insn) (graph : FlowGraph) (cut : ℕ → Bool) (number : ℕ) (folded : List Insn) where
  -- It has the effect of the block on machines that have the cut's unit at this number, where programs can name what is
  -- live.
  abbrev pub KeepsEffect : Type 0
  KeepsEffect =
      (n : ℕ) (live_out : finite.FinSet nat_cmp) (table : Table)
      → IsBlock insns n → AreNamed live_out → graph ≡ graph_of insns live_out table
      → KeepsRuns insns n live_out number (unit_of insns graph cut) folded

  -- It costs less by the gain of the cut, where the unit takes the cut's hardware time.
  abbrev pub SavesGain : Type 0
  SavesGain =
      (n : ℕ) (live_out : finite.FinSet nat_cmp) (table : Table) (latencies : Latencies)
      → IsBlock insns n → graph ≡ graph_of insns live_out table → AreOfTable table latencies
      → latencies.of_unit number ≡ hardware graph cut
      → pos (cost_of latencies insns) ≡ pos (cost_of latencies folded) +ℤ gain graph cut
