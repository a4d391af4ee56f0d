-- What a folded block costs less, for everybody.
use Rattle.std.specs.Prelude.{◌≡◌, ℕ, Bool, pos, ◌+ℤ◌, List, sum_by}
use Rattle.std.specs.FinSet as finite
use Rattle.std.specs.Ordering.{nat_cmp}
use Rattle.ci_isa.specs.declared.instruction.Insn.{Insn}
use Rattle.ci_lat.specs.Latencies.{Latencies as Table}
use Rattle.ci_machine.specs.Runs.{Latencies, latency}
use Rattle.ci_cut.specs.declared.graph.Limits.{Limits}
use Rattle.ci_cut.specs.Gain.{Fits, gain}
use Rattle.ci_cut.specs.Hardware.{hardware}
use Rattle.ci_dfg.specs.BlockGraph.{graph_of}
use Rattle.ci_rewrite.specs.FoldedBlock.{IsFolded}
use Rattle.ci_rewrite.specs.Blocks.{IsBlock}
use Rattle.ci_rewrite.specs.RunLatencies.{AreOfTable}

-- what the instructions of a block cost, each made once
abbrev pub cost_of : Latencies → List Insn → ℕ
cost_of latencies insns = sum_by (latency latencies) insns

-- The folded block costs less by the gain of the cut.
abbrev pub FoldingSaves : Type 0
FoldingSaves =
    (insns : List Insn) (n : ℕ) (live_out : finite.FinSet nat_cmp) (table : Table) (latencies : Latencies)
    (limits : Limits) (cut : ℕ → Bool) (number : ℕ) (folded : List Insn)
    → IsBlock insns n → AreOfTable table latencies → Fits (graph_of insns live_out table) limits cut
    → IsFolded insns (graph_of insns live_out table) cut number folded
    → latencies.of_unit number ≡ hardware (graph_of insns live_out table) cut
    → pos (cost_of latencies insns) ≡ pos (cost_of latencies folded) +ℤ gain (graph_of insns live_out table) cut
