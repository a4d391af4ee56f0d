-- What a cut gains, and when it fits. The formula of the gain is this project's own.
use Rattle.std.specs.Prelude.{ℕ, ◌+◌, ◌-◌, ◌*◌, ◌≤◌, nat_lt, Bool, ℤ, pos, ◌-ℤ◌, ◌*ℤ◌, IsTrue, length, if◌then◌else◌}
use Rattle.ci_word.specs.Numbers.{sum_below}
use Rattle.ci_cut.specs.declared.graph.Limits.{Limits}
use Rattle.ci_cut.specs.FlowGraph.{FlowGraph, node_at}
use Rattle.ci_cut.specs.Walks.{IsConvex}
use Rattle.ci_cut.specs.Ports.{size, inputs, inputs_from, is_outside, outputs}
use Rattle.ci_cut.specs.Hardware.{hardware}

-- ---- by numbers alone

-- The words that a use takes beside its first: one to read each output after the first, and one to pass operands where
-- there are more than three inputs.
abbrev pub further_words_of : ℕ → ℕ → ℕ
further_words_of inputs outputs = (outputs - 1) + (if nat_lt 3 inputs then 1 else 0)

-- Cycles saved at each run of the block: the software latency, less the hardware time, less a read for each further
-- word, less a no-op for each place that is left over:
-- software - hardware - further * read - (size - 1 - further) * pad.
abbrev pub saved_cycles : ℕ → ℕ → ℕ → ℕ → ℕ → ℕ → ℤ
saved_cycles read pad software hardware further size =
    ((pos software -ℤ pos hardware) -ℤ pos (further * read)) -ℤ (((pos size -ℤ pos 1) -ℤ pos further) *ℤ pos pad)

-- ---- of a set of nodes

-- the software latencies of the members together, in cycles
abbrev pub software : FlowGraph → (ℕ → Bool) → ℕ
software graph cut = sum_below (length graph.nodes) cut (λ k. (node_at graph k).latency)

abbrev pub further_words : FlowGraph → (ℕ → Bool) → ℕ
further_words graph cut = further_words_of (inputs graph cut) (outputs graph cut)

-- The saved cycles by the software latency and the size of the members, by the hardware time and the outputs of a core
-- of them, and by what the core reads from outside the members.
abbrev pub saved_by : FlowGraph → (ℕ → Bool) → (ℕ → Bool) → ℤ
saved_by graph members core =
    saved_cycles graph.read graph.pad (software graph members) (hardware graph core)
    (further_words_of (inputs_from graph (is_outside members) core) (outputs graph core)) (size graph members)

abbrev pub gain : FlowGraph → (ℕ → Bool) → ℤ
gain graph cut =
    saved_cycles graph.read graph.pad
    (software graph cut) (hardware graph cut) (further_words graph cut) (size graph cut)

-- the set may become an instruction under these limits
pub record Fits (graph : FlowGraph) (limits : Limits) (cut : ℕ → Bool) : Type 0 where
  pub eligible : (k : ℕ) → IsTrue (cut k) → IsTrue (node_at graph k).eligible
  pub convex : IsConvex graph cut
  pub inputs_within : inputs graph cut ≤ limits.inputs
  pub has_output : 1 ≤ outputs graph cut
  pub outputs_within : outputs graph cut ≤ limits.outputs
  pub room : 1 + further_words graph cut ≤ size graph cut
