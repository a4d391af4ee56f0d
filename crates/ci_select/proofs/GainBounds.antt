-- What a cut saves in a run is small.
use Rattle.std.proofs.Common.{◌≡◌, ℕ, ◌+◌, ◌-◌, ◌*◌, ◌^◌, ◌<◌, ◌≤◌, Bool, length, ℤ, pos, ◌-ℤ◌, ◌<ℤ◌, ◌≤ℤ◌, to_z, of_z, w64, arith}
use Rattle.std.specs.Prelude.{unsigned_abs}
use Rattle.std.proofs.lemmas.Int.{ints}
use Rattle.std.proofs.lemmas.Nat.{mul-le}
use Rattle.ci_word.proofs.NumberLaws.{sum_below-le}
use Rattle.ci_cut.specs.FlowGraph.{FlowGraph, node_at}
use Rattle.ci_cut.specs.GraphRules.{IsFlowGraph}
use Rattle.ci_cut.specs.Gain.{further_words, gain, saved_cycles, software}
use Rattle.ci_cut.specs.Hardware.{hardware}
use Rattle.ci_cut.specs.Ports.{size}
use Rattle.ci_unit.specs.Operands.{FitsSomeLimits}

-- no more is saved than the software latency
saved_most : (read pad soft hard further size_of : ℕ) → 1 + further ≤ size_of
    → saved_cycles read pad soft hard further size_of ≤ℤ pos soft
saved_most read pad soft hard further size_of room =
    let left : (pos size_of -ℤ pos 1) -ℤ pos further ≡ pos (size_of - (1 + further)) = omega (arith, ints) in
    rw left (omega (arith, ints))

-- so that a cut of a graph gains few cycles
pub gain_most : (graph : FlowGraph) (cut : ℕ → Bool) → IsFlowGraph graph → FitsSomeLimits graph cut
    → gain graph cut ≤ℤ pos 256000
gain_most graph cut kept (limits, fits) =
    let soft : software graph cut ≤ length graph.nodes * 1000 =
    sum_below-le (length graph.nodes) cut (λ k. (node_at graph k).latency) 1000 (λ k h. kept.latency_most k) in
    let most = saved_most graph.read graph.pad (software graph cut) (hardware graph cut) (further_words graph cut) (size graph cut) fits.room in
    omega (arith, ints, most, soft, kept.few)

-- and few for each time that the block is entered
pub saved_is_small : (gained : ℤ) (entries : ℕ) → pos 0 <ℤ gained → gained ≤ℤ pos 256000 → entries < 2 ^ 64
    → unsigned_abs (to_z w64 (of_z w64 gained)) * entries < 2 ^ 82
saved_is_small gained entries some few fits =
    let back : to_z w64 (of_z w64 gained) ≡ gained = omega (arith, ints) in
    let less : unsigned_abs gained ≤ 256000 = omega (arith, ints) in
    rw back (omega (arith, mul-le (unsigned_abs gained) entries 256000 (2 ^ 64) less (omega arith)))
