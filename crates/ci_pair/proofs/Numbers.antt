-- The sums of a pair's terms fit 64 bits.
use Rattle.std.proofs.Common.{◌≡◌, ℕ, ◌*◌, ◌^◌, ◌<◌, ◌≤◌, ℤ, pos, ◌-ℤ◌, FitsSigned, to_z, of_z, w64, refl, ◌∙◌, arith, length, Bool, true, false, ◌&&◌, []}
use Rattle.std.proofs.lemmas.Int.{ints, to_z-of_z}
use Rattle.std.proofs.lemmas.Nat.{mul-le}
use Rattle.ci_word.proofs.NumberLaws.{count_below-le, sum_below-le}
use Rattle.ci_cut.specs.FlowGraph.{FlowGraph, node_at}
use Rattle.ci_cut.specs.GraphRules.{IsFlowGraph}
use Rattle.ci_cut.specs.Ports.{size}
use Rattle.ci_cut.specs.Gain.{software}
use Rattle.ci_cut.specs.Prefixes as cuts
use Rattle.ci_pair.specs.Prefixes.{PairPrefix}
use Rattle.ci_pair.specs.private.States.{undecided}

-- the difference of a latency and a no-op, as the code computes it
module _ (latency pad : ℕ) (latency_fits : latency < 2 ^ 32) (pad_fits : pad < 2 ^ 32) (first second : ℤ)
    (is_first : first ≡ pos latency) (is_second : second ≡ pos pad) where
  pub cost_fits : FitsSigned w64 (to_z w64 (of_z w64 first) -ℤ to_z w64 (of_z w64 second))
  cost_fits = omega (arith, ints)

  pub cost_is : to_z w64 (of_z w64 (to_z w64 (of_z w64 first) -ℤ to_z w64 (of_z w64 second))) ≡ pos latency -ℤ pos pad
  cost_is = omega (arith, ints)

  -- what is shared less that
  module _ (held : ℤ) (software_of pads : ℕ) (held_is : held ≡ pos software_of -ℤ pos pads) (few : software_of ≤ 256000) (small : pads ≤ 256 * 2 ^ 32) where
    pub less_fits : FitsSigned w64 (to_z w64 (of_z w64 held) -ℤ to_z w64 (of_z w64 (to_z w64 (of_z w64 first) -ℤ to_z w64 (of_z w64 second))))
    less_fits = rw cost_is (fits held held_is)
      where
        fits : (z : ℤ) → z ≡ pos software_of -ℤ pos pads → FitsSigned w64 (to_z w64 (of_z w64 z) -ℤ (pos latency -ℤ pos pad))
        fits z is = omega (arith, ints)

    pub less_is : to_z w64 (of_z w64 (to_z w64 (of_z w64 held) -ℤ to_z w64 (of_z w64 (to_z w64 (of_z w64 first) -ℤ to_z w64 (of_z w64 second)))))
        ≡ held -ℤ (pos latency -ℤ pos pad)
    less_is = to_z-of_z w64 _ less_fits ∙ (λ i. same held held_is i -ℤ cost_is i)
      where
        same : (z : ℤ) → z ≡ pos software_of -ℤ pos pads → to_z w64 (of_z w64 z) ≡ z
        same z is = omega (arith, ints)

module _ (graph : FlowGraph) (flows : IsFlowGraph graph) (prefix : PairPrefix) where
  pub shared_software-few : software graph (undecided graph prefix) ≤ 256000
  shared_software-few =
      omega (
        arith,
        flows.few,
        sum_below-le (length graph.nodes) (undecided graph prefix) (λ k. (node_at graph k).latency) 1000 (λ k _. flows.latency_most k),
      )

  pub shared_pads-few : graph.pad < 2 ^ 32 → size graph (undecided graph prefix) * graph.pad ≤ 256 * 2 ^ 32
  shared_pads-few pad_fits =
      mul-le (size graph (undecided graph prefix)) graph.pad 256 (2 ^ 32)
      (omega (arith, flows.few, count_below-le (length graph.nodes) (undecided graph prefix))) (omega (arith, pad_fits))

-- ---- before the first label

same_twice : (b : Bool) → (b && b) ≡ b
same_twice true = refl
same_twice false = refl

pub undecided_none : (graph : FlowGraph) → undecided graph [] ≡ cuts.possible graph []
undecided_none graph = λ i k. same_twice (cuts.possible graph [] k) i

module _ (software_of size_of pad : ℕ) (few : software_of ≤ 256000) (size_few : size_of ≤ 256) (pad_fits : pad < 2 ^ 32) where
  pads_small : size_of * pad ≤ 256 * 2 ^ 32
  pads_small = mul-le size_of pad 256 (2 ^ 32) size_few (omega (arith, pad_fits))

  pub pads_cast : FitsSigned w64 (pos (size_of * pad))
  pads_cast = omega (arith, ints, pads_small)

  module _ (held : ℤ) (is : held ≡ pos software_of) where
    pub start_fits : FitsSigned w64 (to_z w64 (of_z w64 held) -ℤ to_z w64 (size_of * pad))
    start_fits = omega (arith, ints, pads_small)

    pub start_is : to_z w64 (of_z w64 (to_z w64 (of_z w64 held) -ℤ to_z w64 (size_of * pad))) ≡ pos software_of -ℤ pos (size_of * pad)
    start_is = omega (arith, ints, pads_small)
