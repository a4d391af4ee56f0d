-- The folded block, for everybody: a block in which the members of a cut are one instruction.
use Rattle.std.specs.Prelude.{◌≡◌, ℕ, ◌-◌, ◌<◌, ◌↔◌, Bool, not, ◌&&◌, pos, List, ◌++◌, length, map, replicate, IsTrue}
use Rattle.std.specs.FinSet as finite
use Rattle.std.specs.Ordering.{nat_cmp}
use Rattle.ci_word.specs.declared.arithmetic.Op.TheVariants.{Add}
use Rattle.ci_word.specs.Numbers.{numbers_below}
use Rattle.ci_isa.specs.declared.instruction.Insn.{Insn}
use Rattle.ci_isa.specs.declared.instruction.Insn.TheVariants.{AluImm}
use Rattle.ci_isa.specs.Sequences.{nth_insn}
use Rattle.ci_lat.specs.Latencies.{Latencies}
use Rattle.ci_cut.specs.FlowGraph.{FlowGraph}
use Rattle.ci_cut.specs.Walks.{Walk}
use Rattle.ci_cut.specs.Gain.{further_words}
use Rattle.ci_cut.specs.Ports.{size}
use Rattle.ci_dfg.specs.BlockGraph.{graph_of}
use Rattle.ci_unit.specs.Uses.{use_of}

-- the graph is that of a block of these instructions, by some live set and some table
abbrev pub IsGraphOf : List Insn → FlowGraph → Type 0
IsGraphOf insns graph =
    (live_out : finite.FinSet nat_cmp) × (table : Latencies) × (graph ≡ graph_of insns live_out table)

-- `addi x0, x0, 0`, the word 00000013
abbrev pub no_op : Insn
no_op = AluImm Add 0 0 (pos 0)

-- a walk leads from the node to a member
abbrev pub LeadsToMember : FlowGraph → (ℕ → Bool) → ℕ → Type 0
LeadsToMember graph cut k = (m : ℕ) × IsTrue (cut m) × Walk graph k m

-- the nodes outside the cut from which a walk leads to a member, as a test
abbrev pub AreEarly : List Insn → FlowGraph → (ℕ → Bool) → (ℕ → Bool) → Type 0
AreEarly insns graph cut early =
    (k : ℕ) → k < length insns → IsTrue (early k) ↔ ((¬ IsTrue (cut k)) × LeadsToMember graph cut k)

-- The places of the members that a use of their unit leaves over: it takes one for the unit word, and one for each of
-- the further words, which are a `cput` and the `cread` of each output behind the first.
abbrev pub places_left : FlowGraph → (ℕ → Bool) → ℕ
places_left graph cut = size graph cut - 1 - further_words graph cut

-- the instructions whose numbers pass the test, in their order
abbrev pub those : List Insn → (ℕ → Bool) → List Insn
those insns test = map (nth_insn insns) (numbers_below (length insns) test)

module _ (insns : List Insn) (graph : FlowGraph) (cut : ℕ → Bool) where
  -- The block in which the unit of this number stands for the members of the cut. Before it stand those outside from
  -- which a walk leads to a member, in their order; behind it a no-op for each place that is left over, and then the
  -- others.
  pub record IsFolded (number : ℕ) (folded : List Insn) : Type 0 where
    pub early : ℕ → Bool
    pub are_early : AreEarly insns graph cut early
    pub is_list :
        folded
        ≡ those insns early ++ use_of insns graph cut number ++ replicate (places_left graph cut) no_op
        ++ those insns (λ k. not (cut k) && not (early k))

-- there is one such block
abbrev pub FoldedIsOne : Type 0
FoldedIsOne =
    (insns : List Insn) (graph : FlowGraph) (cut : ℕ → Bool) (number : ℕ) (first second : List Insn)
    → IsFolded insns graph cut number first → IsFolded insns graph cut number second → first ≡ second
