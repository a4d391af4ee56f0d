-- Prefixes of pairs: labels for the eligible nodes from the last to the first.
use Rattle.std.specs.Prelude.{◌≡◌, ℕ, suc, zero, ◌+◌, ◌*◌, ◌<◌, ◌≤◌, Bool, true, false, not, ◌&&◌, ℤ, pos, ◌-ℤ◌, ◌*ℤ◌, ◌<ℤ◌}
use Rattle.std.specs.Prelude.{List, [], ◌∷◌, ◌++◌, map, IsTrue}
use Rattle.ci_cut.specs.declared.graph.Limits.{Limits}
use Rattle.ci_cut.specs.FlowGraph.{FlowGraph}
use Rattle.ci_cut.specs.Walks.{IsConvex}
use Rattle.ci_cut.specs.Ports.{size, outputs}
use Rattle.ci_cut.specs.Hardware.{hardware}
use Rattle.ci_cut.specs.Gain.{software, further_words_of}
use Rattle.ci_cut.specs.Prefixes as cuts
use Rattle.ci_cut.specs.ListCounts.{AtLeast}
use Rattle.ci_pair.specs.Pairs.{NodePair, HasGreatest, Cross, FitTogether, pair_gain}
use Rattle.ci_pair.specs.Pairs.{Label, First, Second, Out, label, rank}

-- A label for each of the last eligible nodes. The newest, which is that of the earliest of these nodes, stands first.
abbrev pub PairPrefix : Type 0
PairPrefix = List Label

abbrev pub is_label : Label → Label → Bool
is_label First First = true
is_label First Second = false
is_label First Out = false
is_label Second First = false
is_label Second Second = true
is_label Second Out = false
is_label Out First = false
is_label Out Second = false
is_label Out Out = true

-- the choices that one set makes: a node is taken in that has the label, and any other that is decided is left out
abbrev pub choices : Label → PairPrefix → cuts.Prefix
choices which prefix = map (is_label which) prefix

-- the nodes that have the label
abbrev pub labelled : FlowGraph → Label → PairPrefix → ℕ → Bool
labelled graph which prefix = cuts.taken graph (choices which prefix)

-- the two sets that are labelled so far
abbrev pub chosen : FlowGraph → PairPrefix → NodePair
chosen graph prefix = record { first = labelled graph First prefix; second = labelled graph Second prefix }

-- the nodes of both sets, and the undecided ones
abbrev pub possible : FlowGraph → PairPrefix → ℕ → Bool
possible graph prefix k = cuts.is_eligible graph k && not (labelled graph Out prefix k)

-- ---- the bound

-- the further words of both uses, by the outputs and the settled inputs of each set
abbrev pub further_words : FlowGraph → PairPrefix → Label → ℕ
further_words graph prefix which =
    further_words_of (cuts.settled_inputs graph (choices which prefix)) (outputs graph (labelled graph which prefix))

-- the cycles that two uses save together:
-- software - hardware - further * read - (size - 2 - further) * pad
abbrev pub saved_cycles : ℕ → ℕ → ℕ → ℕ → ℕ → ℕ → ℤ
saved_cycles read pad software hardware further size =
    ((pos software -ℤ pos hardware) -ℤ pos (further * read)) -ℤ (((pos size -ℤ pos 2) -ℤ pos further) *ℤ pos pad)

-- What a pair that goes on from the prefix gains at most: by the latencies and the number of all nodes that may be in
-- one of the sets, and the hardware time, the outputs and the settled inputs of what is labelled.
abbrev pub bound : FlowGraph → PairPrefix → ℤ
bound graph prefix =
    saved_cycles graph.read graph.pad (software graph (possible graph prefix))
    (hardware graph (labelled graph First prefix) + hardware graph (labelled graph Second prefix))
    (further_words graph prefix First + further_words graph prefix Second) (size graph (possible graph prefix))

-- ---- open prefixes

-- some node is in the second set, and the greatest of both sets is
abbrev pub IsMirrored : FlowGraph → PairPrefix → Type 0
IsMirrored graph prefix = HasGreatest (labelled graph Second prefix) (labelled graph First prefix)

abbrev pub IsCrossing : FlowGraph → PairPrefix → Type 0
IsCrossing graph prefix = Cross graph (labelled graph First prefix) (labelled graph Second prefix)

-- the pair comes before the prefix: at the first decision in which they differ, its label comes first
pub record IsBefore (graph : FlowGraph) (pair : NodePair) (prefix : PairPrefix) : Type 0 where
  pub node : ℕ
  pub there : Label
  pub has_label : IsTrue (labelled graph there prefix node)
  pub earlier : rank (label pair node) < rank there
  pub same_above : (k : ℕ) → node < k → label pair k ≡ label (chosen graph prefix) k

-- what is labelled so is convex, and its outputs and settled inputs are within the limits
pub record IsBounded (graph : FlowGraph) (limits : Limits) (prefix : PairPrefix) (which : Label) : Type 0 where
  pub convex : IsConvex graph (labelled graph which prefix)
  pub outputs_within : outputs graph (labelled graph which prefix) ≤ limits.outputs
  pub inputs_within : cuts.settled_inputs graph (choices which prefix) ≤ limits.inputs

-- nothing rules out yet that a pair that goes on from the prefix gains more than each pair before
pub record IsOpen (graph : FlowGraph) (limits : Limits) (prefix : PairPrefix) : Type 0 where
  pub not_mirrored : ¬ IsMirrored graph prefix
  pub not_crossing : ¬ IsCrossing graph prefix
  pub first : IsBounded graph limits prefix First
  pub second : IsBounded graph limits prefix Second
  pub above_none : pos 0 <ℤ bound graph prefix
  pub above_each : (pair : NodePair) → FitTogether graph limits pair → IsBefore graph pair prefix
      → pair_gain graph pair <ℤ bound graph prefix

-- all prefixes that go on from this one, itself among them, by fewer decisions than there are nodes undecided
unfoldable pub continuations : ℕ → PairPrefix → List PairPrefix
continuations zero prefix = []
continuations (suc undecided) prefix =
    prefix ∷ (continuations undecided (First ∷ prefix)
    ++ (continuations undecided (Second ∷ prefix) ++ continuations undecided (Out ∷ prefix)))

-- more of them are open than this
abbrev pub NeedExceeds : FlowGraph → Limits → ℕ → Type 0
NeedExceeds graph limits budget =
    AtLeast (IsOpen graph limits) (suc budget) (continuations (cuts.eligible_nodes graph) [])
