-- Prefixes: the choices that a search makes, in or out, for the eligible nodes from the last to the first.
-- Such a search is that of Atasu, Pozzi and Ienne (DAC 2003); its bounds are this project's own.
use Rattle.std.specs.Prelude.{◌≡◌, ℕ, suc, ◌+◌, ◌<◌, Bool, false, not, ◌&&◌, ◌||◌, nat_eq, ℤ, List, [], ◌∷◌, length}
use Rattle.std.specs.Prelude.{IsTrue}
use Rattle.ci_word.specs.Numbers.{count_below}
use Rattle.ci_cut.specs.FlowGraph.{FlowGraph, node_at}
use Rattle.ci_cut.specs.Ports.{inputs_from, is_outside}
use Rattle.ci_cut.specs.Gain.{saved_by}

-- A decision for each of the last eligible nodes, true where the node is taken in. The newest decision, which is on the
-- earliest of these nodes, stands first.
abbrev pub Prefix : Type 0
Prefix = List Bool

abbrev pub is_eligible : FlowGraph → ℕ → Bool
is_eligible graph k = (node_at graph k).eligible

-- how many nodes have to be decided
abbrev pub eligible_nodes : FlowGraph → ℕ
eligible_nodes graph = count_below (length graph.nodes) (is_eligible graph)

-- node k is decided next: it is eligible, and the other eligible nodes are those below it and those decided
abbrev pub is_next : FlowGraph → Prefix → ℕ → Bool
is_next graph prefix k =
    is_eligible graph k && nat_eq (count_below k (is_eligible graph) + suc (length prefix)) (eligible_nodes graph)

-- node k is decided by a choice that passes the test
unfoldable pub is_decided : FlowGraph → (Bool → Bool) → Prefix → ℕ → Bool
is_decided graph test [] k = false
is_decided graph test (choice ∷ prefix) k = (is_next graph prefix k && test choice) || is_decided graph test prefix k

-- the nodes taken in, and those left out
abbrev pub taken : FlowGraph → Prefix → ℕ → Bool
taken graph prefix = is_decided graph (λ choice. choice) prefix

abbrev pub left_out : FlowGraph → Prefix → ℕ → Bool
left_out graph prefix = is_decided graph not prefix

-- the nodes that may still be members: those taken in, and the undecided ones
abbrev pub possible : FlowGraph → Prefix → ℕ → Bool
possible graph prefix k = is_eligible graph k && not (left_out graph prefix k)

-- The inputs that are settled: what the nodes taken in read from registers at entry and from nodes that can't become
-- members any more.
abbrev pub settled_inputs : FlowGraph → Prefix → ℕ
settled_inputs graph prefix = inputs_from graph (is_outside (possible graph prefix)) (taken graph prefix)

-- What a set that goes on from the prefix gains at most: the formula of the gain, with the latencies and the number of
-- all nodes that may be members, and the hardware time, the outputs and the settled inputs of those taken in.
abbrev pub bound : FlowGraph → Prefix → ℤ
bound graph prefix = saved_by graph (possible graph prefix) (taken graph prefix)

-- the set comes before the prefix: at the first decision in which they differ, the set has the node
pub record IsBefore (graph : FlowGraph) (cut : ℕ → Bool) (prefix : Prefix) : Type 0 where
  pub node : ℕ
  pub in_cut : IsTrue (cut node)
  pub out_of_prefix : IsTrue (left_out graph prefix node)
  pub same_above : (k : ℕ) → node < k → cut k ≡ taken graph prefix k
