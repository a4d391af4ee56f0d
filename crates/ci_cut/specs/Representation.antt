-- For the contracts of checker and search: what the code holds of a graph and of a prefix.
use Rattle.std.specs.Prelude.{◌≡◌, ℕ, suc, ◌+◌, ◌/◌, max, ◌<◌, ◌≤◌, ℤ, ◌⊎◌, Bool, List, length, slice_index}
use Rattle.std.specs.Prelude.{slice_index_or, IsTrue, Option, None, MatchOption, ◌↔◌}
use Rattle.std.specs.Ordering.{nat_cmp}
use Rattle.std.specs.FinSet as set
use Rattle.ci_word.specs.Numbers.{count_below}
use Rattle.ci_cut.specs.declared.graph.Source.{Source}
use Rattle.ci_cut.specs.declared.graph.Source.TheVariants.{Made}
use Rattle.ci_cut.specs.declared.graph_rows.GraphRows.{GraphRows}
use Rattle.ci_cut.specs.declared.prefix.PrefixTerms.{PrefixTerms}
use Rattle.ci_cut.specs.FlowGraph.{FlowGraph, node_at, reads}
use Rattle.ci_cut.specs.GraphRules.{IsFlowGraph}
use Rattle.ci_cut.specs.Walks.{Walk, IsConvex}
use Rattle.ci_cut.specs.Ports.{is_read_by, outputs, size}
use Rattle.ci_cut.specs.Gain.{software, further_words_of, saved_cycles}
use Rattle.ci_cut.specs.private.SourceSets.{holds}
use Rattle.ci_cut.specs.Prefixes.{Prefix, is_eligible, eligible_nodes, taken, possible, settled_inputs}

-- ---- the rows of a graph

abbrev pub row_at : List (set.FinSet nat_cmp) → ℕ → set.FinSet nat_cmp
row_at rows k = slice_index_or rows k set.empty

-- node k is the last eligible one below a place
pub record IsNextBelow (graph : FlowGraph) (place k : ℕ) : Type 0 where
  pub below : k < place
  pub eligible : IsTrue (is_eligible graph k)
  pub none_between : suc (count_below k (is_eligible graph)) ≡ count_below place (is_eligible graph)

-- the last eligible node below a place, or none
abbrev pub IsLastBelow : FlowGraph → ℕ → Option ℕ → Type 0
IsLastBelow graph place last = MatchOption last (count_below place (is_eligible graph) ≡ 0) (IsNextBelow graph place)

-- the rows at each node are its successors by arcs, the nodes from which walks lead to it, and its readers
pub record AreRowsOf (graph : FlowGraph) (rows : GraphRows) : Type 0 where
  pub successors : (j k : ℕ) → j < length graph.nodes
      → set.contains (row_at rows.successors j) k ≡ set.contains (node_at graph k).before j
  pub ancestors : (j k : ℕ) → k < length graph.nodes
      → IsTrue (set.contains (row_at rows.ancestors k) j) ↔ Walk graph j k
  pub readers : (j k : ℕ) → j < length graph.nodes → set.contains (row_at rows.readers j) k ≡ reads graph k (Made j)
  pub last_below : (place : ℕ) → place ≤ length graph.nodes
      → IsLastBelow graph place (slice_index_or rows.last_below place None)

-- ---- chains that end at a node

-- a chain of members that ends at a node, and the sum of its delays
pub data ChainTo (graph : FlowGraph) (cut : ℕ → Bool) : ℕ → ℕ → Type 0 where
  alone : {k : ℕ} → IsTrue (cut k) → ChainTo graph cut k (node_at graph k).delay
  onward : {k m delay : ℕ} → ChainTo graph cut m delay → IsTrue (reads graph m (Made k)) → IsTrue (cut k)
      → ChainTo graph cut k (delay + (node_at graph k).delay)

-- the greatest sum of delays along a chain that ends at a node of its own delay, by those at the members that read it
pub record IsDelayTo (readers cut : ℕ → Bool) (delays : List ℕ) (own delay : ℕ) : Type 0 where
  pub alone : own ≤ delay
  pub onward : (m : ℕ) → IsTrue (readers m) → IsTrue (cut m) → slice_index delays m + own ≤ delay
  pub reached : (delay ≡ own)
      ⊎ ((m : ℕ) × IsTrue (readers m) × IsTrue (cut m) × (delay ≡ slice_index delays m + own))

-- the delays at members are the greatest sums along chains that end there, and this is the greatest of them
pub record AreLongest (graph : FlowGraph) (cut : ℕ → Bool) (delays : List ℕ) (longest : ℕ) : Type 0 where
  pub delay_to : (k : ℕ) → IsTrue (cut k)
      → IsDelayTo (λ m. reads graph m (Made k)) cut delays (node_at graph k).delay (slice_index delays k)
  pub chain_to : (k : ℕ) → IsTrue (cut k) → ChainTo graph cut k (slice_index delays k)
  pub bound : (k : ℕ) → IsTrue (cut k) → slice_index delays k ≤ longest
  pub reached : (longest ≡ 0) ⊎ ((k : ℕ) × IsTrue (cut k) × (longest ≡ slice_index delays k))

-- ---- what a node changes

-- a successor that is no member, and from which a walk leads to one
abbrev pub HasWayBack : (ℕ → Bool) → (ℕ → Bool) → (ℕ → Bool) → Type 0
HasWayBack successors cut reaching =
    (k : ℕ) × IsTrue (successors k) × (¬ IsTrue (cut k)) × IsTrue (reaching k)

-- a reader that is no member
abbrev pub HasReaderOutside : (ℕ → Bool) → (ℕ → Bool) → Type 0
HasReaderOutside readers cut = (k : ℕ) × IsTrue (readers k) × (¬ IsTrue (cut k))

-- ---- the terms of a prefix

-- a walk leads from the node to a member
abbrev pub Reaches : FlowGraph → (ℕ → Bool) → ℕ → Type 0
Reaches graph cut k = (member : ℕ) × IsTrue (cut member) × Walk graph k member

-- what sets gain at most by the latencies of the nodes that may be members, the greatest sum of delays along a chain of
-- nodes taken in, the settled inputs and the outputs, and how many nodes may be members
abbrev pub bound_by : FlowGraph → ℕ → ℕ → ℕ → ℕ → ℕ → ℤ
bound_by graph latencies longest settled outputs members =
    saved_cycles graph.read graph.pad latencies (max 1 ((longest + 999) / 1000)) (further_words_of settled outputs)
    members

-- the terms and the delays are those of the prefix, which decides the eligible nodes from the place on
pub record Represents (graph : FlowGraph) (prefix : Prefix) (terms : PrefixTerms) (delays : List ℕ) : Type 0 where
  pub kept : IsFlowGraph graph
  pub within : terms.place ≤ length graph.nodes
  pub decided : count_below terms.place (is_eligible graph) + length prefix ≡ eligible_nodes graph
  pub is_taken : (k : ℕ) → set.contains terms.taken k ≡ taken graph prefix k
  pub is_reaching : (k : ℕ) → IsTrue (set.contains terms.reaching k) ↔ Reaches graph (taken graph prefix) k
  pub is_read : (source : Source) → holds terms.read source ≡ is_read_by graph (taken graph prefix) source
  pub is_convex : IsTrue terms.convex ↔ IsConvex graph (taken graph prefix)
  pub outputs_are : terms.outputs ≡ outputs graph (taken graph prefix)
  pub settled_are : terms.settled ≡ settled_inputs graph prefix
  pub longest_is : AreLongest graph (taken graph prefix) delays terms.longest
  pub software_is : terms.software ≡ software graph (possible graph prefix)
  pub size_is : terms.size ≡ size graph (possible graph prefix)
  pub bound_is : terms.bound ≡ bound_by graph terms.software terms.longest terms.settled terms.outputs terms.size

-- they are those of some prefix
abbrev pub RepresentsSome : FlowGraph → PrefixTerms → Type 0
RepresentsSome graph terms = (prefix : Prefix) × (delays : List ℕ) × Represents graph prefix terms delays

-- they are those of some prefix that decides all nodes
abbrev pub RepresentsWhole : FlowGraph → PrefixTerms → Type 0
RepresentsWhole graph terms =
    (prefix : Prefix) × (delays : List ℕ) × Represents graph prefix terms delays
    × (eligible_nodes graph ≤ length prefix)

-- the delays from a place on are the same
abbrev pub AreKeptFrom : ℕ → List ℕ → List ℕ → Type 0
AreKeptFrom place before after = (k : ℕ) → place ≤ k → slice_index after k ≡ slice_index before k
