-- For the contracts of ci_cut: what every data-flow graph keeps, and sets of its nodes.
use Rattle.std.specs.Prelude.{ℕ, ◌<◌, ◌≤◌, length, IsTrue}
use Rattle.std.specs.Ordering.{nat_cmp}
use Rattle.std.specs.FinSet as set
use Rattle.ci_cut.specs.declared.graph.Source.TheVariants.{Made}
use Rattle.ci_cut.specs.FlowGraph.{FlowGraph, HasArc, node_at, reads}

-- What a graph keeps. Arcs and sources come from earlier nodes. A no-op costs no more than a read, and no more than a
-- node that may be a member.
pub record IsFlowGraph (graph : FlowGraph) : Type 0 where
  pub few : length graph.nodes ≤ 256
  pub arcs_rise : (j k : ℕ) → HasArc graph j k → j < k
  pub sources_rise : (j k : ℕ) → IsTrue (reads graph k (Made j)) → j < k
  pub latency_least : (k : ℕ) → IsTrue (node_at graph k).eligible → 1 ≤ (node_at graph k).latency
  pub latency_most : (k : ℕ) → (node_at graph k).latency ≤ 1000
  pub delay_most : (k : ℕ) → (node_at graph k).delay ≤ 100000
  pub pad_least : (k : ℕ) → IsTrue (node_at graph k).eligible → graph.pad ≤ (node_at graph k).latency
  pub pad_read : graph.pad ≤ graph.read

-- each number of the set is a node
abbrev pub AreNodes : FlowGraph → set.FinSet nat_cmp → Type 0
AreNodes graph numbers = (k : ℕ) → IsTrue (set.contains numbers k) → k < length graph.nodes
