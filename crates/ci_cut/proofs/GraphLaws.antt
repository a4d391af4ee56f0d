-- What keeps a list of nodes a graph.
use Rattle.std.proofs.Common.{◌≡◌, ℕ, ◌<◌, ◌≤◌, inl, inr, IsTrue, List, [], ◌∷◌, ◌++◌, nat_eq, length, subst, sym, ◌∙◌, arith, refl}
use Rattle.std.specs.Ordering.{nat_cmp}
use Rattle.std.specs.List.{list_any}
use Rattle.std.specs.FinSet as set
use Rattle.std.proofs.Math.Bool.{or-false}
use Rattle.std.proofs.lemmas.Bool.{or_cases}
use Rattle.std.proofs.lemmas.Bool.Decides.{nat_tests}
use Rattle.std.proofs.lemmas.List.Folds.{list_any-append}
use Rattle.std.proofs.lemmas.List.{length-append}
use Rattle.ci_cut.specs.declared.graph.Node.{Node}
use Rattle.ci_cut.specs.declared.graph.Source.{Source}
use Rattle.ci_cut.specs.declared.graph.Source.TheVariants.{Entry, Made}
use Rattle.ci_cut.specs.FlowGraph.{FlowGraph, no_node, node_in, is_source}
use Rattle.ci_cut.specs.GraphRules.{IsFlowGraph}
use Rattle.ci_cut.proofs.NodeLaws.{node_in-push, each_node}

-- node k is as a graph with this charge for a no-op keeps it
pub record IsNodeOf (pad k : ℕ) (node : Node) : Type 0 where
  pub arcs : (j : ℕ) → IsTrue (set.contains node.before j) → j < k
  pub made : (j : ℕ) → IsTrue (list_any (is_source (Made j)) node.sources) → j < k
  pub latency_least : IsTrue node.eligible → 1 ≤ node.latency
  pub latency_most : node.latency ≤ 1000
  pub delay_most : node.delay ≤ 100000
  pub pad_least : IsTrue node.eligible → pad ≤ node.latency

-- no node is kept at each number
no_node_kept : (pad k : ℕ) → IsNodeOf pad k no_node
no_node_kept pad k = record {
  arcs = λ j arc. let none = set.contains-empty nat_cmp j in cc;
  made = λ j from. cc;
  latency_least = λ e. cc;
  latency_most = omega arith;
  delay_most = omega arith;
  pad_least = λ e. cc;
}

-- nodes that are each kept are a graph
pub flow_graph_from : (nodes : List Node) (read pad : ℕ) → length nodes ≤ 256 → pad ≤ read
    → ((k : ℕ) → k < length nodes → IsNodeOf pad k (node_in nodes k))
    → IsFlowGraph (record { nodes = nodes; read = read; pad = pad })
flow_graph_from nodes read pad few cheap within = record {
  few = few;
  arcs_rise = λ j k. (kept k).arcs j;
  sources_rise = λ j k. (kept k).made j;
  latency_least = λ k. (kept k).latency_least;
  latency_most = λ k. (kept k).latency_most;
  delay_most = λ k. (kept k).delay_most;
  pad_least = λ k. (kept k).pad_least;
  pad_read = cheap;
}
  where
    kept : (k : ℕ) → IsNodeOf pad k (node_in nodes k)
    kept = each_node nodes (IsNodeOf pad) within (no_node_kept pad)

-- and each node of a graph is kept
pub node_kept : (graph : FlowGraph) → IsFlowGraph graph → (k : ℕ) → IsNodeOf graph.pad k (node_in graph.nodes k)
node_kept graph flows k = record {
  arcs = λ j. flows.arcs_rise j k;
  made = λ j. flows.sources_rise j k;
  latency_least = flows.latency_least k;
  latency_most = flows.latency_most k;
  delay_most = flows.delay_most k;
  pad_least = flows.pad_least k;
}

-- a graph without a node
pub flow_graph_none : (read pad : ℕ) → pad ≤ read → IsFlowGraph (record { nodes = []; read = read; pad = pad })
flow_graph_none read pad cheap = flow_graph_from [] read pad (omega arith) cheap (λ k below. absurd (omega arith))

-- a graph with one node more
pub flow_graph_push : (graph : FlowGraph) (node : Node) → IsFlowGraph graph → length graph.nodes < 256
    → IsNodeOf graph.pad (length graph.nodes) node → IsFlowGraph (record graph { nodes = graph.nodes ++ node ∷ [] })
flow_graph_push graph node flows room next =
    flow_graph_from (graph.nodes ++ node ∷ []) graph.read graph.pad (rw length-append (omega arith)) flows.pad_read
    (λ k _. elim (node_in-push graph.nodes node k) [
      | inl same ↦ subst (IsNodeOf graph.pad k) (sym same) (node_kept graph flows k)
      | inr (at_end, same) ↦ subst (IsNodeOf graph.pad k) (sym same) (subst (λ (n : ℕ). IsNodeOf graph.pad n node) (sym at_end) next)
    ])

-- the nodes among sources are below n, with one source more
pub made_push : (sources : List Source) (source : Source) (n : ℕ) → ((j : ℕ) → IsTrue (list_any (is_source (Made j)) sources) → j < n) →
    ((k : ℕ) → source ≡ Made k → k < n) → (j : ℕ) → IsTrue (list_any (is_source (Made j)) (sources ++ source ∷ [])) → j < n
made_push sources (Entry r) n old new j from =
    elim (or_cases _ _ (sym (list_any-append (is_source (Made j)) sources (Entry r ∷ [])) ∙ from))
    [ inl before ↦ old j before | inr last ↦ absurd (cc) ]
made_push sources (Made k) n old new j from = elim (or_cases _ _ (sym (list_any-append (is_source (Made j)) sources (Made k ∷ [])) ∙ from)) [
  | inl before ↦ old j before
  | inr last ↦ let below = new k refl in let same = or-false (nat_eq j k) in grind (arith, nat_tests)
]
