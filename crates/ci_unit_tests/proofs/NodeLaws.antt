-- What holds of the nodes of a list holds of those with one more, and registers that its nodes read.
use Rattle.std.proofs.Common.{◌≡◌, ℕ, ◌+◌, ◌<◌, List, [], ◌∷◌, ◌++◌, length, sym, ap, ◌∙◌, subst, inl, inr, arith}
use Rattle.std.proofs.Common.{IsTrue, true≢false}
use Rattle.std.specs.List.{list_any}
use Rattle.std.proofs.lemmas.Bool.{cases_eq}
use Rattle.std.proofs.Math.ListN.{get_or-append}
use Rattle.std.proofs.Math.Seq.{get_or-append_seam}
use Rattle.ci_cut.specs.declared.graph.Node.{Node}
use Rattle.ci_cut.specs.FlowGraph.{FlowGraph, no_node, node_in, node_at, is_source}
use Rattle.ci_cut.specs.declared.graph.Source.TheVariants.{Entry}
use Rattle.ci_cut.proofs.NodeLaws.{each_node}
use Rattle.ci_unit.specs.Uses.{AreRegisters}

pub each_more :
    (P : ℕ → Node → Type 0) (nodes more : List Node) (node : Node) (k : ℕ)
    → more ≡ nodes ++ node ∷ [] → length nodes ≡ k
    → ((j : ℕ) → j < k → P j (node_in nodes j)) → P k node → (j : ℕ) → j < k + 1 → P j (node_in more j)
each_more P nodes more node k pushed count before last j below =
    subst (λ list. P j (node_in list j)) (sym pushed)
    (elim (cases_eq j k) [
      | inl same ↦
          let at_last =
          ap (λ (i : ℕ). node_in (nodes ++ node ∷ []) i) (sym count) ∙ get_or-append_seam nodes node [] no_node in
          subst (λ i. P i (node_in (nodes ++ node ∷ []) i)) (sym same) (subst (P k) (sym at_last) last)
      | inr other ↦
          let earlier : j < length nodes = omega arith in
          subst (P j) (sym (get_or-append nodes (node ∷ []) no_node j earlier)) (before j (omega arith))
    ])

-- where all nodes of a list read registers alone at the entry, the graph does
pub registers_of :
    (graph : FlowGraph)
    → ((j : ℕ) → j < length graph.nodes → (r : ℕ)
    → IsTrue (list_any (is_source (Entry r)) (node_at graph j).sources) → r < 32) → AreRegisters graph
registers_of graph each k =
    each_node graph.nodes (λ k node. (r : ℕ) → IsTrue (list_any (is_source (Entry r)) node.sources) → r < 32) each
    (λ k r never. absurd (true≢false (sym never))) k
