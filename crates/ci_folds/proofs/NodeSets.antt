-- Sets of nodes.
use Rattle.std.specs.Prelude.{ℕ, ◌<◌, length, nat_eq}
use Rattle.std.specs.Ordering.{nat_cmp}
use Rattle.std.specs.FinSet as set
use Rattle.std.proofs.Common.{sym, ◌∙◌, subst, inl, inr, true≢false}
use Rattle.std.proofs.lemmas.Bool.{or_cases, eqb-true}
use Rattle.ci_word.proofs.NumberLaws.{contains-insert_nat}
use Rattle.ci_cut.specs.FlowGraph.{FlowGraph}
use Rattle.ci_cut.specs.GraphRules.{AreNodes}

-- no number is one of nodes
pub no_nodes : (graph : FlowGraph) → AreNodes graph set.empty
no_nodes graph k there = absurd (true≢false (sym there ∙ set.contains-empty nat_cmp k))

-- a node more, and they are nodes
pub insert_node : (graph : FlowGraph) (cut : set.FinSet nat_cmp) (node : ℕ) → AreNodes graph cut
    → node < length graph.nodes → AreNodes graph (set.insert cut node)
insert_node graph cut node nodes below k there =
    elim (or_cases (nat_eq k node) (set.contains cut k) (sym (contains-insert_nat cut node k) ∙ there)) [
      | inl same ↦ subst (λ n. n < length graph.nodes) (sym (eqb-true k node same)) below
      | inr had ↦ nodes k had
    ]
