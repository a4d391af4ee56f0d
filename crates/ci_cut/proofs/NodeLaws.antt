-- The nodes of a list by their numbers.
use Rattle.std.proofs.Common.{◌≡◌, ℕ, ◌<◌, ◌≤◌, ◌⊎◌, inl, inr, List, [], ◌∷◌, ◌++◌, length, get_or, sym, ap, ◌∙◌, subst, arith}
use Rattle.std.proofs.lemmas.Bool.{cases_lt, cases_order}
use Rattle.std.proofs.lemmas.List.{get_or_default, length-append}
use Rattle.std.proofs.Math.ListN.{get_or-append, get_or-eq_default}
use Rattle.std.proofs.Math.Seq.{get_or-append_seam}
use Rattle.ci_word.specs.Numbers.{count_below}
use Rattle.ci_word.proofs.NumberLaws.{count_below-le}
use Rattle.ci_cut.specs.declared.graph.Node.{Node}
use Rattle.ci_cut.specs.FlowGraph.{FlowGraph, no_node, node_in, node_at}

-- a node of the list, whatever stands past the end
pub node_in-within : (nodes : List Node) (k : ℕ) (past : Node) → k < length nodes → node_in nodes k ≡ get_or nodes k past
node_in-within nodes k past below = get_or_default nodes k no_node past below

-- past the end there is none
pub node_in-past : (nodes : List Node) (k : ℕ) → length nodes ≤ k → node_in nodes k ≡ no_node
node_in-past nodes k past = get_or-eq_default nodes no_node past

-- with a node more at the end, each number's node is the one that it was, or the new one
pub node_in-push : (nodes : List Node) (node : Node) (k : ℕ)
    → (node_in (nodes ++ node ∷ []) k ≡ node_in nodes k)
    ⊎ ((k ≡ length nodes) × (node_in (nodes ++ node ∷ []) k ≡ node))
node_in-push nodes node k = elim (cases_order k (length nodes)) [
  | inl at_end ↦ inr (at_end, ap (λ (i : ℕ). node_in (nodes ++ node ∷ []) i) at_end ∙ get_or-append_seam nodes node [] no_node)
  | inr (inl before) ↦ inl (get_or-append nodes (node ∷ []) no_node k before)
  | inr (inr past) ↦
      let short : length (nodes ++ node ∷ []) ≤ k = rw length-append (omega arith) in
      inl (node_in-past (nodes ++ node ∷ []) k short ∙ sym (node_in-past nodes k (omega arith)))
]

-- what holds of each node of a list, and of no node, holds at each number
pub each_node : (nodes : List Node) (P : ℕ → Node → Type 0) → ((k : ℕ) → k < length nodes → P k (node_in nodes k))
    → ((k : ℕ) → P k no_node) → (k : ℕ) → P k (node_in nodes k)
each_node nodes P within none k = elim (cases_lt k (length nodes)) [
  | inl below ↦ within k below
  | inr past ↦ subst (P k) (sym (node_in-past nodes k past)) (none k)
]

-- ---- what code reads

-- what a read of the list of nodes gives
pub node_there : (graph : FlowGraph) (nodes : List Node) (k : ℕ) (node : Node) → nodes ≡ graph.nodes
    → k < length nodes → node ≡ get_or nodes k node → node_at graph k ≡ node
node_there graph nodes k node same below read = ap (λ l. node_in l k) (sym same) ∙ node_in-within nodes k node below ∙ sym read

-- no more nodes are eligible than there are
pub few_eligible : (graph : FlowGraph) (most : ℕ) → length graph.nodes ≤ most →
    count_below (length graph.nodes) (λ k. (node_at graph k).eligible) ≤ most
few_eligible graph most few = omega (arith, count_below-le (length graph.nodes) (λ k. (node_at graph k).eligible))
