-- Walks along arcs, and convex sets of nodes (Atasu, Pozzi, Ienne, DAC 2003, section 3).
use Rattle.std.specs.Prelude.{ℕ, Bool, IsTrue}
use Rattle.ci_cut.specs.FlowGraph.{FlowGraph, HasArc}

-- a walk from one node to another, on which each node has an arc to the next
pub data Walk (graph : FlowGraph) : ℕ → ℕ → Type 0 where
  arc : {a b : ℕ} → HasArc graph a b → Walk graph a b
  onward : {a b c : ℕ} → Walk graph a b → HasArc graph b c → Walk graph a c

-- no walk leads from a member through a node outside to a member
abbrev pub IsConvex : FlowGraph → (ℕ → Bool) → Type 0
IsConvex graph cut =
    (a b c : ℕ) → IsTrue (cut a) → Walk graph a b → ¬ (IsTrue (cut b)) → Walk graph b c → ¬ (IsTrue (cut c))
