-- The hardware time of a set of nodes: the delay of its critical path, in whole cycles.
use Rattle.std.specs.Prelude.{ℕ, zero, suc, ◌+◌, ◌/◌, max, Bool, true, ◌&&◌, List, [], ◌∷◌, ◌++◌, length, map, filter}
use Rattle.std.specs.Prelude.{sum_by}
use Rattle.ci_cut.specs.declared.graph.Source.TheVariants.{Made}
use Rattle.ci_cut.specs.FlowGraph.{FlowGraph, node_at, reads}

-- all lists of descending numbers below n
unfoldable pub descending_lists : ℕ → List (List ℕ)
descending_lists zero = [] ∷ []
descending_lists (suc n) = descending_lists n ++ map (λ numbers. n ∷ numbers) (descending_lists n)

-- members of the set, each of which reads the value of the next
abbrev pub is_chain : FlowGraph → (ℕ → Bool) → List ℕ → Bool
is_chain graph cut [] = true
is_chain graph cut (a ∷ []) = cut a
is_chain graph cut (a ∷ b ∷ chain) = (cut a && reads graph a (Made b)) && is_chain graph cut (b ∷ chain)

-- the sum of the delays of nodes, in thousandths of a cycle
abbrev pub delay_along : FlowGraph → List ℕ → ℕ
delay_along graph nodes = sum_by (λ k. (node_at graph k).delay) nodes

abbrev pub maximum : List ℕ → ℕ
maximum [] = 0
maximum (x ∷ xs) = max x (maximum xs)

-- The delay of the critical path: the greatest sum of delays along a chain. A node reads only earlier nodes, so each
-- chain is a list of descending numbers.
abbrev pub critical_path_delay : FlowGraph → (ℕ → Bool) → ℕ
critical_path_delay graph cut =
    maximum (map (delay_along graph) (filter (is_chain graph cut) (descending_lists (length graph.nodes))))

-- in cycles, rounded up, and at least one
abbrev pub hardware : FlowGraph → (ℕ → Bool) → ℕ
hardware graph cut = max 1 ((critical_path_delay graph cut + 999) / 1000)
