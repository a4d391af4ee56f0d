-- The data-flow graph of a basic block, as a value.
use Rattle.std.specs.Prelude.{ℕ, Bool, false, nat_eq, List, [], slice_index_or, IsTrue}
use Rattle.std.specs.List.{list_any}
use Rattle.std.specs.FinSet as set
use Rattle.ci_cut.specs.declared.graph.Source.{Source}
use Rattle.ci_cut.specs.declared.graph.Source.TheVariants.{Entry, Made}
use Rattle.ci_cut.specs.declared.graph.Node.{Node}

-- The nodes, numbered from 0 in the order of the block, and two charges, in cycles: `read` for each further word of a
-- use, which reads a result after the first or passes operands, and `pad` for a no-op, which fills a place of the block.
pub record FlowGraph : Type 0 where
  pub nodes : List Node
  pub read : ℕ
  pub pad : ℕ

-- a node with nothing, which stands for every number past the end
abbrev pub no_node : Node
no_node = record { eligible = false; latency = 0; delay = 0; sources = []; before = set.empty; live = false }

-- the nodes of a list by their numbers
abbrev pub node_in : List Node → ℕ → Node
node_in nodes k = slice_index_or nodes k no_node

abbrev pub node_at : FlowGraph → ℕ → Node
node_at graph k = node_in graph.nodes k

abbrev pub is_source : Source → Source → Bool
is_source (Entry r) (Entry s) = nat_eq r s
is_source (Entry r) (Made k) = false
is_source (Made j) (Entry s) = false
is_source (Made j) (Made k) = nat_eq j k

-- node k has an operand from the source
abbrev pub reads : FlowGraph → ℕ → Source → Bool
reads graph k source = list_any (is_source source) (node_at graph k).sources

-- there is an arc from node j into node k
abbrev pub HasArc : FlowGraph → ℕ → ℕ → Type 0
HasArc graph j k = IsTrue (set.contains (node_at graph k).before j)
