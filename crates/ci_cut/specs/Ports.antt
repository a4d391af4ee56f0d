-- The inputs and outputs of a set of nodes (Atasu, Pozzi, Ienne, DAC 2003, section 3).
use Rattle.std.specs.Prelude.{ℕ, ◌+◌, Bool, true, not, ◌&&◌, ◌||◌, length}
use Rattle.ci_word.specs.Numbers.{count_below, some_below}
use Rattle.ci_cut.specs.declared.graph.Source.{Source}
use Rattle.ci_cut.specs.declared.graph.Source.TheVariants.{Entry, Made}
use Rattle.ci_cut.specs.FlowGraph.{FlowGraph, node_at, reads}

-- how many members there are
abbrev pub size : FlowGraph → (ℕ → Bool) → ℕ
size graph cut = count_below (length graph.nodes) cut

-- ---- sources

-- some of these nodes reads the source
abbrev pub is_read_by : FlowGraph → (ℕ → Bool) → Source → Bool
is_read_by graph readers source = some_below (length graph.nodes) (λ k. readers k && reads graph k source)

-- how many distinct sources pass the test: registers, whose numbers are below 256, and nodes
abbrev pub count_sources : FlowGraph → (Source → Bool) → ℕ
count_sources graph test =
    count_below 256 (λ r. test (Entry r)) + count_below (length graph.nodes) (λ k. test (Made k))

-- how many distinct sources that count as outside some of these nodes reads
abbrev pub inputs_from : FlowGraph → (Source → Bool) → (ℕ → Bool) → ℕ
inputs_from graph outside readers = count_sources graph (λ source. outside source && is_read_by graph readers source)

-- ---- a set's own

-- a register at entry, or a node that is no member
abbrev pub is_outside : (ℕ → Bool) → Source → Bool
is_outside cut (Entry r) = true
is_outside cut (Made k) = not (cut k)

-- the sources outside the set that its members read
abbrev pub inputs : FlowGraph → (ℕ → Bool) → ℕ
inputs graph cut = inputs_from graph (is_outside cut) cut

-- a member whose value is live after the block or read by a node outside
abbrev pub is_output : FlowGraph → (ℕ → Bool) → ℕ → Bool
is_output graph cut k = cut k && ((node_at graph k).live || is_read_by graph (λ j. not (cut j)) (Made k))

abbrev pub outputs : FlowGraph → (ℕ → Bool) → ℕ
outputs graph cut = count_below (length graph.nodes) (is_output graph cut)
