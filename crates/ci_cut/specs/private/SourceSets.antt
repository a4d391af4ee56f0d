-- For private contracts: sets of sources, and the nodes on either side of a set of nodes. `Represents` cites it too.
use Rattle.std.specs.Prelude.{◌≡◌, ℕ, Bool, true, false, not, ◌&&◌, List, IsTrue}
use Rattle.std.specs.List.{list_any}
use Rattle.std.specs.FinSet as set
use Rattle.ci_cut.specs.declared.graph.Source.{Source}
use Rattle.ci_cut.specs.declared.graph.Source.TheVariants.{Entry, Made}
use Rattle.ci_word.specs.Numbers.{some_below}
use Rattle.ci_cut.specs.FlowGraph.{FlowGraph, is_source, reads}
use Rattle.ci_cut.specs.Ports.{count_sources, is_outside}
use Rattle.ci_cut.specs.Prefixes.{is_eligible}
use Rattle.ci_cut.specs.declared.ports.SourceSet.{SourceSet}

-- the source is in the set
abbrev pub holds : SourceSet → Source → Bool
holds sources (Entry r) = set.contains sources.registers r
holds sources (Made k) = set.contains sources.nodes k

-- node k is a member, if members are meant, or else none
abbrev pub is_reader : (ℕ → Bool) → Bool → ℕ → Bool
is_reader cut true k = cut k
is_reader cut false k = not (cut k)

-- some of these nodes below n reads the source
abbrev pub is_read_below : ℕ → FlowGraph → (ℕ → Bool) → Source → Bool
is_read_below n graph readers source = some_below n (λ k. readers k && reads graph k source)

-- how many sources of a set pass a test
abbrev pub count_held : FlowGraph → (Source → Bool) → SourceSet → ℕ
count_held graph test sources = count_sources graph (λ source. test source && holds sources source)

-- among these sources the test is passed by registers, and by nodes that are not eligible
abbrev pub AreSettledBy : FlowGraph → (Source → Bool) → List Source → Type 0
AreSettledBy graph test sources =
    (source : Source) → IsTrue (list_any (is_source source) sources)
    → test source ≡ is_outside (is_eligible graph) source
