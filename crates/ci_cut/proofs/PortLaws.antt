-- What is read by the nodes below a number, and what is counted over them.
use Rattle.std.proofs.Common.{◌≡◌, ℕ, ◌+◌, ◌≤◌, IsTrue, Bool, true, false, not, ◌&&◌, ◌||◌, if◌then◌else◌, ◌<◌, refl, ap, sym, ◌∙◌, arith, add-one, length}
use Rattle.std.proofs.Math.Bool.{beq, or-false, and_comm}
use Rattle.std.specs.Cmp.{nat_cmp_total}
use Rattle.std.specs.Ordering.{nat_cmp}
use Rattle.std.specs.FinSet as set
use Rattle.std.specs.List.{list_any}
use Rattle.ci_word.specs.Numbers.{count_below, some_below}
use Rattle.std.proofs.lemmas.Bool.{and_parts, and_from}
use Rattle.ci_word.proofs.NumberLaws.{count_below-suc, count_below-mono, count_below-same, len-count_below, some_below-suc, some_below_iff}
use Rattle.ci_cut.specs.declared.graph.Source.{Source}
use Rattle.ci_cut.specs.declared.graph.Source.TheVariants.{Entry, Made}
use Rattle.ci_cut.specs.declared.graph.Node.{Node}
use Rattle.ci_cut.specs.FlowGraph.{FlowGraph, node_at, is_source, reads}
use Rattle.ci_cut.specs.GraphRules.{IsFlowGraph}
use Rattle.ci_cut.specs.private.SourceSets.{is_reader, is_read_below}
use Rattle.ci_cut.specs.Ports.{is_read_by, inputs_from, is_outside, is_output}

-- one number more
some_below-more : (k : ℕ) (p : ℕ → Bool) → some_below (k + 1) p ≡ (some_below k p || p k)
some_below-more k p = rw add-one (some_below-suc k p)

count_below-more : (k : ℕ) (p : ℕ → Bool) → count_below (k + 1) p ≡ count_below k p + (if p k then 1 else 0)
count_below-more k p = rw add-one (count_below-suc k p)

-- a number that passes the test is counted, and another is not
pub counted : (k : ℕ) (p : ℕ → Bool) (count : ℕ) → count ≡ count_below k p → p k ≡ true → count + 1 ≡ count_below (k + 1) p
counted k p count so_far passes = rw (count_below-more k p, passes, ← so_far)

pub not_counted : (k : ℕ) (p : ℕ → Bool) (count : ℕ) → count ≡ count_below k p → p k ≡ false → count ≡ count_below (k + 1) p
not_counted k p count so_far fails = rw (count_below-more k p, fails) (omega (arith, so_far))

-- node k is on a side if its test is the one that is meant
on_side : (cut : ℕ → Bool) (members : Bool) (k : ℕ) → is_reader cut members k ≡ beq (cut k) members
on_side cut true k = elim (cut k) as (λ b. b ≡ beq b true) [ true ↦ refl | false ↦ refl ]
on_side cut false k = elim (cut k) as (λ b. not b ≡ beq b false) [ true ↦ refl | false ↦ refl ]

module _ (graph : FlowGraph) (cut : ℕ → Bool) (members : Bool) (k : ℕ) (has : Bool) (has_is : has ≡ cut k) where
  read_more : (source : Source) → is_read_below (k + 1) graph (is_reader cut members) source
      ≡ (is_read_below k graph (is_reader cut members) source || (beq has members && reads graph k source))
  read_more source = rw (some_below-more k (λ j. is_reader cut members j && reads graph j source), on_side cut members k, ← has_is)

  -- the sources of a node on that side are read
  pub read_here : (node : Node) (source : Source) (old new : Bool) → node_at graph k ≡ node → beq has members ≡ true →
      old ≡ is_read_below k graph (is_reader cut members) source → new ≡ (old || list_any (is_source source) node.sources) →
      new ≡ is_read_below (k + 1) graph (is_reader cut members) source
  read_here node source old new here same so_far more = rw (read_more source, same, here, ← so_far) more

  -- and those of another node are not
  pub not_read_here : (source : Source) (old : Bool) → beq has members ≡ false →
      old ≡ is_read_below k graph (is_reader cut members) source → old ≡ is_read_below (k + 1) graph (is_reader cut members) source
  not_read_here source old other so_far = rw (read_more source, other, ← so_far) (sym (or-false old))

-- a source outside the set that some reader reads
abbrev pub is_input : FlowGraph → (ℕ → Bool) → (ℕ → Bool) → Source → Bool
is_input graph inside readers source = is_outside inside source && is_read_by graph readers source

-- whether a node is an output, by what is read
pub is_output-at : (graph : FlowGraph) (cut : ℕ → Bool) (k : ℕ) (node : Node) (read wanted : Bool) → node_at graph k ≡ node →
    read ≡ is_read_by graph (λ j. not (cut j)) (Made k) → wanted ≡ (node.live || read) →
    is_output graph cut k ≡ (cut k && wanted)
is_output-at graph cut k node read wanted here read_is wanted_is = rw (here, ← read_is, ← wanted_is)

-- how many nodes are inputs, by a set of those that are read
pub made_inputs : (graph : FlowGraph) (cut nodes : set.FinSet nat_cmp) → IsFlowGraph graph
    → ((k : ℕ) → set.contains nodes k ≡ is_read_by graph (set.contains cut) (Made k))
    → set.len (set.difference nodes cut) ≡ count_below (length graph.nodes) (λ k. is_input graph (set.contains cut) (set.contains cut) (Made k))
made_inputs graph cut nodes flows read =
    len-count_below (length graph.nodes) (set.difference nodes cut) below
    ∙ count_below-same (length graph.nodes) (set.contains (set.difference nodes cut)) (λ k. is_input graph (set.contains cut) (set.contains cut) (Made k))
    (λ k _.
    set.contains-difference nat_cmp_total nodes cut k
    ∙ and_comm (set.contains nodes k) (not (set.contains cut k))
    ∙ ap (λ b. not (set.contains cut k) && b) (read k))
  where
    below : (k : ℕ) → IsTrue (set.contains (set.difference nodes cut) k) → k < length graph.nodes
    below k in_ =
        let is_read = (and_parts _ _ (sym (set.contains-difference nat_cmp_total nodes cut k) ∙ in_)).0 in
        let found = (some_below_iff (length graph.nodes) (λ j. set.contains cut j && reads graph j (Made k))).0 (sym (read k) ∙ is_read) in
        let rises = flows.sources_rise k found.0 (and_parts (set.contains cut found.0) (reads graph found.0 (Made k)) found.2).1 in
        omega (arith, rises, found.1)

-- ---- more sources and readers

module _ (graph : FlowGraph) (readers more : ℕ → Bool) (more_read : (k : ℕ) → IsTrue (readers k) → IsTrue (more k)) where
  is_read_by-mono : (source : Source) → IsTrue (is_read_by graph readers source) → IsTrue (is_read_by graph more source)
  is_read_by-mono source read =
      let found = (some_below_iff (length graph.nodes) (λ k. readers k && reads graph k source)).0 read in
      let parts = and_parts (readers found.0) (reads graph found.0 source) found.2 in
      (some_below_iff (length graph.nodes) (λ k. more k && reads graph k source)).1
      (found.0, found.1, and_from (more found.0) (reads graph found.0 source) (more_read found.0 parts.0) parts.1)

  -- where more sources count as outside, and more nodes read, there are no fewer inputs
  pub inputs_from-mono : (outside further : Source → Bool)
      → ((source : Source) → IsTrue (outside source) → IsTrue (further source))
      → inputs_from graph outside readers ≤ inputs_from graph further more
  inputs_from-mono outside further still =
      let both : (source : Source) → IsTrue (outside source && is_read_by graph readers source) → IsTrue (further source && is_read_by graph more source) =
      λ source input. let parts = and_parts (outside source) (is_read_by graph readers source) input in
      and_from (further source) (is_read_by graph more source) (still source parts.0)
      (is_read_by-mono source parts.1) in
      omega (
        arith,
        count_below-mono 256 (λ r. outside (Entry r) && is_read_by graph readers (Entry r))
            (λ r. further (Entry r) && is_read_by graph more (Entry r)) (λ r _. both (Entry r)),
        count_below-mono (length graph.nodes) (λ k. outside (Made k) && is_read_by graph readers (Made k))
            (λ k. further (Made k) && is_read_by graph more (Made k)) (λ k _. both (Made k)),
      )
