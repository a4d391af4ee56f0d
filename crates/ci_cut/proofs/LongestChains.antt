-- The longest chains that begin at each node, found from the first node to the last.
use Rattle.std.proofs.Common.{◌≡◌, ◌≢◌, ℕ, ◌+◌, ◌*◌, ◌<◌, ◌≤◌, max, Bool, false, List, [], ◌∷◌, length, set, get_or}
use Rattle.std.proofs.Common.{slice_index, IsTrue, refl, sym, ap, ◌∙◌, subst, inl, inr, arith, replicate, length-set}
use Rattle.std.proofs.Common.{get_or-set_other, get_or-set_same}
use Rattle.std.proofs.lemmas.Bool.{cases_Bool, cases_eq, cases_lt, false≢true}
use Rattle.std.proofs.lemmas.List.{get_or-replicate, get_or_past, length-replicate}
use Rattle.std.proofs.lemmas.List.Sums.{sum_by-cons}
use Rattle.ci_cut.specs.declared.graph.Source.{Source}
use Rattle.ci_cut.specs.declared.graph.Node.{Node}
use Rattle.ci_cut.specs.FlowGraph.{FlowGraph, node_at}
use Rattle.ci_cut.specs.GraphRules.{IsFlowGraph}
use Rattle.ci_cut.specs.Hardware.{is_chain, delay_along, critical_path_delay}
use Rattle.ci_cut.specs.private.ChainDelays.{IsMaximumAt}
use Rattle.ci_cut.proofs.CriticalPath.{chain_onward, chain_parts, chain_first, delay_along-le, critical_path_delay-reached}

-- the delay of a chain's first node, and of the rest
pub delay_along-cons : (graph : FlowGraph) (k : ℕ) (rest : List ℕ) → delay_along graph (k ∷ rest) ≡ (node_at graph k).delay + delay_along graph rest
delay_along-cons graph k rest = sum_by-cons (λ j. (node_at graph j).delay) k rest

-- some chain that begins at node k has this delay, and none that begins there has more
pub record IsLongestFrom (graph : FlowGraph) (cut : ℕ → Bool) (k delay : ℕ) : Type 0 where
  pub bound : (rest : List ℕ) → IsTrue (is_chain graph cut (k ∷ rest)) → delay_along graph (k ∷ rest) ≤ delay
  pub reached : (rest : List ℕ) × IsTrue (is_chain graph cut (k ∷ rest)) × (delay_along graph (k ∷ rest) ≡ delay)

-- Of the nodes below n, each member has in the list the maximum delay of a chain that begins there, and the rest
-- have 0. The maximum of these delays is that of some chain. The list has a place for each node.
pub record AreDelaysBelow (graph : FlowGraph) (cut : ℕ → Bool) (n : ℕ) (delays : List ℕ) (most : ℕ) : Type 0 where
  pub size : length delays ≡ 256
  pub longest : (k : ℕ) → k < n → IsTrue (cut k) → IsLongestFrom graph cut k (slice_index delays k)
  pub elsewhere : (k : ℕ) → cut k ≡ false → slice_index delays k ≡ 0
  pub bound : (k : ℕ) → k < n → slice_index delays k ≤ most
  pub reached : (chain : List ℕ) × IsTrue (is_chain graph cut chain) × (delay_along graph chain ≡ most)
  pub small : most ≤ 100000 * n

-- no number of a list of zeros is other than 0
get_or-zeros : (n k : ℕ) → slice_index (replicate n 0) k ≡ 0
get_or-zeros n k = elim (cases_lt k n) [
  | inl below ↦ get_or-replicate n k 0 0 below
  | inr past ↦ get_or_past (replicate n 0) k 0 (omega (arith, length-replicate {A = ℕ} n 0))
]

-- before the first node: the chain without a node has delay 0
pub none_done : (graph : FlowGraph) (cut : ℕ → Bool) → AreDelaysBelow graph cut 0 (replicate 256 0) 0
none_done graph cut = record {
  size = length-replicate {A = ℕ} 256 0;
  longest = λ k below. absurd (omega arith);
  elsewhere = λ k outside. get_or-zeros 256 k;
  bound = λ k below. absurd (omega arith);
  reached = ([], refl, refl);
  small = omega arith;
}

-- the delays at a node's sources, where the node and its sources are read from the graph
pub IsMaximumAt-node : (graph : FlowGraph) (n : ℕ) (node : Node) (sources : List Source) (delays : List ℕ)
    (most : ℕ) → node_at graph n ≡ node → sources ≡ node.sources → IsMaximumAt delays sources most
    → IsMaximumAt delays (node_at graph n).sources most
IsMaximumAt-node graph n node sources delays most is_node are_sources maximum =
    subst (λ list. IsMaximumAt delays list most) (are_sources ∙ ap (λ m. m.sources) (sym is_node)) maximum

module _ (graph : FlowGraph) (cut : ℕ → Bool) (kept : IsFlowGraph graph) (n : ℕ) (delays : List ℕ) (most before : ℕ)
    (so_far : AreDelaysBelow graph cut n delays most)
    (maximum : IsMaximumAt delays (node_at graph n).sources before) (member : IsTrue (cut n)) where
  longest_bound : (rest : List ℕ) → IsTrue (is_chain graph cut (n ∷ rest)) → delay_along graph (n ∷ rest) ≤ before + (node_at graph n).delay
  longest_bound [] is_one = omega arith
  longest_bound (m ∷ rest) is_one =
      let parts = chain_parts graph cut n m rest is_one in
      let earlier = so_far.longest m (kept.sources_rise m n parts.0) (chain_first graph cut m rest parts.1) in
      omega (arith, delay_along-cons graph n (m ∷ rest), earlier.bound rest parts.1, maximum.bound m parts.0)

  longest_reached : (rest : List ℕ) × IsTrue (is_chain graph cut (n ∷ rest)) × (delay_along graph (n ∷ rest) ≡ before + (node_at graph n).delay)
  longest_reached =
      elim maximum.reached [
        | inl none ↦ ([], member, omega arith)
        | inr (m, reading, same) ↦
            elim (cases_Bool (cut m)) [
              | inl inside ↦
                  let earlier = so_far.longest m (kept.sources_rise m n reading) inside in (
                    m ∷ earlier.reached.0,
                    chain_onward graph cut n m earlier.reached.0 member reading earlier.reached.1,
                    omega (arith, delay_along-cons graph n (m ∷ earlier.reached.0), earlier.reached.2),
                  )
              | inr outside ↦ ([], member, omega (arith, so_far.elsewhere m outside))
            ]
      ]

  -- the longest chain that begins at node n: the longest of those at the nodes that it reads, and node n before it
  longest_here : IsLongestFrom graph cut n (before + (node_at graph n).delay)
  longest_here = record { bound = longest_bound; reached = longest_reached }

  -- a chain that begins earlier has at most the maximum delay so far
  before_le : before ≤ most
  before_le =
      elim maximum.reached [
        | inl none ↦ omega arith
        | inr (m, reading, same) ↦ omega (arith, same, so_far.bound m (kept.sources_rise m n reading))
      ]

  -- the sum at node n fits
  pub here_le : before + (node_at graph n).delay ≤ 100000 * (n + 1)
  here_le = omega (arith, before_le, so_far.small, kept.delay_most n)

  -- one node more, which is a member
  pub next_member : n < 256 → AreDelaysBelow graph cut (n + 1) (set delays n (before + (node_at graph n).delay)) (max most (before + (node_at graph n).delay))
  next_member below_256 =
      let room : n < length delays = omega (arith, so_far.size) in
      let here = before + (node_at graph n).delay in
      let written : get_or (set delays n here) n 0 ≡ here = get_or-set_same delays n here 0 room in
      record {
        size = length-set delays n here ∙ so_far.size;
        longest = λ k below inside.
            elim (cases_eq k n) [
              | inl same ↦ subst (λ j. IsLongestFrom graph cut j (get_or (set delays n here) j 0)) (sym same)
                  (subst (IsLongestFrom graph cut n) (sym written) longest_here)
              | inr other ↦
                  let differs : k ≢ n = other in
                  subst (IsLongestFrom graph cut k) (sym (get_or-set_other delays n k here 0 differs)) (so_far.longest k (omega arith) inside)
            ];
        elsewhere = λ k outside.
            let differs : k ≢ n = λ same. false≢true (sym outside ∙ ap cut same ∙ member) in
            get_or-set_other delays n k here 0 differs ∙ so_far.elsewhere k outside;
        bound = λ k below.
            elim (cases_eq k n) [
              | inl same ↦ omega (arith, ap (λ j. get_or (set delays n here) j 0) same)
              | inr other ↦
                  let differs : k ≢ n = other in
                  omega (arith, get_or-set_other delays n k here 0 differs, so_far.bound k (omega arith))
            ];
        reached =
            elim (cases_lt most here) [
              | inl more ↦ (n ∷ longest_reached.0, longest_reached.1, omega (arith, longest_reached.2))
              | inr less ↦ (so_far.reached.0, so_far.reached.1, omega (arith, so_far.reached.2))
            ];
        small = omega (arith, before_le, so_far.small, kept.delay_most n);
      }

-- one node more, which is no member
pub next_outside : (graph : FlowGraph) (cut : ℕ → Bool) (n : ℕ) (delays : List ℕ) (most : ℕ)
    → AreDelaysBelow graph cut n delays most → cut n ≡ false → AreDelaysBelow graph cut (n + 1) delays most
next_outside graph cut n delays most so_far outside =
    record {
      size = so_far.size;
      longest = λ k below inside.
          let differs : k ≢ n = λ same. false≢true (sym outside ∙ sym (ap cut same) ∙ inside) in
          so_far.longest k (omega arith) inside;
      elsewhere = so_far.elsewhere;
      bound = λ k below. elim (cases_eq k n) [
        | inl same ↦ omega (arith, so_far.elsewhere n outside, ap (λ j. slice_index delays j) same)
        | inr other ↦
            let differs : k ≢ n = other in
            so_far.bound k (omega arith)
      ];
      reached = so_far.reached;
      small = omega (arith, so_far.small);
    }

-- with each node done, no chain of members has more than the maximum of the delays
all_bounded : (graph : FlowGraph) (cut : ℕ → Bool) → ((k : ℕ) → IsTrue (cut k) → k < length graph.nodes)
    → (delays : List ℕ) (most : ℕ) → AreDelaysBelow graph cut (length graph.nodes) delays most → (chain : List ℕ)
    → IsTrue (is_chain graph cut chain) → delay_along graph chain ≤ most
all_bounded graph cut are_nodes delays most done [] is_one = omega arith
all_bounded graph cut are_nodes delays most done (a ∷ rest) is_one =
    let inside = chain_first graph cut a rest is_one in
    let below = are_nodes a inside in
    omega (arith, (done.longest a below inside).bound rest is_one, done.bound a below)

-- the maximum of the delays is then that of the longest chain
pub all_done : (graph : FlowGraph) (cut : ℕ → Bool) → IsFlowGraph graph
    → ((k : ℕ) → IsTrue (cut k) → k < length graph.nodes) → (delays : List ℕ) (most : ℕ)
    → AreDelaysBelow graph cut (length graph.nodes) delays most → most ≡ critical_path_delay graph cut
all_done graph cut kept are_nodes delays most done =
    let longest = critical_path_delay-reached graph cut in
    omega (
      arith,
      delay_along-le graph cut kept are_nodes done.reached.0 done.reached.1,
      done.reached.2,
      all_bounded graph cut are_nodes delays most done longest.0 longest.1,
      longest.2,
    )
