-- Chains that end at a node: the greatest sums of delays along them, as a search holds them at members.
use Rattle.std.proofs.Common.{◌≡◌, ◌≢◌, ℕ, ◌+◌, ◌*◌, ◌<◌, ◌≤◌, max, Bool, not, ◌&&◌, nat_eq, ◌⊎◌, inl, inr, IsTrue}
use Rattle.std.proofs.Common.{List, [], ◌∷◌, length, slice_index, refl, sym, ap, ◌∙◌, arith, subst, get_or-set_other}
use Rattle.std.proofs.Common.{get_or-set_same}
use Rattle.std.proofs.lemmas.Bool.{cases_lt, cases_eq, and_parts, and_from, ne_eqb}
use Rattle.std.proofs.Math.ListN.{set as list_set}
use Rattle.ci_cut.specs.declared.graph.Source.TheVariants.{Made}
use Rattle.ci_cut.specs.FlowGraph.{FlowGraph, node_at, reads}
use Rattle.ci_cut.specs.GraphRules.{IsFlowGraph}
use Rattle.ci_cut.specs.Hardware.{is_chain, delay_along, critical_path_delay}
use Rattle.ci_cut.specs.Representation.{ChainTo, alone, onward, IsDelayTo, AreLongest}
use Rattle.ci_cut.proofs.LongestChains.{delay_along-cons}
use Rattle.ci_cut.proofs.CriticalPath.{chain_onward, chain_parts, chain_first, delay_along-le, critical_path_delay-reached}

-- ---- the maximum over the members that read a node, by one of them after the other

module _ (readers cut : ℕ → Bool) (delays : List ℕ) where
  -- the maximum over the members that read, but for those that are left
  pub record IsMaximumBut (left : ℕ → Bool) (most : ℕ) : Type 0 where
    pub among : (m : ℕ) → IsTrue (left m) → IsTrue (readers m) × IsTrue (cut m)
    pub bound : (m : ℕ) → IsTrue (readers m) → IsTrue (cut m) → IsTrue (left m) ⊎ (slice_index delays m ≤ most)
    pub reached : (most ≡ 0) ⊎ ((m : ℕ) × IsTrue (readers m) × IsTrue (cut m) × (most ≡ slice_index delays m))

  pub all_left : (left : ℕ → Bool) → ((m : ℕ) → left m ≡ (readers m && cut m)) → IsMaximumBut left 0
  all_left left is = record {
    among = λ m in_. and_parts (readers m) (cut m) (sym (is m) ∙ in_);
    bound = λ m read member. inl (is m ∙ and_from (readers m) (cut m) read member);
    reached = inl refl;
  }

  pub one_passed : (left fewer : ℕ → Bool) (most here : ℕ) → IsMaximumBut left most → IsTrue (left here)
      → ((m : ℕ) → fewer m ≡ (not (nat_eq m here) && left m)) → IsMaximumBut fewer (max most (slice_index delays here))
  one_passed left fewer most here so_far in_ is = record {
    among = λ m still. so_far.among m (and_parts (not (nat_eq m here)) (left m) (sym (is m) ∙ still)).1;
    bound = λ m read member. elim (cases_eq m here) [
      | inl same ↦ inr (omega (arith, ap (λ (k : ℕ). slice_index delays k) same))
      | inr other ↦ elim (so_far.bound m read member) [
        | inl waits ↦ inl (is m ∙ and_from (not (nat_eq m here)) (left m) (ap not (ne_eqb m here other)) waits)
        | inr below ↦ inr (omega arith)
      ]
    ];
    reached = elim (cases_lt most (slice_index delays here)) [
      | inl more ↦ let is_one = so_far.among here in_ in inr (here, is_one.0, is_one.1, omega arith)
      | inr less ↦ elim so_far.reached [
        | inl none ↦ inl (omega arith)
        | inr (m, read, member, same) ↦ inr (m, read, member, omega arith)
      ]
    ];
  }

  pub none_left : (left : ℕ → Bool) (most own : ℕ) → IsMaximumBut left most → ((m : ℕ) → ¬ IsTrue (left m))
      → IsDelayTo readers cut delays own (most + own)
  none_left left most own all none = record {
    alone = omega arith;
    onward = λ m read member. elim (all.bound m read member) [ inl waits ↦ absurd (none m waits) | inr below ↦ omega arith ];
    reached = elim all.reached [
      | inl zero_ ↦ inl (omega arith)
      | inr (m, read, member, same) ↦ inr (m, read, member, omega arith)
    ];
  }

  pub most_small : (left : ℕ → Bool) (most limit : ℕ) → IsMaximumBut left most → ((m : ℕ) → IsTrue (cut m) → slice_index delays m ≤ limit) → most ≤ limit
  most_small left most limit so_far small = elim so_far.reached [
    | inl none ↦ omega arith
    | inr (m, read, member, same) ↦ omega (arith, small m member)
  ]

-- ---- chains of more members

pub chain_more : {graph : FlowGraph} {cut more : ℕ → Bool} → ((k : ℕ) → IsTrue (cut k) → IsTrue (more k)) → {k delay : ℕ}
    → ChainTo graph cut k delay → ChainTo graph more k delay
chain_more within (alone {k = k} member) = alone (within k member)
chain_more within (onward {k = k} chain read member) = onward (chain_more within chain) read (within k member)

-- the members that read are the same, and so are their delays
pub delay_to_more : (readers cut more : ℕ → Bool) (delays later : List ℕ) (own delay : ℕ)
    → ((k : ℕ) → IsTrue (cut k) → IsTrue (more k)) → ((k : ℕ) → IsTrue (readers k) → IsTrue (more k) → IsTrue (cut k))
    → ((k : ℕ) → IsTrue (cut k) → slice_index later k ≡ slice_index delays k)
    → IsDelayTo readers cut delays own delay → IsDelayTo readers more later own delay
delay_to_more readers cut more delays later own delay within no_other same is = record {
  alone = is.alone;
  onward = λ m read member.
      let inside = no_other m read member in
      omega (arith, same m inside, is.onward m read inside);
  reached = elim is.reached [
    | inl none ↦ inl none
    | inr (m, read, member, most) ↦ inr (m, read, within m member, omega (arith, same m member))
  ];
}

-- where only delays of no members differ, the others stay the greatest
pub longest_kept : (graph : FlowGraph) (cut : ℕ → Bool) (delays later : List ℕ) (longest : ℕ)
    → ((k : ℕ) → IsTrue (cut k) → slice_index later k ≡ slice_index delays k)
    → AreLongest graph cut delays longest → AreLongest graph cut later longest
longest_kept graph cut delays later longest same are = record {
  delay_to = λ k member.
      subst (IsDelayTo (λ m. reads graph m (Made k)) cut later (node_at graph k).delay) (sym (same k member))
      (delay_to_more (λ m. reads graph m (Made k)) cut cut delays later (node_at graph k).delay (slice_index delays k)
      (λ j in_. in_) (λ j read in_. in_) same (are.delay_to k member));
  chain_to = λ k member. subst (ChainTo graph cut k) (sym (same k member)) (are.chain_to k member);
  bound = λ k member. omega (arith, same k member, are.bound k member);
  reached = elim are.reached [
    | inl none ↦ inl none
    | inr (k, member, most) ↦ inr (k, member, most ∙ sym (same k member))
  ];
}

-- ---- a lower node joins the members

module _ (graph : FlowGraph) (flows : IsFlowGraph graph) (cut more : ℕ → Bool) (node : ℕ)
    (above : (k : ℕ) → IsTrue (cut k) → node < k) (in_ : IsTrue (more node))
    (within : (k : ℕ) → IsTrue (cut k) → IsTrue (more k)) (cases : (k : ℕ) → IsTrue (more k) → (k ≡ node) ⊎ IsTrue (cut k))
    (delays : List ℕ) (longest delay : ℕ) (room : node < length delays)
    (are : AreLongest graph cut delays longest)
    (is : IsDelayTo (λ m. reads graph m (Made node)) cut delays (node_at graph node).delay delay) where
  abbrev later : List ℕ
  later = list_set delays node delay

  here : slice_index later node ≡ delay
  here = get_or-set_same delays node delay 0 room

  there : (k : ℕ) → IsTrue (cut k) → slice_index later k ≡ slice_index delays k
  there k member =
      let differs : k ≢ node = λ same. omega (arith, above k member, same) in
      get_or-set_other delays node k delay 0 differs

  -- what reads a member or the node is a member
  reader_inside : (k j : ℕ) → node ≤ k → IsTrue (reads graph j (Made k)) → IsTrue (more j) → IsTrue (cut j)
  reader_inside k j from read member = elim (cases j member) [
    | inl same ↦ absurd (omega (arith, flows.sources_rise k j read, same))
    | inr inside ↦ inside
  ]

  more_delay_to : (k own : ℕ) → node ≤ k → (d : ℕ) → IsDelayTo (λ m. reads graph m (Made k)) cut delays own d
      → IsDelayTo (λ m. reads graph m (Made k)) more later own d
  more_delay_to k own from d = delay_to_more (λ m. reads graph m (Made k)) cut more delays later own d within (λ j. reader_inside k j from) there

  chain_here : ChainTo graph more node delay
  chain_here = elim is.reached [
    | inl none ↦ subst (ChainTo graph more node) (sym none) (alone in_)
    | inr (m, read, member, most) ↦ subst (ChainTo graph more node) (sym most) (onward (chain_more within (are.chain_to m member)) read in_)
  ]

  pub longest_more : AreLongest graph more later (max longest delay)
  longest_more = record {
    delay_to = λ k member. elim (cases k member) [
      | inl same ↦ subst (λ (i : ℕ). IsDelayTo (λ m. reads graph m (Made i)) more later (node_at graph i).delay (slice_index later i)) (sym same)
          (subst (IsDelayTo (λ m. reads graph m (Made node)) more later (node_at graph node).delay) (sym here)
          (more_delay_to node (node_at graph node).delay (omega arith) delay is))
      | inr inside ↦ subst (IsDelayTo (λ m. reads graph m (Made k)) more later (node_at graph k).delay) (sym (there k inside))
          (more_delay_to k (node_at graph k).delay (omega (arith, above k inside)) (slice_index delays k) (are.delay_to k inside))
    ];
    chain_to = λ k member. elim (cases k member) [
      | inl same ↦ subst (λ (i : ℕ). ChainTo graph more i (slice_index later i)) (sym same) (subst (ChainTo graph more node) (sym here) chain_here)
      | inr inside ↦ subst (ChainTo graph more k) (sym (there k inside)) (chain_more within (are.chain_to k inside))
    ];
    bound = λ k member. elim (cases k member) [
      | inl same ↦ omega (arith, here, ap (λ (i : ℕ). slice_index later i) same)
      | inr inside ↦ omega (arith, there k inside, are.bound k inside)
    ];
    reached = elim (cases_lt longest delay) [
      | inl more_ ↦ inr (node, in_, omega (arith, here))
      | inr less ↦ elim are.reached [
        | inl none ↦ inl (omega arith)
        | inr (k, member, most) ↦ inr (k, within k member, omega (arith, there k member))
      ]
    ];
  }

-- ---- the critical path

module _ (graph : FlowGraph) (flows : IsFlowGraph graph) (cut : ℕ → Bool) (nodes : (k : ℕ) → IsTrue (cut k) → k < length graph.nodes) where
  chain_small : {k delay : ℕ} → ChainTo graph cut k delay → delay + 100000 * k ≤ 100000 * length graph.nodes
  chain_small (alone {k = k} member) = omega (arith, flows.delay_most k, nodes k member)
  chain_small (onward {k = k} {m = m} {delay = delay} chain read member) =
      omega (arith, chain_small chain, flows.delay_most k, flows.sources_rise k m read)

  chain_list : {k delay : ℕ} → ChainTo graph cut k delay → (rest : List ℕ) → IsTrue (is_chain graph cut (k ∷ rest))
      → (chain : List ℕ) × IsTrue (is_chain graph cut chain) × (delay_along graph chain ≡ delay + delay_along graph rest)
  chain_list (alone {k = k} member) rest is = (k ∷ rest, is, delay_along-cons graph k rest)
  chain_list (onward {k = k} {m = m} {delay = delay} chain read member) rest is =
      let found = chain_list chain (k ∷ rest) (chain_onward graph cut m k rest (chain_member chain) read is) in
      (found.0, found.1, omega (arith, found.2, delay_along-cons graph k rest))
    where
      chain_member : {k delay : ℕ} → ChainTo graph cut k delay → IsTrue (cut k)
      chain_member (alone member) = member
      chain_member (onward chain read member) = member

  module _ (delays : List ℕ) (longest : ℕ) (are : AreLongest graph cut delays longest) where
    -- the delay at each member, and the greatest of them, are small
    pub delay_small : length graph.nodes ≤ 256 → (k : ℕ) → IsTrue (cut k) → slice_index delays k ≤ 25600000
    delay_small few k member = omega (arith, chain_small (are.chain_to k member))

    chain_bound : (a : ℕ) (rest : List ℕ) → IsTrue (is_chain graph cut (a ∷ rest)) → slice_index delays a + delay_along graph rest ≤ longest
    chain_bound a [] is = omega (arith, are.bound a (chain_first graph cut a [] is))
    chain_bound a (b ∷ rest) is =
        let parts = chain_parts graph cut a b rest is in
        omega (
          arith,
          (are.delay_to b (chain_first graph cut b rest parts.1)).onward a parts.0 (chain_first graph cut a (b ∷ rest) is),
          chain_bound b rest parts.1,
          delay_along-cons graph b rest,
        )

    all_bounded : (chain : List ℕ) → IsTrue (is_chain graph cut chain) → delay_along graph chain ≤ longest
    all_bounded [] is = omega arith
    all_bounded (a ∷ rest) is =
        omega (arith, (are.delay_to a (chain_first graph cut a rest is)).alone, chain_bound a rest is, delay_along-cons graph a rest)

    some_reached : (chain : List ℕ) × IsTrue (is_chain graph cut chain) × (delay_along graph chain ≡ longest)
    some_reached = elim are.reached [
      | inl none ↦ ([], refl, sym none)
      | inr (k, member, most) ↦
          let found = chain_list (are.chain_to k member) [] member in
          (found.0, found.1, omega (arith, found.2))
    ]

    pub longest_is_critical : longest ≡ critical_path_delay graph cut
    longest_is_critical =
        let reached = critical_path_delay-reached graph cut in
        omega (
          arith,
          delay_along-le graph cut flows nodes some_reached.0 some_reached.1,
          some_reached.2,
          all_bounded reached.0 reached.1,
          reached.2,
        )
