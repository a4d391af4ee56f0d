-- Walks in a graph, and what a search for a violation of convexity has shown at each node.
use Rattle.std.proofs.Common.{◌≡◌, ℕ, ◌+◌, ◌<◌, Bool, true, false, ◌⊎◌, inl, inr, IsTrue, refl, sym, subst, arith, below_more}
use Rattle.std.specs.Ordering.{nat_cmp}
use Rattle.std.specs.FinSet as set
use Rattle.ci_word.specs.Numbers.{Meets}
use Rattle.ci_cut.specs.FlowGraph.{FlowGraph, node_at, HasArc}
use Rattle.ci_cut.specs.GraphRules.{IsFlowGraph}
use Rattle.ci_cut.specs.Walks.{Walk, arc, onward, IsConvex}
use Rattle.ci_cut.proofs.SetLaws.{contains_kept, contains_new, from_more}

-- two walks that meet are one
pub walk_on : {graph : FlowGraph} {a b c : ℕ} → Walk graph a b → Walk graph b c → Walk graph a c
walk_on first (arc last) = onward first last
walk_on first (onward rest last) = onward (walk_on first rest) last

-- the last arc of a walk, and the walk before it
pub last_arc : {graph : FlowGraph} {a c : ℕ} → Walk graph a c → HasArc graph a c ⊎ ((b : ℕ) × Walk graph a b × HasArc graph b c)
last_arc (arc last) = inl last
last_arc (onward {b = b} rest last) = inr (b, rest, last)

-- its first arc, and the walk behind it
pub first_arc : {graph : FlowGraph} {a c : ℕ} → Walk graph a c → HasArc graph a c ⊎ ((b : ℕ) × HasArc graph a b × Walk graph b c)
first_arc (arc only) = inl only
first_arc (onward rest last) = elim (first_arc rest) [
  | inl only ↦ inr (_, only, arc last)
  | inr (b, first, others) ↦ inr (b, first, onward others last)
]

-- a walk leads from a member to the node
abbrev pub IsReached : FlowGraph → (ℕ → Bool) → ℕ → Type 0
IsReached graph cut b = (a : ℕ) × IsTrue (cut a) × Walk graph a b

-- what is known of the nodes below k: those outside that are reached, and that no member violates convexity
pub record IsSearched (graph : FlowGraph) (cut : ℕ → Bool) (k : ℕ) (passed : set.FinSet nat_cmp) : Type 0 where
  pub reached : (b : ℕ) → IsTrue (set.contains passed b) → (b < k) × (¬ (IsTrue (cut b))) × IsReached graph cut b
  pub complete : (b : ℕ) → b < k → ¬ (IsTrue (cut b)) → IsReached graph cut b → IsTrue (set.contains passed b)
  pub clear : (a b c : ℕ) → c < k → IsTrue (cut a) → Walk graph a b → ¬ (IsTrue (cut b)) → Walk graph b c → ¬ (IsTrue (cut c))

-- before the first node
pub searched_none : (graph : FlowGraph) (cut : ℕ → Bool) → IsSearched graph cut 0 set.empty
searched_none graph cut = record {
  reached = λ b h. let none = set.contains-empty nat_cmp b in cc;
  complete = λ b below. absurd (omega arith);
  clear = λ a b c below. absurd (omega arith);
}

-- a member or not
member_or_not : (cut : ℕ → Bool) (k : ℕ) → IsTrue (cut k) ⊎ (¬ (IsTrue (cut k)))
member_or_not cut k = elim (cut k) as (λ v. IsTrue v ⊎ (¬ (IsTrue v))) [ true ↦ inl refl | false ↦ inr (λ h. cc) ]

module _ (graph : FlowGraph) (cut : set.FinSet nat_cmp) (k : ℕ) (passed before : set.FinSet nat_cmp)
    (flows : IsFlowGraph graph) (here : (node_at graph k).before ≡ before) (searched : IsSearched graph (set.contains cut) k passed) where
  -- the arcs into node k
  arc_here : (j : ℕ) → IsTrue (set.contains before j) → HasArc graph j k
  arc_here j into = subst (λ (b : set.FinSet nat_cmp). IsTrue (set.contains b j)) (sym here) into

  arc_into : (j : ℕ) → HasArc graph j k → IsTrue (set.contains before j)
  arc_into j into = subst (λ (b : set.FinSet nat_cmp). IsTrue (set.contains b j)) here into

  -- a walk leads to a node with an arc from a member or from a node that is reached
  reached_now : Meets before cut ⊎ Meets before passed → IsReached graph (set.contains cut) k
  reached_now (inl (a, into, member)) = (a, member, arc (arc_here _ into))
  reached_now (inr (b, into, is_passed)) = let found = searched.reached b is_passed in (found.2.0, found.2.1, onward found.2.2 (arc_here _ into))

  -- a walk from a member ends by an arc from a member or from a node that is reached
  arc_now : IsReached graph (set.contains cut) k → Meets before cut ⊎ Meets before passed
  arc_now (a, member, walk) = elim (last_arc walk) [
    | inl into ↦ inl (a, arc_into a into, member)
    | inr (b, rest, into) ↦ elim (member_or_not (set.contains cut) b) [
      | inl inside ↦ inl (b, arc_into b into, inside)
      | inr outside ↦ inr (b, arc_into b into, searched.complete b (flows.arcs_rise b k into) outside (a, member, rest))
    ]
  ]

  -- a member with an arc from a node outside that is reached violates convexity
  pub violated : IsTrue (set.contains cut k) → Meets before passed → ¬ (IsConvex graph (set.contains cut))
  violated member (b, into, is_passed) convex =
      let found = searched.reached b is_passed in
      convex found.2.0 b k found.2.1 found.2.2 found.1 (arc (arc_here _ into)) member

  -- a member that no such arc leads into does not
  not_violated : ¬ (Meets before passed) → (a b : ℕ) → IsTrue (set.contains cut a) → Walk graph a b → ¬ (IsTrue (set.contains cut b)) → Walk graph b k → ⊥
  not_violated no_arc a b member walk outside rest = elim (last_arc rest) [
    | inl into ↦ no_arc (b, arc_into b into, searched.complete b (flows.arcs_rise b k into) outside (a, member, walk))
    | inr (d, between, into) ↦ elim (member_or_not (set.contains cut) d) [
      | inl inside ↦ searched.clear a b d (flows.arcs_rise d k into) member walk outside between inside
      | inr beyond ↦ no_arc (d, arc_into d into, searched.complete d (flows.arcs_rise d k into) beyond (a, member, walk_on walk between))
    ]
  ]

  -- node k is a member, and does not violate convexity
  pub searched_member : IsTrue (set.contains cut k) → ¬ (Meets before passed) → IsSearched graph (set.contains cut) (k + 1) passed
  searched_member member no_arc = record {
    reached = λ b h. let found = searched.reached b h in (omega arith, found.1, found.2);
    complete = below_more _ _ searched.complete (λ outside. absurd (outside member));
    clear = λ a b. below_more _ _ (searched.clear a b) (λ start walk outside rest _. not_violated no_arc a b start walk outside rest);
  }

  -- node k is outside, and a walk leads to it
  pub searched_passed : ¬ (IsTrue (set.contains cut k)) → Meets before cut ⊎ Meets before passed
      → IsSearched graph (set.contains cut) (k + 1) (set.insert passed k)
  searched_passed outside some_arc = record {
    reached = λ b h. elim (from_more passed k b h) [
      | inl same ↦ let P : ℕ → Type 0 = λ x. (x < k + 1) × (¬ (IsTrue (set.contains cut x)))
          × IsReached graph (set.contains cut) x in subst P (sym same) (omega arith, outside, reached_now some_arc)
      | inr old ↦ let found = searched.reached b old in (omega arith, found.1, found.2)
    ];
    complete = below_more _ _ (λ b below out is_reached. contains_kept passed k b (searched.complete b below out is_reached)) (λ _ _. contains_new passed k);
    clear = λ a b. below_more _ _ (searched.clear a b) (λ _ _ _ _ inside. outside inside);
  }

  -- node k is outside, and no walk leads to it
  pub searched_not_reached : ¬ (IsTrue (set.contains cut k)) → ¬ (Meets before cut) → ¬ (Meets before passed)
      → IsSearched graph (set.contains cut) (k + 1) passed
  searched_not_reached outside no_member no_passed = record {
    reached = λ b h. let found = searched.reached b h in (omega arith, found.1, found.2);
    complete = below_more _ _ searched.complete
        (λ _ is_reached. elim (arc_now is_reached)
        [ inl from ↦ absurd (no_member from) | inr from ↦ absurd (no_passed from) ]);
    clear = λ a b. below_more _ _ (searched.clear a b) (λ _ _ _ _ inside. outside inside);
  }
