-- The rows of a graph, as they are filled from the first node to the last.
use Rattle.std.proofs.Common.{◌≡◌, ◌≢◌, ℕ, ◌+◌, ◌<◌, ◌≤◌, false, not, ◌&&◌, ◌||◌, nat_eq, ◌⊎◌, ◌↔◌, inl, inr, IsTrue, List, length}
use Rattle.std.proofs.Common.{Option, Some, None, slice_index_or, get_or-set_other, get_or-set_same}
use Rattle.std.proofs.Common.{add-one, sym, ap, ◌∙◌, arith, true≢false, subst}
use Rattle.std.proofs.lemmas.Bool.{cases_lt, cases_eq, cases_Bool, or_cases, or_left, or_right, and_from, and_parts, ne_eqb}
use Rattle.std.specs.Cmp.{nat_cmp_total}
use Rattle.std.specs.Ordering.{nat_cmp}
use Rattle.std.proofs.Math.ListN.{set as list_set}
use Rattle.std.specs.List.{list_any}
use Rattle.std.specs.FinSet as set
use Rattle.ci_word.specs.Numbers.{count_below}
use Rattle.ci_word.proofs.NumberLaws.{count_below-zero, contains-remove_nat}
use Rattle.ci_cut.specs.declared.graph.Source.TheVariants.{Made}
use Rattle.ci_cut.specs.FlowGraph.{FlowGraph, HasArc, node_at, is_source, reads}
use Rattle.ci_cut.specs.Walks.{Walk, arc, onward}
use Rattle.ci_cut.specs.Prefixes.{is_eligible}
use Rattle.ci_cut.specs.Representation.{IsLastBelow}
use Rattle.ci_cut.proofs.NodeLaws.{node_in-past}
use Rattle.ci_cut.proofs.RisingCounts.{count_below-one, count_below-skip}
use Rattle.ci_cut.proofs.WalkLaws.{last_arc, walk_on}

-- one element more of an array is written, and what holds of those before it holds of it too
pub written_more : {X : Type 0} (P : ℕ → X → Type 0) (none : X) (items : List X) (k : ℕ) (new : X) → k < length items
    → ((j : ℕ) → j < k → P j (slice_index_or items j none)) → P k new
    → (j : ℕ) → j < k + 1 → P j (slice_index_or (list_set items k new) j none)
written_more P none items k new room told here j below = elim (cases_eq j k) [
  | inl same ↦ subst (λ (i : ℕ). P i (slice_index_or (list_set items k new) i none)) (sym same)
      (subst (P k) (sym (get_or-set_same items k new none room)) here)
  | inr other ↦
      let differs : j ≢ k = other in
      subst (P j) (sym (get_or-set_other items k j new none differs)) (told j (omega arith))
]

module _ (graph : FlowGraph) (j k : ℕ) where
  -- past the end no node has an arc, nor reads
  pub arc_below : HasArc graph j k → k < length graph.nodes
  arc_below has = elim (cases_lt k (length graph.nodes)) [
    | inl below ↦ below
    | inr past ↦ absurd (true≢false (sym has ∙ ap (λ node. set.contains node.before j) (node_in-past graph.nodes k past) ∙ set.contains-empty nat_cmp j))
  ]

  pub reader_below : IsTrue (reads graph k (Made j)) → k < length graph.nodes
  reader_below has = elim (cases_lt k (length graph.nodes)) [
    | inl below ↦ below
    | inr past ↦ absurd (true≢false (sym has ∙ ap (λ node. list_any (is_source (Made j)) node.sources) (node_in-past graph.nodes k past)))
  ]

-- ---- the nodes from which walks lead to one

-- walks lead to the node from those of a row, and from no others but where they go on from the rest
pub record LeadsTo (graph : FlowGraph) (node : ℕ) (row rest : set.FinSet nat_cmp) : Type 0 where
  pub walks : (j : ℕ) → IsTrue (set.contains row j) → Walk graph j node
  pub all : (j : ℕ) → Walk graph j node → IsTrue (set.contains row j) ⊎ ((m : ℕ) × IsTrue (set.contains rest m) × Walk graph j m)
  pub arcs : (m : ℕ) → IsTrue (set.contains rest m) → HasArc graph m node

module _ (graph : FlowGraph) (node : ℕ) where
  pub leads_start : (before : set.FinSet nat_cmp) → (node_at graph node).before ≡ before → LeadsTo graph node before before
  leads_start before here = record {
    walks = λ j in_. arc (has_arc j in_);
    all = λ j walk. elim (last_arc walk) [
      | inl has ↦ inl (in_before j has)
      | inr (m, first, has) ↦ inr (m, in_before m has, first)
    ];
    arcs = has_arc;
  }
    where
      has_arc : (j : ℕ) → IsTrue (set.contains before j) → HasArc graph j node
      has_arc j in_ = subst (λ (b : set.FinSet nat_cmp). IsTrue (set.contains b j)) (sym here) in_

      in_before : (j : ℕ) → HasArc graph j node → IsTrue (set.contains before j)
      in_before j has = subst (λ (b : set.FinSet nat_cmp). IsTrue (set.contains b j)) here has

  -- with the walks to one of the rest, which stands for all of the rest from which walks lead to it
  pub leads_more : (row rest further : set.FinSet nat_cmp) (last : ℕ) → LeadsTo graph node row rest → IsTrue (set.contains rest last)
      → ((j : ℕ) → IsTrue (set.contains further j) ↔ Walk graph j last)
      → LeadsTo graph node (set.union row further) (set.difference (set.remove rest last) further)
  leads_more row rest further last so_far among leads = record {
    walks = λ j in_. elim (or_cases _ _ (sym (in_union j) ∙ in_)) [
      | inl earlier ↦ so_far.walks j earlier
      | inr now ↦ onward ((leads j).0 now) (so_far.arcs last among)
    ];
    all = λ j walk. elim (so_far.all j walk) [
      | inl earlier ↦ inl (in_union j ∙ or_left _ _ earlier)
      | inr (m, waits, first) ↦ elim (cases_eq m last) [
        | inl same ↦ inl (through j (subst (Walk graph j) same first))
        | inr other ↦ elim (cases_Bool (set.contains further m)) [
          | inl known ↦ inl (through j (walk_on first ((leads m).0 known)))
          | inr unknown ↦ inr (m, in_rest m ∙ and_from _ _ (and_from _ _ (ap not (ne_eqb m last other)) waits) (ap not unknown), first)
        ]
      ]
    ];
    arcs = λ m in_. so_far.arcs m (and_parts _ _ (and_parts _ _ (sym (in_rest m) ∙ in_)).0).1;
  }
    where
      in_union : (j : ℕ) → set.contains (set.union row further) j ≡ (set.contains row j || set.contains further j)
      in_union = set.contains-union nat_cmp_total row further

      in_rest : (j : ℕ) → set.contains (set.difference (set.remove rest last) further) j
          ≡ ((not (nat_eq j last) && set.contains rest j) && not (set.contains further j))
      in_rest j =
          set.contains-difference nat_cmp_total (set.remove rest last) further j
          ∙ ap (λ b. b && not (set.contains further j)) (contains-remove_nat rest last j)

      through : (j : ℕ) → Walk graph j last → IsTrue (set.contains (set.union row further) j)
      through j walk = in_union j ∙ or_right _ _ ((leads j).1 walk)

  -- once none are left
  pub leads_all : (row rest : set.FinSet nat_cmp) → LeadsTo graph node row rest → rest ≡ set.empty → (j : ℕ)
      → IsTrue (set.contains row j) ↔ Walk graph j node
  leads_all row rest so_far none j = (
    so_far.walks j,
    λ walk. elim (so_far.all j walk) [
      | inl in_ ↦ in_
      | inr (m, waits, first) ↦ absurd (true≢false (sym waits ∙ ap (λ s. set.contains s m) none ∙ set.contains-empty nat_cmp m))
    ],
  )

-- ---- the last eligible node below a place

module _ (graph : FlowGraph) where
  pub last_below_start : (last : List (Option ℕ)) → 0 < length last → (place : ℕ) → place ≤ 0
      → IsLastBelow graph place (slice_index_or (list_set last 0 None) place None)
  last_below_start last room place first =
      let none : place ≡ 0 = omega arith in
      subst (λ (p : ℕ). IsLastBelow graph p (slice_index_or (list_set last 0 None) p None)) (sym none)
      (subst (IsLastBelow graph 0) (sym (get_or-set_same last 0 None None room)) (count_below-zero (is_eligible graph)))

  pub last_below_here : (k : ℕ) → IsTrue (is_eligible graph k) → IsLastBelow graph (k + 1) (Some k)
  last_below_here k eligible = record {
    below = omega arith;
    eligible = eligible;
    none_between = rw add-one (sym (count_below-one (is_eligible graph) k eligible));
  }

  pub last_below_earlier : (k : ℕ) (last : Option ℕ) → is_eligible graph k ≡ false → IsLastBelow graph k last → IsLastBelow graph (k + 1) last
  last_below_earlier k None ineligible none = rw add-one (count_below-skip (is_eligible graph) k ineligible ∙ none)
  last_below_earlier k (Some j) ineligible next = record {
    below = omega (arith, next.below);
    eligible = next.eligible;
    none_between = rw add-one (next.none_between ∙ sym (count_below-skip (is_eligible graph) k ineligible));
  }
