-- The terms of a prefix with one decision more.
use Rattle.std.proofs.Common.{◌≡◌, ◌≢◌, ℕ, suc, ◌+◌, ◌<◌, ◌≤◌, Bool, true, false, not, ◌&&◌, ◌||◌, nat_eq, cond, ◌⊎◌, inl, inr, ◌↔◌, IsTrue}
use Rattle.std.proofs.Common.{List, ◌∷◌, length, refl, sym, ap, ◌∙◌, arith, true≢false, subst, eqb-true, eq-eqb}
use Rattle.std.proofs.lemmas.Bool.{cases_eq, cases_Bool, ne_eqb, and_parts, and_from, or_cases, or_left, or_right, not-true, not_from_false, false_from_ne_true}
use Rattle.std.specs.List.{list_any}
use Rattle.std.specs.FinSet as set
use Rattle.ci_word.proofs.NumberLaws.{some_below_iff, count_below-same}
use Rattle.ci_cut.specs.declared.graph.Source.{Source}
use Rattle.ci_cut.specs.declared.graph.Source.TheVariants.{Entry, Made}
use Rattle.ci_cut.specs.FlowGraph.{FlowGraph, node_at, HasArc, is_source, reads}
use Rattle.ci_cut.specs.GraphRules.{IsFlowGraph}
use Rattle.ci_cut.specs.Walks.{Walk, arc, IsConvex}
use Rattle.ci_cut.specs.declared.ports.SourceSet.{SourceSet}
use Rattle.ci_cut.specs.Ports.{is_read_by, is_outside, is_output, outputs, size}
use Rattle.ci_cut.specs.Gain.{software}
use Rattle.ci_cut.specs.private.SourceSets.{holds, AreSettledBy, count_held}
use Rattle.ci_cut.specs.Prefixes.{Prefix, is_eligible, is_next, is_decided, taken, left_out, possible, settled_inputs}
use Rattle.ci_cut.specs.Representation.{Reaches, HasWayBack, HasReaderOutside}
use Rattle.ci_cut.proofs.PrefixLaws.{same_test, Extends, eligible_below, next_parts, next_unique, next_below, next_not_decided, is_decided-more}
use Rattle.ci_cut.proofs.PrefixLaws.{taken_completes, completes_earlier, completion_extends}
use Rattle.ci_cut.proofs.Extensions.{walk_rises, convex_within, output_stays}
use Rattle.ci_cut.proofs.WalkLaws.{walk_on, first_arc}
use Rattle.ci_cut.proofs.WholeRows.{reader_below}
use Rattle.ci_cut.proofs.OneMore.{count_one_more, sum_one_more, sources_one_more, sources_same}

-- tests of two choices
newest_in : (n t : Bool) → ((n && true) || t) ≡ (n || t)
newest_in true t = refl
newest_in false t = refl

newest_other : (n t : Bool) → ((n && false) || t) ≡ t
newest_other true t = refl
newest_other false t = refl

newest_out : (n e l : Bool) → (e && not ((n && true) || l)) ≡ (not n && (e && not l))
newest_out true true l = refl
newest_out true false l = refl
newest_out false e l = refl

module _ (graph : FlowGraph) (prefix : Prefix) (node : ℕ) (next : IsTrue (is_next graph prefix node)) where
  -- the next node is the one number at which the test passes
  next_is : (k : ℕ) → is_next graph prefix k ≡ nat_eq k node
  next_is k =
      same_test (is_next graph prefix k) (nat_eq k node)
      (λ here. eq-eqb k node (next_unique graph prefix k node here next))
      (λ same. ap (is_next graph prefix) (eqb-true k node same) ∙ next)

  pub node_below : node < length graph.nodes
  node_below = eligible_below graph node (next_parts graph prefix node next).0

  -- what is decided lies above the next node
  pub above : (test : Bool → Bool) (k : ℕ) → IsTrue (is_decided graph test prefix k) → node < k
  above test k decided = next_below graph test prefix node k next decided

  pub not_yet : (test : Bool → Bool) → is_decided graph test prefix node ≡ false
  not_yet test = false_from_ne_true _ (next_not_decided graph test prefix node next)

  -- ---- which nodes are taken in, and which may be

  pub taken_in : (k : ℕ) → taken graph (true ∷ prefix) k ≡ (nat_eq k node || taken graph prefix k)
  taken_in k =
      is_decided-more graph (λ b. b) true prefix k ∙ newest_in (is_next graph prefix k) (taken graph prefix k)
      ∙ ap (λ b. b || taken graph prefix k) (next_is k)

  pub taken_out : taken graph (false ∷ prefix) ≡ taken graph prefix
  taken_out = λ i k. (is_decided-more graph (λ b. b) false prefix k ∙ newest_other (is_next graph prefix k) (taken graph prefix k)) i

  pub possible_in : possible graph (true ∷ prefix) ≡ possible graph prefix
  possible_in = λ i k. is_eligible graph k
      && not ((is_decided-more graph not true prefix k ∙ newest_other (is_next graph prefix k) (left_out graph prefix k)) i)

  pub possible_out : (k : ℕ) → possible graph (false ∷ prefix) k ≡ (not (nat_eq k node) && possible graph prefix k)
  possible_out k =
      ap (λ l. is_eligible graph k && not l) (is_decided-more graph not false prefix k)
      ∙ newest_out (is_next graph prefix k) (is_eligible graph k) (left_out graph prefix k)
      ∙ ap (λ n. not n && possible graph prefix k) (next_is k)

  pub possible_node : possible graph prefix node ≡ true
  possible_node = and_from (is_eligible graph node) (not (left_out graph prefix node)) (next_parts graph prefix node next).0 (not_from_false _ (not_yet not))

  -- up to the next node all eligible nodes may be members
  pub possible_below : (k : ℕ) → k ≤ node → possible graph prefix k ≡ is_eligible graph k
  possible_below k below =
      ap (λ l. is_eligible graph k && not l) (false_from_ne_true (left_out graph prefix k) (λ out. omega (arith, above not k out)))
      ∙ whole (is_eligible graph k)
    where
      whole : (b : Bool) → (b && true) ≡ b
      whole true = refl
      whole false = refl

  pub taken_node : taken graph (true ∷ prefix) node ≡ true
  taken_node = taken_in node ∙ or_left _ _ (eq-eqb node node refl)

  taken_other : (k : ℕ) → k ≢ node → taken graph (true ∷ prefix) k ≡ taken graph prefix k
  taken_other k other = taken_in k ∙ ap (λ b. b || taken graph prefix k) (ne_eqb k node other)

  pub taken_cases : (k : ℕ) → IsTrue (taken graph (true ∷ prefix) k) → (k ≡ node) ⊎ IsTrue (taken graph prefix k)
  taken_cases k in_ = elim (or_cases (nat_eq k node) (taken graph prefix k) (sym (taken_in k) ∙ in_)) [
    | inl same ↦ inl (eqb-true k node same)
    | inr earlier ↦ inr earlier
  ]

  pub extends : Extends (taken graph prefix) (taken graph (true ∷ prefix))
  extends =
      completion_extends graph prefix (taken graph (true ∷ prefix))
      (completes_earlier graph prefix (taken graph (true ∷ prefix)) true (taken_completes graph (true ∷ prefix)))

  -- ---- walks

  pub reaches_in : (k : ℕ) (reaching walks joined : Bool) → joined ≡ (reaching || walks)
      → IsTrue reaching ↔ Reaches graph (taken graph prefix) k → IsTrue walks ↔ Walk graph k node
      → IsTrue joined ↔ Reaches graph (taken graph (true ∷ prefix)) k
  reaches_in k reaching walks joined is earlier to_node = (
    λ in_. elim (or_cases reaching walks (sym is ∙ in_)) [
      | inl before ↦ let found = earlier.0 before in (found.0, extends.within found.0 found.1, found.2)
      | inr now ↦ (node, taken_node, to_node.0 now)
    ],
    λ (m, member, walk). is ∙ elim (taken_cases m member) [
      | inl same ↦ or_right reaching walks (to_node.1 (subst (Walk graph k) same walk))
      | inr before ↦ or_left reaching walks (earlier.1 (m, before, walk))
    ],
  )

  module _ (flows : IsFlowGraph graph) where
    -- ---- convexity

    module _ (successors reaching : ℕ → Bool) (arcs : (k : ℕ) → successors k ≡ set.contains (node_at graph k).before node)
        (reaches : (k : ℕ) → IsTrue (reaching k) ↔ Reaches graph (taken graph prefix) k) where
      outside_still : (k : ℕ) → node < k → ¬ IsTrue (taken graph prefix k) → ¬ IsTrue (taken graph (true ∷ prefix) k)
      outside_still k later out in_ = elim (taken_cases k in_) [ inl same ↦ omega arith | inr member ↦ out member ]

      inside_later : (k : ℕ) → node < k → IsTrue (taken graph (true ∷ prefix) k) → IsTrue (taken graph prefix k)
      inside_later k later in_ = elim (taken_cases k in_) [ inl same ↦ absurd (omega arith) | inr member ↦ member ]

      -- a walk from the node out and back breaks convexity
      pub convex_lost : HasWayBack successors (taken graph prefix) reaching → ¬ IsConvex graph (taken graph (true ∷ prefix))
      convex_lost (k, successor, out, back) convex =
          let has : HasArc graph node k = sym (arcs k) ∙ successor in
          let found = (reaches k).0 back in
          convex node k found.0 taken_node (arc has) (outside_still k (flows.arcs_rise node k has) out) found.2
          (extends.within found.0 found.1)

      -- and nothing else does
      pub convex_stays : IsConvex graph (taken graph prefix) → ¬ HasWayBack successors (taken graph prefix) reaching
          → IsConvex graph (taken graph (true ∷ prefix))
      convex_stays convex no_way a b c member walk outside rest last =
          let rises = walk_rises flows.arcs_rise walk in
          let rises_on = walk_rises flows.arcs_rise rest in
          let left : ¬ IsTrue (taken graph prefix b) = λ inside. outside (extends.within b inside) in
          elim (taken_cases a member) [
            | inr inside ↦
                let back : node < c = omega (arith, above (λ choice. choice) a inside) in
                convex a b c inside walk left rest (inside_later c back last)
            | inl same ↦
                let back : node < c = omega arith in
                let end = inside_later c back last in
                let from = subst (λ (i : ℕ). Walk graph i b) same walk in
                elim (first_arc from) [
                  | inl has ↦ no_way (b, arcs b ∙ has, left, (reaches b).1 (c, end, rest))
                  | inr (x, has, others) ↦ elim (cases_Bool (taken graph prefix x)) [
                    | inl inside ↦ convex x b c inside others left rest end
                    | inr out ↦ no_way (x, arcs x ∙ has, λ inside. true≢false (sym inside ∙ out), (reaches x).1 (c, end, walk_on others rest))
                  ]
                ]
          ]

      pub convex_in : (before now ways : Bool) → IsTrue before ↔ IsConvex graph (taken graph prefix)
          → IsTrue ways ↔ HasWayBack successors (taken graph prefix) reaching → now ≡ (before && not ways)
          → IsTrue now ↔ IsConvex graph (taken graph (true ∷ prefix))
      convex_in before now ways was are is = (
        λ yes_. let parts = and_parts before (not ways) (sym is ∙ yes_) in
            convex_stays (was.0 parts.0) (λ way. true≢false (sym (are.1 way) ∙ not-true ways parts.1)),
        λ convex. is ∙ and_from before (not ways)
            (was.1 (convex_within graph flows (taken graph prefix) (taken graph (true ∷ prefix)) extends convex))
            (not_from_false ways (false_from_ne_true ways (λ way. convex_lost (are.0 way) convex))),
      )

    -- ---- outputs

    read_outside : (readers : ℕ → Bool) → ((k : ℕ) → readers k ≡ reads graph k (Made node)) → (outside : Bool)
        → IsTrue outside ↔ HasReaderOutside readers (taken graph prefix)
        → is_read_by graph (λ j. not (taken graph (true ∷ prefix) j)) (Made node) ≡ outside
    read_outside readers are outside is = same_test _ outside
        (λ read.
        let found = (some_below_iff (length graph.nodes) (λ j. not (taken graph (true ∷ prefix) j) && reads graph j (Made node))).0 read in
        let parts = and_parts _ _ found.2 in
        is.1 (found.0, are found.0 ∙ parts.1, λ inside. true≢false (sym (extends.within found.0 inside) ∙ not-true _ parts.0)))
        (λ has.
        let found = is.0 has in
        let read : IsTrue (reads graph found.0 (Made node)) = sym (are found.0) ∙ found.1 in
        let still : ¬ IsTrue (taken graph (true ∷ prefix) found.0) = λ in_. elim (taken_cases found.0 in_) [
          | inl same ↦ omega (arith, flows.sources_rise node found.0 read)
          | inr member ↦ found.2 member
        ] in
        (some_below_iff (length graph.nodes) (λ j. not (taken graph (true ∷ prefix) j) && reads graph j (Made node))).1
        (found.0, reader_below graph node found.0 read, and_from _ _ (not_from_false _ (false_from_ne_true _ still)) read))

    output_other : (k : ℕ) → k ≢ node → is_output graph (taken graph (true ∷ prefix)) k ≡ is_output graph (taken graph prefix) k
    output_other k other = same_test _ _
        (λ output.
        let parts = and_parts (taken graph (true ∷ prefix) k) _ output in
        and_from (taken graph prefix k) _ (sym (taken_other k other) ∙ parts.0)
        (elim (or_cases (node_at graph k).live _ parts.1) [
          | inl live ↦ or_left _ _ live
          | inr read ↦
              let found = (some_below_iff (length graph.nodes) (λ j. not (taken graph (true ∷ prefix) j) && reads graph j (Made k))).0 read in
              let reader = and_parts _ _ found.2 in
              or_right (node_at graph k).live _ ((some_below_iff (length graph.nodes) (λ j. not (taken graph prefix j) && reads graph j (Made k))).1 (
                found.0,
                found.1,
                and_from _ _
                    (not_from_false _ (false_from_ne_true _ (λ inside. true≢false (sym (extends.within found.0 inside) ∙ not-true _ reader.0)))) reader.1,
              ))
        ]))
        (output_stays graph flows (taken graph prefix) (taken graph (true ∷ prefix)) extends k)

    pub outputs_in : (readers : ℕ → Bool) → ((k : ℕ) → readers k ≡ reads graph k (Made node)) → (outside output : Bool)
        → IsTrue outside ↔ HasReaderOutside readers (taken graph prefix) → output ≡ ((node_at graph node).live || outside)
        → outputs graph (taken graph (true ∷ prefix)) ≡ outputs graph (taken graph prefix) + cond output 1 0
    outputs_in readers are outside output is output_is = by_output output here
      where
        was_out : is_output graph (taken graph prefix) node ≡ false
        was_out = ap (λ b. b && ((node_at graph node).live || is_read_by graph (λ j. not (taken graph prefix j)) (Made node))) (not_yet (λ choice. choice))

        here : is_output graph (taken graph (true ∷ prefix)) node ≡ output
        here =
            ap (λ b. b && ((node_at graph node).live || is_read_by graph (λ j. not (taken graph (true ∷ prefix) j)) (Made node))) taken_node
            ∙ ap (λ b. (node_at graph node).live || b) (read_outside readers are outside is)
            ∙ sym output_is

        by_output : (output : Bool) → is_output graph (taken graph (true ∷ prefix)) node ≡ output
            → outputs graph (taken graph (true ∷ prefix)) ≡ outputs graph (taken graph prefix) + cond output 1 0
        by_output true now =
            omega (
              arith,
              count_one_more (is_output graph (taken graph prefix)) (is_output graph (taken graph (true ∷ prefix))) node was_out now
                  output_other (length graph.nodes) node_below,
            )
        by_output false now =
            omega (
              arith,
              count_below-same (length graph.nodes) (is_output graph (taken graph (true ∷ prefix))) (is_output graph (taken graph prefix))
                  (λ k below. elim (cases_eq k node) [
                    | inl same ↦
                        ap (is_output graph (taken graph (true ∷ prefix))) same ∙ now
                        ∙ sym was_out ∙ ap (is_output graph (taken graph prefix)) (sym same)
                    | inr other ↦ output_other k other
                  ]),
            )

    -- ---- what is read, and settled inputs

    module _ (old new : SourceSet) (sources : List Source) (are : sources ≡ (node_at graph node).sources)
        (was : (source : Source) → holds old source ≡ is_read_by graph (taken graph prefix) source)
        (is : (source : Source) → holds new source ≡ (holds old source || list_any (is_source source) sources)) where
      pub read_in : (source : Source) → holds new source ≡ is_read_by graph (taken graph (true ∷ prefix)) source
      read_in source = is source ∙ same_test _ _
          (λ read. elim (or_cases _ _ read) [
            | inl earlier ↦
                let found = (some_below_iff (length graph.nodes) (λ k. taken graph prefix k && reads graph k source)).0 (sym (was source) ∙ earlier) in
                let reader = and_parts _ _ found.2 in
                (some_below_iff (length graph.nodes) (λ k. taken graph (true ∷ prefix) k && reads graph k source)).1
                (found.0, found.1, and_from _ _ (extends.within found.0 reader.0) reader.1)
            | inr here ↦
                (some_below_iff (length graph.nodes) (λ k. taken graph (true ∷ prefix) k && reads graph k source)).1
                (node, node_below, and_from _ _ taken_node (ap (list_any (is_source source)) (sym are) ∙ here))
          ])
          (λ read.
          let found = (some_below_iff (length graph.nodes) (λ k. taken graph (true ∷ prefix) k && reads graph k source)).0 read in
          let reader = and_parts _ _ found.2 in
          elim (taken_cases found.0 reader.0) [
            | inl same ↦ or_right _ _ (ap (list_any (is_source source)) are ∙ ap (λ (k : ℕ). reads graph k source) (sym same) ∙ reader.1)
            | inr member ↦ or_left _ _ (was source
                ∙ (some_below_iff (length graph.nodes) (λ k. taken graph prefix k && reads graph k source)).1 (found.0, found.1, and_from _ _ member reader.1))
          ])

      -- up to the node what is not eligible counts as outside
      settled_here : AreSettledBy graph (is_outside (possible graph prefix)) sources
      settled_here (Entry r) among = refl
      settled_here (Made k) among =
          let below = flows.sources_rise k node (ap (list_any (is_source (Made k))) (sym are) ∙ among) in
          ap not (possible_below k (omega arith))

      pub settled_in : (count : ℕ) → ((outside : Source → Bool) → AreSettledBy graph outside sources
          → count_held graph outside new ≡ count_held graph outside old + count)
          → settled_inputs graph (true ∷ prefix) ≡ settled_inputs graph prefix + count
      settled_in count counted =
          let outside = is_outside (possible graph prefix) in
          let before = sources_same graph (λ source. outside source && is_read_by graph (taken graph prefix) source)
          (λ source. outside source && holds old source)
          (λ source. ap (λ b. outside source && b) (was source)) in
          let now = sources_same graph (λ source. is_outside (possible graph (true ∷ prefix)) source && is_read_by graph (taken graph (true ∷ prefix)) source)
          (λ source. outside source && holds new source)
          (λ source. (λ i. is_outside (sym possible_in i) source && read_in source i)) in
          sym now ∙ counted outside settled_here ∙ ap (λ m. m + count) before

  -- ---- a node is left out

  possible_out_node : possible graph (false ∷ prefix) node ≡ false
  possible_out_node = possible_out node ∙ ap (λ b. not b && possible graph prefix node) (eq-eqb node node refl)

  possible_out_other : (k : ℕ) → k ≢ node → possible graph prefix k ≡ possible graph (false ∷ prefix) k
  possible_out_other k other = sym (possible_out k ∙ ap (λ b. not b && possible graph prefix k) (ne_eqb k node other))

  pub software_out : software graph (possible graph prefix) ≡ software graph (possible graph (false ∷ prefix)) + (node_at graph node).latency
  software_out = sum_one_more (possible graph (false ∷ prefix)) (possible graph prefix) node possible_out_node possible_node possible_out_other
      (length graph.nodes) (λ k. (node_at graph k).latency) node_below

  pub size_out : size graph (possible graph prefix) ≡ suc (size graph (possible graph (false ∷ prefix)))
  size_out = count_one_more (possible graph (false ∷ prefix)) (possible graph prefix) node possible_out_node possible_node possible_out_other
      (length graph.nodes) node_below

  pub settled_out : (read : Bool) → read ≡ is_read_by graph (taken graph prefix) (Made node)
      → settled_inputs graph (false ∷ prefix) ≡ settled_inputs graph prefix + cond read 1 0
  settled_out read is = by_read read is
    where
      was : Source → Bool
      was source = is_outside (possible graph prefix) source && is_read_by graph (taken graph prefix) source

      now : Source → Bool
      now source = is_outside (possible graph (false ∷ prefix)) source && is_read_by graph (taken graph (false ∷ prefix)) source

      was_inside : was (Made node) ≡ false
      was_inside = ap (λ b. not b && is_read_by graph (taken graph prefix) (Made node)) possible_node

      here : now (Made node) ≡ is_read_by graph (taken graph prefix) (Made node)
      here = λ i. not (possible_out_node i) && is_read_by graph (taken_out i) (Made node)

      others : (other : Source) → other ≢ Made node → now other ≡ was other
      others (Entry r) differs = λ i. is_read_by graph (taken_out i) (Entry r)
      others (Made k) differs =
          λ i. not (sym (possible_out_other k (λ same. differs (ap Made same))) i) && is_read_by graph (taken_out i) (Made k)

      by_read : (read : Bool) → read ≡ is_read_by graph (taken graph prefix) (Made node)
          → settled_inputs graph (false ∷ prefix) ≡ settled_inputs graph prefix + cond read 1 0
      by_read true is = sources_one_more graph was now (Made node) node_below was_inside (here ∙ sym is) others
      by_read false is = omega (arith, sources_same graph was now each)
        where
          made_of : {i j : ℕ} → Made i ≡ Made j → i ≡ j
          made_of same = cc

          each : (other : Source) → now other ≡ was other
          each (Entry r) = others (Entry r) (λ same. cc)
          each (Made k) = elim (cases_eq k node) [
            | inl same ↦ ap now (ap Made same) ∙ here ∙ sym is ∙ sym was_inside ∙ ap was (sym (ap Made same))
            | inr differs ↦ others (Made k) (λ same. differs (made_of same))
          ]
