-- The arcs of a block are those that its rules make, and no more; and they join what a hazard keeps in order.
use Rattle.std.specs.Prelude.{◌≡◌, ℕ, zero, suc, ◌<◌, ◌≤◌, ◌⊎◌, Bool, true, false, not, ◌&&◌, ◌||◌, ◌==◌, nat_lt, nat_le}
use Rattle.std.specs.Prelude.{if◌then◌else◌, List, [], ◌∷◌, map, length, Option, Some, None, IsTrue}
use Rattle.std.specs.Ordering.{nat_cmp}
use Rattle.std.specs.FinSet as set
use Rattle.std.specs.List.{list_any}
use Rattle.std.proofs.Common.{refl, sym, ap, ◌∙◌, subst, arith, inl, inr, true≢false}
use Rattle.std.proofs.lemmas.Bool.{cases_eq, cases_lt, cases_Bool, and_parts, and_from, or_cases, or_left, or_right, eqb-true, eq-eqb, lt-ltb, ltb-true}
use Rattle.std.proofs.lemmas.Bool.{le-leb, leb-true, false_from_ne_true}
use Rattle.std.proofs.lemmas.List.{get_or_past}
use Rattle.ci_word.specs.Numbers.{some_below}
use Rattle.ci_word.proofs.NumberLaws.{some_below_iff}
use Rattle.ci_isa.specs.declared.instruction.Insn.{Insn}
use Rattle.ci_isa.specs.declared.instruction.Insn.TheVariants.{Ebreak}
use Rattle.ci_isa.specs.Effects.{operands, results, is_kept, without_x0, is_access, is_unit, is_cread, is_cput, reads_register, writes_register}
use Rattle.ci_isa.specs.Sequences.{nth_insn, latest_writer, IsLastWriter}
use Rattle.ci_isa.proofs.LastWriter.{latest_writer_is_last, last_writer_from}
use Rattle.ci_lat.specs.Latencies.{Latencies}
use Rattle.ci_cut.specs.declared.graph.Source.TheVariants.{Made}
use Rattle.ci_cut.specs.FlowGraph.{HasArc, is_source}
use Rattle.ci_dfg.specs.BlockGraph.{stay_together, source_from, source_of, has_true_arc, has_anti_arc, has_output_arc, has_memory_arc, has_control_arc}
use Rattle.ci_dfg.specs.BlockGraph.{has_own_arc, is_joined, is_span, has_arc_from_bundle, has_arc_into_bundle, has_arc_inside_bundle}
use Rattle.ci_dfg.specs.BlockGraph.{has_arc_into, graph_of}
use Rattle.ci_dfg.specs.BundleArcs as bundles
use Rattle.ci_dfg.specs.BundleArcs.{own, chain, enters, leaves, IsSpan}
use Rattle.ci_dfg.specs.Arcs.{IsOwnArc, true_arc, anti_arc, output_arc, memory_arc, control_arc, IsArc}
use Rattle.ci_dfg.specs.Arcs.{ArcsAreThese, GraphHasTheseArcs, BundlesMoveTogether}
use Rattle.ci_dfg.specs.Hazards.{read_after_write, write_after_read, write_after_write, HazardsAreJoined, AccessesAreJoined}
use Rattle.ci_dfg.proofs.BundleArcs.{arcs_in_one_step, arc_rises, InOneStep}
use Rattle.ci_dfg.proofs.BlockIsGraph.{contains-before, node_at_past}

-- ---- what a test finds among registers

witness : (p : ℕ → Bool) (registers : List ℕ) → list_any p registers ≡ true → (r : ℕ) × (p r ≡ true) × (list_any (λ n. n == r) registers ≡ true)
witness p [] found = absurd (true≢false (sym found))
witness p (n ∷ rest) found =
    elim (or_cases (p n) (list_any p rest) found) [
      | inl here ↦ (n, here, or_left (n == n) (list_any (λ m. m == n) rest) (eq-eqb n n refl))
      | inr later ↦ let w = witness p rest later in (w.0, w.1, or_right (n == w.0) (list_any (λ m. m == w.0) rest) w.2)
    ]

pub passes_at : (p : ℕ → Bool) (r : ℕ) (registers : List ℕ) → p r ≡ true → list_any (λ n. n == r) registers ≡ true → list_any p registers ≡ true
passes_at p r [] passes among = absurd (true≢false (sym among))
passes_at p r (n ∷ rest) passes among =
    elim (or_cases (n == r) (list_any (λ m. m == r) rest) among) [
      | inl here ↦ or_left (p n) (list_any p rest) (ap p (eqb-true n r here) ∙ passes)
      | inr later ↦ or_right (p n) (list_any p rest) (passes_at p r rest passes later)
    ]

-- a test of the sources is one of the registers
of_sources : {X : Type 0} (p : X → Bool) (f : ℕ → X) (registers : List ℕ)
    → list_any p (map f (without_x0 registers)) ≡ list_any (λ r. is_kept r && p (f r)) registers
of_sources p f [] = refl
of_sources p f (n ∷ rest) = by_test (is_kept n) (of_sources p f rest)
  where
    by_test : (b : Bool) → list_any p (map f (without_x0 rest)) ≡ list_any (λ r. is_kept r && p (f r)) rest
        → list_any p (map f (if b then n ∷ without_x0 rest else without_x0 rest)) ≡ ((b && p (f n)) || list_any (λ r. is_kept r && p (f r)) rest)
    by_test true same = ap (λ b. p (f n) || b) same
    by_test false same = same

-- so what a register of the list gives is found,
pub found_among : {X : Type 0} (p : X → Bool) (f : ℕ → X) (r : ℕ) (registers : List ℕ) → p (f r) ≡ true → is_kept r ≡ true
    → list_any (λ n. n == r) registers ≡ true → list_any p (map f (without_x0 registers)) ≡ true
found_among p f r registers passes kept among =
    of_sources p f registers ∙ passes_at (λ q. is_kept q && p (f q)) r registers (and_from (is_kept r) (p (f r)) kept passes) among

-- and what is found is what one of its registers gives
pub found_from : {X : Type 0} (p : X → Bool) (f : ℕ → X) (registers : List ℕ) → list_any p (map f (without_x0 registers)) ≡ true
    → (r : ℕ) × (is_kept r ≡ true) × (list_any (λ n. n == r) registers ≡ true) × (p (f r) ≡ true)
found_from p f registers found =
    let w = witness (λ r. is_kept r && p (f r)) registers (sym (of_sources p f registers) ∙ found) in
    let parts = and_parts (is_kept w.0) (p (f w.0)) w.1 in
    (w.0, parts.0, w.2, parts.1)

-- ---- own arcs

module _ (insns : List Insn) (j k : ℕ) where
  abbrev first : Insn
  first = nth_insn insns j

  abbrev second : Insn
  second = nth_insn insns k

  -- the register is one that k has from j
  abbrev is_made : ℕ → Bool
  is_made r = is_source (Made j) (source_of insns k r)

  made_by : (r : ℕ) → is_made r ≡ true → IsLastWriter insns r k j
  made_by r is = (latest_writer_is_last insns r k j).0 (by_writer (latest_writer insns r k) is)
    where
      by_writer : (writer : Option ℕ) → IsTrue (is_source (Made j) (source_from insns r writer)) → writer ≡ Some j
      by_writer None here = absurd (true≢false (sym here))
      by_writer (Some writer) here = ap Some (sym (eqb-true j writer here))

  written : (r : ℕ) → is_kept r ≡ true → list_any (λ n. n == r) (results second) ≡ true → writes_register second r ≡ true
  written r kept among = and_from (is_kept r) (list_any (λ n. n == r) (results second)) kept among

  among_results : (r : ℕ) → writes_register second r ≡ true → list_any (λ n. n == r) (results second) ≡ true
  among_results r writes = (and_parts (is_kept r) (list_any (λ n. n == r) (results second)) writes).1

  -- the register that k has from j
  pub true_register : IsTrue (has_true_arc insns k j) → (r : ℕ) × IsLastWriter insns r k j × (reads_register second r ≡ true)
  true_register is =
      let found = sym (of_sources (is_source (Made j)) (source_of insns k) (operands second)) ∙ is in
      let w = witness (λ r. is_kept r && is_made r) (operands second) found in
      let parts = and_parts (is_kept w.0) (is_made w.0) w.1 in
      (w.0, made_by w.0 parts.1, and_from (is_kept w.0) (list_any (λ n. n == w.0) (operands second)) parts.0 w.2)

  pub by_rule : j < k → IsTrue (has_own_arc insns k j) → IsOwnArc insns j k
  by_rule order is_own =
      elim (or_cases (has_true_arc insns k j) (((a || o) || m) || has_control_arc insns k j) is_own) [
        | inl is ↦ let (r, last, reads) = true_register is in true_arc j k r last reads
        | inr four ↦ elim (or_cases ((a || o) || m) (has_control_arc insns k j) four) [
          | inl three ↦ elim (or_cases (a || o) m three) [
            | inl two ↦ elim (or_cases a o two) [
              | inl is ↦
                  let w = witness (reads_register first) (results second) is in
                  anti_arc j k w.0 order w.1 (written w.0 (and_parts (is_kept w.0) (list_any (λ n. n == w.0) (operands first)) w.1).0 w.2)
              | inr is ↦
                  let w = witness (writes_register first) (results second) is in
                  output_arc j k w.0 order w.1 (written w.0 (and_parts (is_kept w.0) (list_any (λ n. n == w.0) (results first)) w.1).0 w.2)
            ]
            | inr is ↦ let parts = and_parts (is_access first) (is_access second) is in memory_arc j k order parts.0 parts.1
          ]
          | inr is ↦ control_arc j k order is
        ]
      ]
    where
      a : Bool
      a = has_anti_arc insns k j

      o : Bool
      o = has_output_arc insns k j

      m : Bool
      m = has_memory_arc insns k j

  any_kind : (t a o m e : Bool) → (t ≡ true) ⊎ ((a ≡ true) ⊎ ((o ≡ true) ⊎ ((m ≡ true) ⊎ (e ≡ true)))) → (t || (((a || o) || m) || e)) ≡ true
  any_kind t a o m e (inl is) = grind arith
  any_kind t a o m e (inr (inl is)) = grind arith
  any_kind t a o m e (inr (inr (inl is))) = grind arith
  any_kind t a o m e (inr (inr (inr (inl is)))) = grind arith
  any_kind t a o m e (inr (inr (inr (inr is)))) = grind arith

  by_kind : (has_true_arc insns k j ≡ true) ⊎ ((has_anti_arc insns k j ≡ true) ⊎ ((has_output_arc insns k j ≡ true)
      ⊎ ((has_memory_arc insns k j ≡ true) ⊎ (has_control_arc insns k j ≡ true))))
      → IsTrue (has_own_arc insns k j)
  by_kind is =
      any_kind (has_true_arc insns k j) (has_anti_arc insns k j) (has_output_arc insns k j) (has_memory_arc insns k j)
      (has_control_arc insns k j) is

  pub source_there : (r : ℕ) → IsLastWriter insns r k j → reads_register second r ≡ true → has_true_arc insns k j ≡ true
  source_there r last reads =
      let parts = and_parts (is_kept r) (list_any (λ n. n == r) (operands second)) reads in
      let found = ap (λ writer. is_source (Made j) (source_from insns r writer)) ((latest_writer_is_last insns r k j).1 last) ∙ eq-eqb j j refl in
      of_sources (is_source (Made j)) (source_of insns k) (operands second)
      ∙ passes_at (λ n. is_kept n && is_made n) r (operands second) (and_from (is_kept r) (is_made r) parts.0 found) parts.1

-- ---- all arcs

module _ (insns : List Insn) where
  pub own_rises : (j k : ℕ) → IsOwnArc insns j k → j < k
  own_rises _ _ (true_arc j k r last reads) = last.before
  own_rises _ _ (anti_arc j k r order reads writes) = order
  own_rises _ _ (output_arc j k r order writes again) = order
  own_rises _ _ (memory_arc j k order one other) = order
  own_rises _ _ (control_arc j k order ends) = order

  pub has_own : (j k : ℕ) → IsOwnArc insns j k → IsTrue (has_own_arc insns k j)
  has_own _ _ (true_arc j k r last reads) = by_kind insns j k (inl (source_there insns j k r last reads))
  has_own _ _ (anti_arc j k r order reads writes) =
      by_kind insns j k (inr (inl (passes_at (reads_register (nth_insn insns j)) r (results (nth_insn insns k)) reads (among_results insns j k r writes))))
  has_own _ _ (output_arc j k r order writes again) =
      by_kind insns j k
      (inr (inr (inl (passes_at (writes_register (nth_insn insns j)) r (results (nth_insn insns k)) writes
      (among_results insns j k r again)))))
  has_own _ _ (memory_arc j k order one other) =
      by_kind insns j k (inr (inr (inr (inl (and_from (is_access (nth_insn insns j)) (is_access (nth_insn insns k)) one other)))))
  has_own _ _ (control_arc j k order ends) = by_kind insns j k (inr (inr (inr (inr ends))))

  abbrev Span : ℕ → ℕ → Type 0
  Span = IsSpan (is_joined insns)

  -- the tests of spans and of what bundles add
  span_there : (first last : ℕ) → IsTrue (is_span insns first last) → Span first last
  span_there first last is =
      let parts = and_parts (nat_le first last) (not (some_below (suc last) (λ i. nat_lt first i && not (is_joined insns i)))) is in
      record {
        rises = leb-true first last parts.0;
        inside = λ i above below. elim (cases_Bool (is_joined insns i)) [
          | inl here ↦ here
          | inr none ↦ absurd (true≢false (sym parts.1 ∙ ap not ((some_below_iff (suc last) (λ i. nat_lt first i && not (is_joined insns i))).1
              (i, omega arith, and_from (nat_lt first i) (not (is_joined insns i)) (lt-ltb first i above) (ap not none)))))
        ];
      }

  span_test : (first last : ℕ) → Span first last → IsTrue (is_span insns first last)
  span_test first last span =
      and_from (nat_le first last) (not (some_below (suc last) (λ i. nat_lt first i && not (is_joined insns i))))
      (le-leb first last span.rises)
      (ap not (false_from_ne_true (some_below (suc last) (λ i. nat_lt first i && not (is_joined insns i))) (λ some.
      let (i, below, both) = (some_below_iff (suc last) (λ i. nat_lt first i && not (is_joined insns i))).0 some in
      let parts = and_parts (nat_lt first i) (not (is_joined insns i)) both in
      true≢false (sym parts.1 ∙ ap not (span.inside i (ltb-true first i parts.0) (omega arith))))))

  none_joined : (k : ℕ) → IsTrue (not (is_joined insns k)) → is_joined insns k ≡ false
  none_joined k is = elim (cases_Bool (is_joined insns k)) [
    | inl here ↦ absurd (true≢false (sym is ∙ ap not here))
    | inr none ↦ none
  ]

  -- no node past the end is joined
  pub past_the_end : (k : ℕ) → length insns ≤ k → is_joined insns k ≡ false
  past_the_end zero past = refl
  past_the_end (suc k) past =
      subst (λ insn. stay_together (nth_insn insns k) insn ≡ false) (sym (get_or_past insns (suc k) Ebreak past))
      (neither (is_cput (nth_insn insns k)) (is_unit (nth_insn insns k) || is_cread (nth_insn insns k)))
    where
      neither : (p q : Bool) → ((p && false) || (q && false)) ≡ false
      neither p q = grind arith

  abbrev pub ComesFrom : ℕ → ℕ → Type 0
  ComesFrom = bundles.ComesFrom (is_joined insns)

  abbrev pub LeadsTo : ℕ → ℕ → Type 0
  LeadsTo = bundles.LeadsTo (is_joined insns)

  -- ---- what leaves a bundle

  abbrev left_at : ℕ → ℕ → ℕ → Bool
  left_at k j i = is_span insns i j && has_own_arc insns k i

  abbrev left_earlier : ℕ → ℕ → Bool
  left_earlier k j = not (is_joined insns (suc j)) && some_below j (left_at k j)

  from_bundle_there : (j k : ℕ) → IsTrue (has_arc_from_bundle insns k j) → (i : ℕ) × ComesFrom i j × IsTrue (has_own_arc insns k i)
  from_bundle_there j k is = elim (or_cases (has_own_arc insns k j) (left_earlier k j) is) [
    | inl is_own ↦ (j, inl refl, is_own)
    | inr earlier ↦
        let parts = and_parts (not (is_joined insns (suc j))) (some_below j (left_at k j)) earlier in
        let (i, below, both) = (some_below_iff j (left_at k j)).0 parts.1 in
        let both_parts = and_parts (is_span insns i j) (has_own_arc insns k i) both in
        (i, inr (span_there i j both_parts.0, none_joined (suc j) parts.0), both_parts.1)
  ]

  from_bundle_test : (j k i : ℕ) → ComesFrom i j → IsTrue (has_own_arc insns k i) → IsTrue (has_arc_from_bundle insns k j)
  from_bundle_test j k i (inl same) is_own =
      or_left (has_own_arc insns k j) (left_earlier k j) (subst (λ n. IsTrue (has_own_arc insns k n)) same is_own)
  from_bundle_test j k i (inr (span, none)) is_own = elim (cases_eq i j) [
    | inl same ↦ or_left (has_own_arc insns k j) (left_earlier k j) (subst (λ n. IsTrue (has_own_arc insns k n)) same is_own)
    | inr other ↦
        or_right (has_own_arc insns k j) (left_earlier k j)
        (and_from (not (is_joined insns (suc j))) (some_below j (left_at k j)) (ap not none)
        ((some_below_iff j (left_at k j)).1
        (i, (let rises = span.rises in omega arith), and_from (is_span insns i j) (has_own_arc insns k i) (span_test i j span) is_own)))
  ]

  -- ---- what enters a bundle

  abbrev entered_at : ℕ → ℕ → ℕ → Bool
  entered_at k j l = nat_lt k l && (is_span insns k l && has_arc_from_bundle insns l j)

  -- an arc of its own, maybe carried to the last node of the one bundle and to the first of the other
  abbrev pub CarriedArc : ℕ → ℕ → Type 0
  CarriedArc j k = (i : ℕ) × (l : ℕ) × ComesFrom i j × LeadsTo l k × IsTrue (has_own_arc insns l i)

  abbrev pub has_outer_arc : ℕ → ℕ → Bool
  has_outer_arc k j = has_arc_from_bundle insns k j || has_arc_into_bundle insns k j

  pub outer_there : (j k : ℕ) → IsTrue (has_outer_arc k j) → CarriedArc j k
  outer_there j k is = elim (or_cases (has_arc_from_bundle insns k j) (has_arc_into_bundle insns k j) is) [
    | inl from ↦ let (i, comes, is_own) = from_bundle_there j k from in (i, k, comes, inl refl, is_own)
    | inr to ↦
        let parts = and_parts (not (is_joined insns k)) (some_below (length insns) (entered_at k j)) to in
        let (l, below, all) = (some_below_iff (length insns) (entered_at k j)).0 parts.1 in
        let all_parts = and_parts (nat_lt k l) (is_span insns k l && has_arc_from_bundle insns l j) all in
        let both = and_parts (is_span insns k l) (has_arc_from_bundle insns l j) all_parts.1 in
        let (i, comes, is_own) = from_bundle_there j l both.1 in
        (i, l, comes, inr (span_there k l both.0, none_joined k parts.0), is_own)
  ]

  outer_here : (j k i : ℕ) → ComesFrom i j → IsTrue (has_own_arc insns k i) → IsTrue (has_outer_arc k j)
  outer_here j k i comes is_own = or_left (has_arc_from_bundle insns k j) (has_arc_into_bundle insns k j) (from_bundle_test j k i comes is_own)

  pub outer_test : (j k : ℕ) → CarriedArc j k → IsTrue (has_outer_arc k j)
  outer_test j k (i, l, comes, inl same, is_own) = outer_here j k i comes (subst (λ n. IsTrue (has_own_arc insns n i)) same is_own)
  outer_test j k (i, l, comes, inr (span, none), is_own) = elim (cases_eq l k) [
    | inl same ↦ outer_here j k i comes (subst (λ n. IsTrue (has_own_arc insns n i)) same is_own)
    | inr other ↦
        let later : k < l = (let rises = span.rises in omega arith) in
        or_right (has_arc_from_bundle insns k j) (has_arc_into_bundle insns k j)
        (and_from (not (is_joined insns k)) (some_below (length insns) (entered_at k j)) (ap not none)
        ((some_below_iff (length insns) (entered_at k j)).1 (
          l,
          within l span later,
          and_from (nat_lt k l) (is_span insns k l && has_arc_from_bundle insns l j) (lt-ltb k l later)
              (and_from (is_span insns k l) (has_arc_from_bundle insns l j) (span_test k l span) (from_bundle_test j l i comes is_own)),
        )))
  ]
    where
      within : (l : ℕ) → Span k l → k < l → l < length insns
      within l span later = elim (cases_lt l (length insns)) [
        | inl below ↦ below
        | inr past ↦ absurd (true≢false (sym (span.inside l later (omega arith)) ∙ past_the_end l past))
      ]

  -- ---- both together

  abbrev OneStep : ℕ → ℕ → Type 0
  OneStep = InOneStep (is_joined insns) (IsOwnArc insns)

  come_low : (i j : ℕ) → ComesFrom i j → i ≤ j
  come_low i j (inl same) = omega arith
  come_low i j (inr (span, none)) = span.rises

  lead_high : (l k : ℕ) → LeadsTo l k → k ≤ l
  lead_high l k (inl same) = omega arith
  lead_high l k (inr (span, none)) = span.rises

  to_step : (j k : ℕ) → j < k → IsTrue (has_arc_into insns k j) → OneStep j k
  to_step j k order is = elim (or_cases (has_outer_arc k j) (has_arc_inside_bundle insns k j) is) [
    | inl outer ↦
        let (i, l, comes, leads, is_own) = outer_there j k outer in
        let low = come_low i j comes in
        let high = lead_high l k leads in
        inl (i, l, comes, leads, by_rule insns i l (omega arith) is_own, omega arith)
    | inr inside ↦
        let parts = and_parts (k == suc j) (is_joined insns k) inside in
        inr (eqb-true k (suc j) parts.0, parts.1)
  ]

  from_step : (j k : ℕ) → OneStep j k → IsTrue (has_arc_into insns k j)
  from_step j k (inl (i, l, comes, leads, arc, before)) =
      or_left (has_outer_arc k j) (has_arc_inside_bundle insns k j) (outer_test j k (i, l, comes, leads, has_own i l arc))
  from_step j k (inr (next, joined)) =
      or_right (has_outer_arc k j) (has_arc_inside_bundle insns k j)
      (and_from (k == suc j) (is_joined insns k) (eq-eqb k (suc j) next) joined)

  pub rises : (j k : ℕ) → IsArc insns j k → j < k
  rises = arc_rises (is_joined insns) (IsOwnArc insns)

  to_arc : (j k : ℕ) → j < k → IsTrue (has_arc_into insns k j) → IsArc insns j k
  to_arc j k order is = (arcs_in_one_step (is_joined insns) (IsOwnArc insns) j k order).1 (to_step j k order is)

  from_arc : (j k : ℕ) → IsArc insns j k → IsTrue (has_arc_into insns k j)
  from_arc j k is = from_step j k ((arcs_in_one_step (is_joined insns) (IsOwnArc insns) j k (rises j k is)).0 is)

  from_own : (j k : ℕ) → IsOwnArc insns j k → IsTrue (has_arc_into insns k j)
  from_own j k arc = from_arc j k (own j k (own_rises j k arc) arc)

pub arcs_are_these : ArcsAreThese
arcs_are_these insns j k order = (to_arc insns j k order, from_arc insns j k)

pub bundles_move_together : BundlesMoveTogether
bundles_move_together insns first last bundle = record {
  between = λ k above below. from_arc insns k (suc k) (chain k (bundle.one.inside (suc k) (omega arith) (omega arith)));
  entering = λ j k before above below is.
      from_arc insns j first (enters j first k (up_to k above below) bundle.begins before (to_arc insns j k (omega arith) is));
  leaving = λ j k above below before is.
      from_arc insns last k (leaves j last k (on_from j above below) bundle.ends before (to_arc insns j k (omega arith) is));
}
  where
    up_to : (k : ℕ) → first ≤ k → k ≤ last → IsSpan (is_joined insns) first k
    up_to k above below = record { rises = above; inside = λ i over under. bundle.one.inside i over (omega arith) }

    on_from : (j : ℕ) → first ≤ j → j ≤ last → IsSpan (is_joined insns) j last
    on_from j above below = record { rises = below; inside = λ i over under. bundle.one.inside i (omega arith) under }

module _ (insns : List Insn) (live_out : set.FinSet nat_cmp) (table : Latencies) (j k : ℕ) where
  of_graph : HasArc (graph_of insns live_out table) j k → (k < length insns) × IsArc insns j k
  of_graph has =
      elim (cases_lt k (length insns)) [
        | inl there ↦
            let parts = and_parts (nat_lt j k) (has_arc_into insns k j) (sym (contains-before insns live_out table k j there) ∙ has) in
            (there, to_arc insns j k (ltb-true j k parts.0) parts.1)
        | inr past ↦
            absurd (true≢false (sym has ∙ ap (λ node. set.contains node.before j) (node_at_past insns live_out table k past) ∙ set.contains-empty nat_cmp j))
      ]

  in_graph : (k < length insns) × IsArc insns j k → HasArc (graph_of insns live_out table) j k
  in_graph (there, arc) =
      contains-before insns live_out table k j there
      ∙ and_from (nat_lt j k) (has_arc_into insns k j) (lt-ltb j k (rises insns j k arc)) (from_arc insns j k arc)

pub graph_has_these_arcs : GraphHasTheseArcs
graph_has_these_arcs insns live_out table j k = (of_graph insns live_out table j k, in_graph insns live_out table j k)

-- ---- hazards

pub hazards_are_joined : HazardsAreJoined
hazards_are_joined insns r j k order (read_after_write writes reads) =
    let last = last_writer_from insns r k j order writes in
    let w = last.0 in
    elim (cases_eq w j) [
      | inl same ↦ inl (from_own insns j k (true_arc j k r (subst (IsLastWriter insns r k) same last.1) reads))
      | inr other ↦
          let between : j < w = omega (arith, last.2, other) in
          inr (
            w,
            record {
              behind = between;
              before = last.1.before;
              writes = last.1.writes;
              enters = from_own insns j w (output_arc j w r between writes last.1.writes);
              leaves = from_own insns w k (true_arc w k r last.1 reads);
            },
          )
    ]
hazards_are_joined insns r j k order (write_after_read reads writes) = inl (from_own insns j k (anti_arc j k r order reads writes))
hazards_are_joined insns r j k order (write_after_write writes again) = inl (from_own insns j k (output_arc j k r order writes again))

pub accesses_are_joined : AccessesAreJoined
accesses_are_joined insns j k order one other = from_own insns j k (memory_arc j k order one other)
