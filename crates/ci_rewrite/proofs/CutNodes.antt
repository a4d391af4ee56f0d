-- A cut that is folded: what is known of it, and of the nodes before and behind it.
use Rattle.std.specs.Prelude.{◌≡◌, ℕ, zero, suc, ◌+◌, ◌<◌, ◌≤◌, ◌⊎◌, Bool, true, false, not, ◌&&◌, ◌||◌, List, [], length}
use Rattle.std.specs.FinSet as finite
use Rattle.std.specs.List.{list_any}
use Rattle.std.specs.Ordering.{nat_cmp}
use Rattle.std.proofs.Common.{refl, sym, ap, ◌∙◌, subst, arith, inl, inr, true≢false}
use Rattle.std.proofs.lemmas.Bool.{cases_lt, and_from, and_left, and_parts, or_cases, or_left, or_right, false_from_ne_true, not_from_false}
use Rattle.std.proofs.lemmas.Bool.Decides.{nat_tests}
use Rattle.ci_word.proofs.NumberLaws.{some_below_iff}
use Rattle.ci_isa.specs.declared.instruction.Insn.{Insn}
use Rattle.ci_isa.specs.declared.instruction.Insn.TheVariants.{Unit, Cread}
use Rattle.ci_isa.specs.FieldBounds.{FieldsFit}
use Rattle.ci_isa.specs.Effects.{is_among, is_unit, is_cread, is_cput, may_join, reads_register}
use Rattle.ci_isa.specs.Sequences.{nth_insn}
use Rattle.ci_isa.proofs.LastPassing.{IsLast}
use Rattle.ci_isa.proofs.LastWriter.{written, last_writer}
use Rattle.ci_isa.proofs.OperandLaws.{joins, read_below}
use Rattle.ci_lat.specs.Latencies.{Latencies}
use Rattle.ci_machine.specs.Actions.{Units}
use Rattle.ci_machine.specs.Agreement as machine
use Rattle.ci_dfg.specs.Bundles.{AreBundled, is_read_of}
use Rattle.ci_rewrite.specs.private.Bundles.{TakeGiven, is_unit_of, given_at}
use Rattle.ci_dfg.specs.Bundles.{another, Bundled}
use Rattle.ci_dfg.specs.BundleArcs as bundles
use Rattle.ci_cut.specs.declared.graph.Source.TheVariants.{Made}
use Rattle.ci_cut.specs.FlowGraph.{FlowGraph, HasArc, node_at, is_source, reads}
use Rattle.ci_cut.specs.Gain.{further_words}
use Rattle.ci_cut.specs.Ports.{size, is_output, is_read_by}
use Rattle.ci_cut.specs.Walks.{Walk, arc, onward, IsConvex}
use Rattle.ci_dfg.specs.Arcs.{IsOwnArc, IsArc}
use Rattle.ci_dfg.specs.BlockGraph.{graph_of, is_joined, stay_together}
use Rattle.ci_unit.specs.Units.{inputs_of, outputs_of}
use Rattle.ci_unit.specs.Uses.{passes}
use Rattle.ci_rewrite.specs.Blocks.{AreActionsOf}
use Rattle.ci_rewrite.specs.FoldedBlock.{AreEarly, places_left}
use Rattle.ci_machine.proofs.TestLaws.{by_test}
use Rattle.ci_cut.proofs.WalkLaws.{walk_on}
use Rattle.ci_dfg.proofs.ArcLaws.{graph_has_these_arcs, source_there, own_rises, past_the_end}
use Rattle.ci_dfg.proofs.BlockIsGraph.{arcs_rise, length-nodes, node_at_within}
use Rattle.ci_dfg.proofs.BundleArcs as walks
use Rattle.ci_dfg.proofs.BundleArcs.{arc_rises, bundles_lead_together}
use Rattle.ci_rewrite.proofs.BundleLaws.{bundles_are_given, further_only}
use Rattle.ci_dfg.proofs.BundledLists.{bundled_is}
use Rattle.ci_unit.proofs.SourceLaws.{not_true}

abbrev reads_all : Units → Insn → ℕ → Bool
reads_all units insn = machine.reads units insn

-- what is known of a cut that is folded, in a block of which the first n instructions act
pub record IsFolding (insns : List Insn) (live_out : finite.FinSet nat_cmp) (table : Latencies) (cut early : ℕ → Bool) (n : ℕ) : Type 0 where
  pub convex : IsConvex (graph_of insns live_out table) cut
  pub are_early : AreEarly insns (graph_of insns live_out table) cut early
  pub actions : AreActionsOf insns n
  pub bundled : Bundled another insns
  pub fit : (k : ℕ) → k < length insns → FieldsFit (nth_insn insns k)
  pub members : (k : ℕ) → cut k ≡ true → (k < n) × (may_join (nth_insn insns k) ≡ true)
  pub few_inputs : length (inputs_of insns (graph_of insns live_out table) cut) ≤ 5
  pub few_named : passes (graph_of insns live_out table) cut ≡ false → length (inputs_of insns (graph_of insns live_out table) cut) ≤ 3
  pub some_outputs : 1 ≤ length (outputs_of insns (graph_of insns live_out table) cut)
  pub few_outputs : length (outputs_of insns (graph_of insns live_out table) cut) ≤ 3
  pub room : suc (further_words (graph_of insns live_out table) cut) + places_left (graph_of insns live_out table) cut ≡ size (graph_of insns live_out table) cut

-- ---- the nodes around a cut

module _ {insns : List Insn} {live_out : finite.FinSet nat_cmp} {table : Latencies} {cut early : ℕ → Bool} {n : ℕ}
    (known : IsFolding insns live_out table cut early n) where
  abbrev graph : FlowGraph
  graph = graph_of insns live_out table

  -- the others outside
  abbrev pub late : ℕ → Bool
  late k = not (cut k) && not (early k)

  pub late_parts : (k : ℕ) → late k ≡ true → (cut k ≡ false) × (early k ≡ false)
  late_parts k is = (not_true (cut k) (and_parts (not (cut k)) (not (early k)) is).0, not_true (early k) (and_parts (not (cut k)) (not (early k)) is).1)

  pub late_from : (k : ℕ) → cut k ≡ false → early k ≡ false → late k ≡ true
  late_from k none_member none_early =
      and_from (not (cut k)) (not (early k)) (not_from_false (cut k) none_member) (not_from_false (early k) none_early)

  -- a member whose result nobody needs behind the cut
  abbrev pub is_dead : ℕ → Bool
  is_dead k = cut k && not (is_output graph cut k)

  pub within : (k : ℕ) → k < n → k < length insns
  within k below = omega (arith, known.actions.within)

  pub member_within : (k : ℕ) → cut k ≡ true → k < length insns
  member_within k member = within k (known.members k member).0

  -- an instruction that may not join is outside
  pub outside : (k : ℕ) → (may_join (nth_insn insns k) ≡ true → ⊥) → cut k ≡ false
  outside k none = false_from_ne_true (cut k) (λ member. none (known.members k member).1)

  -- ---- what has to stay before a node

  pub early_outside : (k : ℕ) → k < length insns → early k ≡ true → cut k ≡ false
  early_outside k there is = false_from_ne_true (cut k) ((known.are_early k there).0 is).0

  arc_there : (j k : ℕ) → k < length insns → IsArc insns j k → HasArc graph j k × (j < k)
  arc_there j k there is =
      let step = (graph_has_these_arcs insns live_out table j k).1 (there, is) in (step, arcs_rise insns live_out table j k step)

  is_early : (j k m : ℕ) → k < length insns → j < k → cut j ≡ false → cut m ≡ true → Walk graph j m → early j ≡ true
  is_early j k m there before none member walk =
      (known.are_early j (omega arith)).1 ((λ is. true≢false (sym is ∙ none)), (m, member, walk))

  -- what has to stay before an early node is early
  before_early_arc : (j k : ℕ) → k < length insns → IsArc insns j k → early k ≡ true → early j ≡ true
  before_early_arc j k there is k_early =
      let (k_out, (m, member, walk)) = (known.are_early k there).0 k_early in
      let (step, before) = arc_there j k there is in
      by_test (cut j)
      (λ j_member. absurd (known.convex j k m j_member (arc step) k_out walk member))
      (λ none. is_early j k m there before none member (walk_on (arc step) walk))

  pub before_early : (j k : ℕ) → k < length insns → IsOwnArc insns j k → early k ≡ true → early j ≡ true
  before_early j k there is = before_early_arc j k there (bundles.own j k (own_rises insns j k is) is)

  before_member_arc : (j k : ℕ) → k < length insns → IsArc insns j k → cut k ≡ true → (early j || cut j) ≡ true
  before_member_arc j k there is member =
      let (step, before) = arc_there j k there is in
      by_test (cut j)
      (λ j_member. or_right (early j) (cut j) j_member)
      (λ none. or_left (early j) (cut j) (is_early j k k there before none member (arc step)))

  -- what has to stay before a member is early or a member
  pub before_member : (j k : ℕ) → k < length insns → IsOwnArc insns j k → cut k ≡ true → (early j || cut j) ≡ true
  before_member j k there is = before_member_arc j k there (bundles.own j k (own_rises insns j k is) is)

  -- ---- outputs

  -- a member that a node outside reads is an output
  pub read_outside : (k w r : ℕ) → k < length insns → cut k ≡ false → reads_register (nth_insn insns k) r ≡ true
      → IsLast (written insns r) k w → is_dead w ≡ false
  read_outside k w r there none read last = by_test (cut w)
      (λ member. alive (cut w) (node_at graph w).live (is_read_by graph (λ j. not (cut j)) (Made w))
      ((some_below_iff (length graph.nodes) (λ j. not (cut j) && reads graph j (Made w))).1 (
        k,
        subst (λ m. k < m) (sym (length-nodes insns live_out table)) there,
        and_from (not (cut k)) (reads graph k (Made w)) (not_from_false (cut k) none)
            (ap (λ node. list_any (is_source (Made w)) node.sources) (node_at_within insns live_out table k there)
            ∙ source_there insns w k r (last_writer last) read),
      )))
      (λ outside. and_left (cut w) (not (is_output graph cut w)) outside)
    where
      alive : (c l f : Bool) → f ≡ true → (c && not (c && (l || f))) ≡ false
      alive c l f is = grind arith

  -- ---- bundles

  -- a walk of the graph is one along its arcs, and back
  abbrev Way : ℕ → ℕ → Type 0
  Way = walks.Walk (is_joined insns) (IsOwnArc insns)

  step_is : (a b : ℕ) → HasArc graph a b → IsArc insns a b
  step_is a b has = ((graph_has_these_arcs insns live_out table a b).0 has).1

  one_more : {a b c : ℕ} → Way a b → IsArc insns b c → Way a c
  one_more (walks.arc step) last = walks.more step (walks.arc last)
  one_more (walks.more step way) last = walks.more step (one_more way last)

  to_way : {a b : ℕ} → Walk graph a b → Way a b
  to_way (arc {a = a} {b = b} has) = walks.arc (step_is a b has)
  to_way (onward {b = b} {c = c} walk has) = one_more (to_way walk) (step_is b c has)

  way_rises : {a b : ℕ} → Way a b → a < b
  way_rises (walks.arc {j = j} {k = k} step) = arc_rises (is_joined insns) (IsOwnArc insns) j k step
  way_rises (walks.more {j = j} {k = k} step way) = omega (arith, arc_rises (is_joined insns) (IsOwnArc insns) j k step, way_rises way)

  from_way : {a b : ℕ} → b < length insns → Way a b → Walk graph a b
  from_way there (walks.arc {j = j} {k = k} step) = arc ((graph_has_these_arcs insns live_out table j k).1 (there, step))
  from_way there (walks.more {j = j} {k = k} step way) =
      walk_on (arc ((graph_has_these_arcs insns live_out table j k).1 (let above = way_rises way in omega arith, step))) (from_way there way)

  module _ (u : ℕ) (joined : is_joined insns (suc u) ≡ true) where
    abbrev first : Insn
    first = nth_insn insns u

    abbrev second : Insn
    second = nth_insn insns (suc u)

    abbrev by_put : Bool
    by_put = is_cput first && is_unit second

    abbrev by_read : Bool
    by_read = (is_unit first || is_cread first) && is_cread second

    -- its words are outside
    pub first_outside : cut u ≡ false
    first_outside = outside u (λ may.
        let no = joins first may in
        elim (or_cases by_put by_read joined) [
          | inl put ↦ true≢false (sym (and_parts (is_cput first) (is_unit second) put).0 ∙ no.no_cput)
          | inr read ↦ elim (or_cases (is_unit first) (is_cread first) (and_parts (is_unit first || is_cread first) (is_cread second) read).0) [
            | inl unit ↦ true≢false (sym unit ∙ no.no_unit)
            | inr it_reads ↦ true≢false (sym it_reads ∙ no.no_cread)
          ]
        ])

    pub second_outside : cut (suc u) ≡ false
    second_outside = outside (suc u) (λ may.
        let no = joins second may in
        elim (or_cases by_put by_read joined) [
          | inl put ↦ true≢false (sym (and_parts (is_cput first) (is_unit second) put).1 ∙ no.no_unit)
          | inr read ↦ true≢false (sym (and_parts (is_unit first || is_cread first) (is_cread second) read).1 ∙ no.no_cread)
        ])

    pub joined_within : suc u < length insns
    joined_within = elim (cases_lt (suc u) (length insns)) [
      | inl there ↦ there
      | inr past ↦ absurd (true≢false (sym joined ∙ past_the_end insns (suc u) past))
    ]

  -- a member is of no bundle
  member_alone : (m : ℕ) → cut m ≡ true → (is_joined insns m ≡ false) × (is_joined insns (suc m) ≡ false)
  member_alone m member = (
    false_from_ne_true (is_joined insns m) (before m member),
    false_from_ne_true (is_joined insns (suc m)) (λ joined. true≢false (sym member ∙ first_outside m joined)),
  )
    where
      before : (m : ℕ) → cut m ≡ true → is_joined insns m ≡ true → ⊥
      before zero member joined = true≢false (sym joined)
      before (suc u) member joined = true≢false (sym member ∙ second_outside u joined)

  -- both are early, or both are late
  pub same_side : (u : ℕ) → is_joined insns (suc u) ≡ true → early u ≡ early (suc u)
  same_side u joined = by_test (early u)
      (λ one. one ∙ sym (second_early one))
      (λ none. none ∙ sym (false_from_ne_true (early (suc u)) (λ other. true≢false (sym (first_early other) ∙ none))))
    where
      first_early : early (suc u) ≡ true → early u ≡ true
      first_early = before_early_arc u (suc u) (joined_within u joined) (bundles.chain u joined)

      second_early : early u ≡ true → early (suc u) ≡ true
      second_early is =
          let (u_out, (m, member, walk)) = (known.are_early u (let there = joined_within u joined in omega arith)).0 is in
          let alone = member_alone m member in
          let way = (bundles_lead_together (is_joined insns) (IsOwnArc insns) (length insns) (past_the_end insns) u m joined alone.0 alone.1).0 (to_way walk) in
          (known.are_early (suc u) (joined_within u joined)).1
          ((λ is. true≢false (sym is ∙ second_outside u joined)), (m, member, from_way (member_within m member) way))

  pub late_same : (u : ℕ) → is_joined insns (suc u) ≡ true → late u ≡ late (suc u)
  late_same u joined i = not ((first_outside u joined ∙ sym (second_outside u joined)) i) && not (same_side u joined i)

  -- ---- what a word of a bundle finds

  module _ (units : Units) (take : TakeGiven units insns) where
    abbrev FoundBehind : ℕ → Type 0
    FoundBehind b = (u : ℕ) × (b ≡ suc u) × (is_joined insns (suc u) ≡ true)

    rules : AreBundled insns
    rules = bundled_is insns known.bundled

    by_pair : (u b : ℕ) → b ≡ suc u → stay_together (nth_insn insns u) (nth_insn insns b) ≡ true → FoundBehind b
    by_pair u b same is = (u, same, ap (λ j. stay_together (nth_insn insns u) (nth_insn insns j)) (sym same) ∙ is)

    read_pair : (first second : Insn) → (is_unit first || is_cread first) ≡ true → is_cread second ≡ true → stay_together first second ≡ true
    read_pair first second one other =
        or_right (is_cput first && is_unit second) ((is_unit first || is_cread first) && is_cread second)
        (and_from (is_unit first || is_cread first) (is_cread second) one other)

    a_read : (n : ℕ) (insn : Insn) → is_read_of n insn → is_cread insn ≡ true
    a_read n (Cread rd index) is = refl
    a_read n insn is = absurd is

    behind_read : (b : ℕ) → b < length insns → (insn : Insn) → nth_insn insns b ≡ insn → FieldsFit insn → is_cread insn ≡ true → FoundBehind b
    behind_read b below (Cread rd zero) same fit is =
        let (u, next, unit) = rules.first b below (subst (is_read_of 0) (sym same) refl) in
        by_pair u b next (read_pair (nth_insn insns u) (nth_insn insns b) (or_left (is_unit (nth_insn insns u)) (is_cread (nth_insn insns u)) unit)
        (ap is_cread same))
    behind_read b below (Cread rd (suc zero)) same fit is =
        let (u, next, read) = rules.second b below (subst (is_read_of 1) (sym same) refl) in
        by_pair u b next (read_pair (nth_insn insns u) (nth_insn insns b)
        (or_right (is_unit (nth_insn insns u)) (is_cread (nth_insn insns u)) (a_read 0 (nth_insn insns u) read)) (ap is_cread same))
    behind_read b below (Cread rd (suc (suc index))) same fit is = absurd (let low = fit.1 in omega arith)
    behind_read b below insn same fit is = cc

    nothing : (r : ℕ) → is_among [] r ≡ true → ⊥
    nothing r is = grind (arith, nat_tests)

    behind_reader : (b r : ℕ) → b < length insns → 32 ≤ r → (insn : Insn) → nth_insn insns b ≡ insn → FieldsFit insn → reads_all units insn r ≡ true → FoundBehind b
    behind_reader b r below hidden (Unit number rd rs1 rs2 rs3) same fit is = elim (take.bare number b below (subst (is_unit_of number) (sym same) refl)) [
      | inl (u, next, put) ↦
          by_pair u b next (or_left (is_cput (nth_insn insns u) && is_unit (nth_insn insns b))
          ((is_unit (nth_insn insns u) || is_cread (nth_insn insns u)) && is_cread (nth_insn insns b))
          (and_from (is_cput (nth_insn insns u)) (is_unit (nth_insn insns b)) put (ap is_unit same)))
      | inr none ↦ absurd (nothing r (sym (ap (λ l. is_among l r) none)
          ∙ further_only rs1 rs2 rs3 r (units.further number) fit.2 fit.3 fit.4 hidden is))
    ]
    behind_reader b r below hidden (Cread rd index) same fit is = behind_read b below (Cread rd index) same fit refl
    behind_reader b r below hidden insn same fit is = let named = read_below insn r fit is in absurd (omega arith)

    -- a word that wants a hidden register stands behind a word of its bundle, which has written it
    pub found_behind : (b r : ℕ) → b < length insns → 32 ≤ r
        → (reads_all units (nth_insn insns b) r ≡ true) ⊎ ((is_cread (nth_insn insns b) && given_at insns b r) ≡ true)
        → FoundBehind b × (given_at insns b r ≡ true)
    found_behind b r below hidden (inl is) = (
      behind_reader b r below hidden (nth_insn insns b) refl (known.fit b below) is,
      bundles_are_given units insns rules take known.fit b r below hidden is,
    )
    found_behind b r below hidden (inr both) =
        let parts = and_parts (is_cread (nth_insn insns b)) (given_at insns b r) both in
        (behind_read b below (nth_insn insns b) refl (known.fit b below) parts.0, parts.1)
