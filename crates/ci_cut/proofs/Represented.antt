-- What is known of the terms that represent a prefix.
use Rattle.std.proofs.Common.{◌≡◌, ℕ, ◌+◌, ◌/◌, max, ◌≤◌, ◌<◌, not, ◌&&◌, ◌||◌, Bool, true, false, ◌⊎◌, inl, inr}
use Rattle.std.proofs.Common.{IsTrue, List, [], length, refl, sym, ap, ◌∙◌, arith, true≢false}
use Rattle.std.proofs.lemmas.Bool.{cases_lt, and_parts, and_right, false_from_ne_true}
use Rattle.std.specs.Ordering.{nat_cmp}
use Rattle.std.specs.FinSet as set
use Rattle.ci_word.specs.Numbers.{count_below}
use Rattle.ci_word.proofs.NumberLaws.{count_below-le, sum_below-le, count_below-none, some_below_iff, len-count_below}
use Rattle.ci_cut.specs.declared.graph.Limits.{Limits}
use Rattle.ci_cut.specs.declared.graph.Source.{Source}
use Rattle.ci_cut.specs.declared.graph.Source.TheVariants.{Entry, Made}
use Rattle.ci_cut.specs.declared.prefix.PrefixTerms.{PrefixTerms}
use Rattle.ci_cut.specs.FlowGraph.{FlowGraph, node_at, reads}
use Rattle.ci_cut.specs.GraphRules.{IsFlowGraph}
use Rattle.ci_cut.specs.Ports.{is_read_by, is_outside, is_output, inputs, inputs_from, size}
use Rattle.ci_cut.specs.Gain.{Fits, gain, saved_by, software}
use Rattle.ci_cut.specs.private.SourceSets.{holds}
use Rattle.ci_cut.specs.Hardware.{hardware}
use Rattle.ci_cut.specs.Prefixes.{Prefix, is_eligible, eligible_nodes, is_next, is_decided, taken, left_out, possible, settled_inputs, bound}
use Rattle.ci_cut.specs.Representation.{IsNextBelow, bound_by, Represents, AreKeptFrom}
use Rattle.ci_cut.proofs.OneMore.{count_sources-few}
use Rattle.ci_cut.proofs.PrefixLaws.{eligible_below, next_from, in_or_out, is_decided-none, decided_parts, taken_possible, whole_choice}
use Rattle.ci_cut.proofs.MemberSums.{AreWithin, fits_from_parts, within_from_fits}
use Rattle.ci_cut.proofs.ChainsTo.{longest_is_critical, longest_kept}
use Rattle.ci_cut.proofs.RisingCounts.{count_below-rises, count_below-more}

-- the settled inputs are few
pub settled_inputs-few : (graph : FlowGraph) (prefix : Prefix) → length graph.nodes ≤ 256 → settled_inputs graph prefix ≤ 512
settled_inputs-few graph prefix few =
    count_sources-few graph (λ source. is_outside (possible graph prefix) source && is_read_by graph (taken graph prefix) source) few

-- what the prefix takes in are nodes
pub taken_nodes : (graph : FlowGraph) (prefix : Prefix) (k : ℕ) → IsTrue (taken graph prefix k) → k < length graph.nodes
taken_nodes graph prefix k in_ = eligible_below graph k (decided_parts graph (λ choice. choice) prefix k in_).0

module _ (graph : FlowGraph) (prefix : Prefix) (terms : PrefixTerms) (delays : List ℕ) (represents : Represents graph prefix terms delays) where
  pub software-few : terms.software ≤ 256000
  software-few =
      omega (
        arith,
        represents.software_is,
        represents.kept.few,
        sum_below-le (length graph.nodes) (possible graph prefix) (λ k. (node_at graph k).latency) 1000 (λ k _. represents.kept.latency_most k),
      )

  pub size-few : terms.size ≤ 256
  size-few = omega (arith, represents.size_is, represents.kept.few, count_below-le (length graph.nodes) (possible graph prefix))

  pub outputs-few : terms.outputs ≤ 256
  outputs-few = omega (arith, represents.outputs_are, represents.kept.few, count_below-le (length graph.nodes) (is_output graph (taken graph prefix)))

  pub hardware_is : max 1 ((terms.longest + 999) / 1000) ≡ hardware graph (taken graph prefix)
  hardware_is =
      ap (λ n. max 1 ((n + 999) / 1000))
      (longest_is_critical graph represents.kept (taken graph prefix) (taken_nodes graph prefix) delays terms.longest represents.longest_is)

  -- ---- the place

  pub next_from_below : (k : ℕ) → IsNextBelow graph terms.place k → IsTrue (is_next graph prefix k)
  next_from_below k next = next_from graph prefix k next.eligible (omega (arith, next.none_between, represents.decided))

  pub all_decided : count_below terms.place (is_eligible graph) ≡ 0 → eligible_nodes graph ≤ length prefix
  all_decided none = omega (arith, represents.decided)

  pub some_undecided : (k : ℕ) → IsNextBelow graph terms.place k → length prefix < eligible_nodes graph
  some_undecided k next = omega (arith, next.none_between, represents.decided)

  -- the eligible nodes from the place on are decided, and no others
  pub decided_from_place : (k : ℕ) → IsTrue (is_eligible graph k) → terms.place ≤ k → IsTrue (taken graph prefix k) ⊎ IsTrue (left_out graph prefix k)
  decided_from_place k eligible from =
      in_or_out graph prefix k eligible (omega (arith, represents.decided, count_below-rises (is_eligible graph) terms.place k from))

  pub place_below : (test : Bool → Bool) (k : ℕ) → IsTrue (is_decided graph test prefix k) → terms.place ≤ k
  place_below test k decided = elim (cases_lt k terms.place) [
    | inr from ↦ from
    | inl below ↦
        let parts = decided_parts graph test prefix k decided in
        absurd (omega (arith, parts.1, represents.decided, count_below-more (is_eligible graph) k terms.place parts.0 below))
  ]

  -- other delays below the place change nothing
  pub represents_kept : (later : List ℕ) → AreKeptFrom terms.place delays later → Represents graph prefix terms later
  represents_kept later kept = record {
    kept = represents.kept;
    within = represents.within;
    decided = represents.decided;
    is_taken = represents.is_taken;
    is_reaching = represents.is_reaching;
    is_read = represents.is_read;
    is_convex = represents.is_convex;
    outputs_are = represents.outputs_are;
    settled_are = represents.settled_are;
    software_is = represents.software_is;
    size_is = represents.size_is;
    bound_is = represents.bound_is;
    longest_is = longest_kept graph (taken graph prefix) delays later terms.longest
        (λ k member. kept k (place_below (λ choice. choice) k member)) represents.longest_is;
  }

  pub same_taken : set.contains terms.taken ≡ taken graph prefix
  same_taken = λ i k. represents.is_taken k i

-- once all nodes are decided, those that may be members are those taken in
pub whole_possible : (graph : FlowGraph) (prefix : Prefix) → eligible_nodes graph ≤ length prefix → possible graph prefix ≡ taken graph prefix
whole_possible graph prefix whole =
    λ i k. whole_choice graph prefix (possible graph prefix) whole (record { has = taken_possible graph prefix; within = λ j here. here }) k i

pub whole_gain : (graph : FlowGraph) (prefix : Prefix) → eligible_nodes graph ≤ length prefix → bound graph prefix ≡ gain graph (taken graph prefix)
whole_gain graph prefix whole = ap (λ members. saved_by graph members (taken graph prefix)) (whole_possible graph prefix whole)

module _ (graph : FlowGraph) (prefix : Prefix) (terms : PrefixTerms) (delays : List ℕ) (represents : Represents graph prefix terms delays)
    (limits : Limits) (whole : eligible_nodes graph ≤ length prefix) where
  whole_inputs : terms.settled ≡ inputs graph (taken graph prefix)
  whole_inputs = represents.settled_are ∙ ap (λ members. inputs_from graph (is_outside members) (taken graph prefix)) (whole_possible graph prefix whole)

  whole_size : terms.size ≡ size graph (taken graph prefix)
  whole_size = represents.size_is ∙ ap (size graph) (whole_possible graph prefix whole)

  pub whole_fits : IsTrue terms.convex → AreWithin limits terms.settled terms.outputs terms.size → Fits graph limits (taken graph prefix)
  whole_fits convex within =
      fits_from_parts graph limits (taken graph prefix) terms.settled terms.outputs terms.size whole_inputs represents.outputs_are whole_size
      (λ k in_. (decided_parts graph (λ choice. choice) prefix k in_).0) (represents.is_convex.0 convex) within

  pub whole_within : Fits graph limits (taken graph prefix) → AreWithin limits terms.settled terms.outputs terms.size
  whole_within = within_from_fits graph limits (taken graph prefix) terms.settled terms.outputs terms.size whole_inputs represents.outputs_are whole_size

-- ---- no decision yet

module _ (graph : FlowGraph) where
  taken_none : (k : ℕ) → taken graph [] k ≡ false
  taken_none k = is_decided-none graph (λ choice. choice) k

  none_taken : (k : ℕ) → ¬ IsTrue (taken graph [] k)
  none_taken k in_ = true≢false (sym in_ ∙ taken_none k)

  none_read : (source : Source) → is_read_by graph (taken graph []) source ≡ false
  none_read source = false_from_ne_true _ (λ read.
      let found = (some_below_iff (length graph.nodes) (λ k. taken graph [] k && reads graph k source)).0 read in
      none_taken found.0 (and_parts _ _ found.2).0)

  possible_none : possible graph [] ≡ is_eligible graph
  possible_none = λ i k. (ap (λ l. is_eligible graph k && not l) (is_decided-none graph not k) ∙ whole (is_eligible graph k)) i
    where
      whole : (b : Bool) → (b && true) ≡ b
      whole true = refl
      whole false = refl

  pub represents_none : IsFlowGraph graph → (delays : List ℕ) (terms : PrefixTerms) (eligible : set.FinSet nat_cmp)
      → ((k : ℕ) → set.contains eligible k ≡ is_eligible graph k)
      → terms.taken ≡ set.empty → terms.place ≡ length graph.nodes → terms.reaching ≡ set.empty → ((source : Source) → holds terms.read source ≡ false)
      → terms.convex ≡ true → terms.outputs ≡ 0 → terms.settled ≡ 0 → terms.longest ≡ 0
      → terms.software ≡ software graph (set.contains eligible) → terms.size ≡ set.len eligible
      → terms.bound ≡ bound_by graph terms.software terms.longest terms.settled terms.outputs terms.size → Represents graph [] terms delays
  represents_none flows delays terms eligible are taken_is place_is reach_is read_is convex_is outputs_is settled_is longest_is software_is size_is bound_is =
      let members : set.contains eligible ≡ possible graph [] = λ i k. (are k ∙ (λ j. sym possible_none j k)) i in
      record {
        kept = flows;
        within = omega arith;
        decided = ap (λ n. count_below n (is_eligible graph) + 0) place_is ∙ plain (eligible_nodes graph);
        is_taken = λ k. ap (λ s. set.contains s k) taken_is ∙ set.contains-empty nat_cmp k ∙ sym (taken_none k);
        is_reaching = λ k. (
          λ in_. absurd (true≢false (sym in_ ∙ ap (λ s. set.contains s k) reach_is ∙ set.contains-empty nat_cmp k)),
          λ (member, in_, walk). absurd (none_taken member in_),
        );
        is_read = λ source. read_is source ∙ sym (none_read source);
        is_convex = (λ _ a b c member. absurd (none_taken a member), λ _. convex_is);
        outputs_are = outputs_is ∙ sym (count_below-none (length graph.nodes) (is_output graph (taken graph []))
            (λ k _. ap (λ b. b && ((node_at graph k).live || is_read_by graph (λ j. not (taken graph [] j)) (Made k))) (taken_none k)));
        settled_are = settled_is ∙ sym no_source;
        longest_is = record {
          delay_to = λ k member. absurd (none_taken k member);
          chain_to = λ k member. absurd (none_taken k member);
          bound = λ k member. absurd (none_taken k member);
          reached = inl longest_is;
        };
        software_is = software_is ∙ ap (software graph) members;
        size_is = size_is ∙ len-count_below (length graph.nodes) eligible (λ k in_. eligible_below graph k (sym (are k) ∙ in_)) ∙ ap (size graph) members;
        bound_is = bound_is;
      }
    where
      plain : (n : ℕ) → n + 0 ≡ n
      plain n = omega arith

      unread : (outside : Bool) (source : Source) → (outside && is_read_by graph (taken graph []) source) ≡ false
      unread outside source = and_right outside _ (none_read source)

      no_source : settled_inputs graph [] ≡ 0
      no_source =
          omega (
            arith,
            count_below-none 256 (λ r. is_outside (possible graph []) (Entry r) && is_read_by graph (taken graph []) (Entry r)) (λ r _. unread true (Entry r)),
            count_below-none (length graph.nodes) (λ k. is_outside (possible graph []) (Made k) && is_read_by graph (taken graph []) (Made k))
                (λ k _. unread (not (possible graph [] k)) (Made k)),
          )
