-- The bound of a prefix, and what its sets gain that fit; open prefixes go on from open ones.
use Rattle.std.proofs.Common.{◌≡◌, ℕ, ◌<◌, Bool, true, false, not, ◌⊎◌, inl, inr, IsTrue, ◌∷◌, length, refl, sym, ap, ◌∙◌, arith, ℤ, ◌≤ℤ◌, ◌<ℤ◌}
use Rattle.std.proofs.lemmas.Int.{ints}
use Rattle.ci_cut.specs.declared.graph.Limits.{Limits}
use Rattle.ci_cut.specs.FlowGraph.{FlowGraph, node_at}
use Rattle.ci_cut.specs.GraphRules.{IsFlowGraph}
use Rattle.ci_cut.specs.Gain.{Fits, gain}
use Rattle.ci_cut.specs.Prefixes.{Prefix, is_eligible, is_next, taken, left_out, possible, bound, IsBefore}
use Rattle.ci_cut.specs.Need.{IsOpen}
use Rattle.ci_cut.specs.private.Reached.{Completes, IsBounded}
use Rattle.ci_cut.proofs.PrefixLaws.{same_test, eligible_below, possible_parts, possible_from, possible_earlier}
use Rattle.ci_cut.proofs.PrefixLaws.{decided_cases, decided_newest, decided_earlier, next_unique, next_below}
use Rattle.ci_cut.proofs.PrefixLaws.{above_next, not_both, completes_earlier, taken_completes, completion_extends}
use Rattle.ci_cut.proofs.Extensions.{convex_within, outputs_rise, settled_rise, saved_by_falls}

module _ (graph : FlowGraph) (flows : IsFlowGraph graph) (prefix : Prefix) where
  possible_nodes : (k : ℕ) → IsTrue (possible graph prefix k) → k < length graph.nodes
  possible_nodes k here = eligible_below graph k (possible_parts graph prefix k here).0

  possible_eligible : (k : ℕ) → IsTrue (possible graph prefix k) → IsTrue (node_at graph k).eligible
  possible_eligible k here = (possible_parts graph prefix k here).0

  module _ (cut : ℕ → Bool) (goes : Completes graph prefix cut) where
    cut_nodes : (k : ℕ) → IsTrue (cut k) → k < length graph.nodes
    cut_nodes k here = possible_nodes k (goes.within k here)

    -- a set that goes on from the prefix gains no more than the bound
    pub completion_bound : gain graph cut ≤ℤ bound graph prefix
    completion_bound =
        saved_by_falls graph flows (taken graph prefix) cut (completion_extends graph prefix cut goes) cut_nodes cut
        (possible graph prefix) goes.within possible_eligible

    -- and where it fits, the prefix is convex and within the limits
    pub completion_bounded : (limits : Limits) → Fits graph limits cut → IsBounded graph limits prefix
    completion_bounded limits fits =
        let extends = completion_extends graph prefix cut goes in
        record {
          convex = convex_within graph flows (taken graph prefix) cut extends fits.convex;
          outputs_within = omega (arith, outputs_rise graph flows (taken graph prefix) cut extends, fits.outputs_within);
          inputs_within =
              omega (
                arith,
                settled_rise graph flows (taken graph prefix) cut extends cut_nodes cut
                    (possible graph prefix) goes.within possible_eligible,
                fits.inputs_within,
              );
        }

  -- ---- one choice more

  module _ (choice : Bool) where
    next_goes : Completes graph prefix (taken graph (choice ∷ prefix))
    next_goes = completes_earlier graph prefix (taken graph (choice ∷ prefix)) choice (taken_completes graph (choice ∷ prefix))

    pub bound_falls : bound graph (choice ∷ prefix) ≤ℤ bound graph prefix
    bound_falls =
        saved_by_falls graph flows (taken graph prefix) (taken graph (choice ∷ prefix)) (completion_extends graph prefix _ next_goes) (cut_nodes _ next_goes)
        (possible graph (choice ∷ prefix)) (possible graph prefix) (possible_earlier graph prefix choice) possible_eligible

    pub bounded_earlier : (limits : Limits) → IsBounded graph limits (choice ∷ prefix) → IsBounded graph limits prefix
    bounded_earlier limits bounded =
        let extends = completion_extends graph prefix _ next_goes in
        record {
          convex = convex_within graph flows (taken graph prefix) (taken graph (choice ∷ prefix)) extends bounded.convex;
          outputs_within = omega (arith, outputs_rise graph flows (taken graph prefix) (taken graph (choice ∷ prefix)) extends, bounded.outputs_within);
          inputs_within =
              omega (
                arith,
                settled_rise graph flows (taken graph prefix) (taken graph (choice ∷ prefix)) extends (cut_nodes _ next_goes)
                    (possible graph (choice ∷ prefix)) (possible graph prefix) (possible_earlier graph prefix choice) possible_eligible,
                bounded.inputs_within,
              );
        }

    -- above a decided node the newest choice changes nothing
    taken_above : (node k : ℕ) → IsTrue (left_out graph prefix node) → node < k → taken graph (choice ∷ prefix) k ≡ taken graph prefix k
    taken_above node k out above =
        same_test (taken graph (choice ∷ prefix) k) (taken graph prefix k)
        (λ in_. elim (decided_cases graph (λ b. b) choice prefix k in_) [
          | inl newest ↦ absurd (omega (arith, next_below graph not prefix k node newest.0 out))
          | inr earlier ↦ earlier
        ])
        (decided_earlier graph (λ b. b) choice prefix k)

    -- what comes before the prefix comes before it with one choice more
    pub before_more : (cut : ℕ → Bool) → IsBefore graph cut prefix → IsBefore graph cut (choice ∷ prefix)
    before_more cut before = record {
      node = before.node;
      in_cut = before.in_cut;
      out_of_prefix = decided_earlier graph not choice prefix before.node before.out_of_prefix;
      same_above = λ k above. before.same_above k above ∙ sym (taken_above before.node k before.out_of_prefix above);
    }

    pub open_earlier : (limits : Limits) → IsOpen graph limits (choice ∷ prefix) → IsOpen graph limits prefix
    open_earlier limits is =
        let bounded = bounded_earlier limits (record { convex = is.convex; outputs_within = is.outputs_within; inputs_within = is.inputs_within }) in
        record {
          convex = bounded.convex;
          outputs_within = bounded.outputs_within;
          inputs_within = bounded.inputs_within;
          above_reached = record {
            above_none = less_of is.above_reached.above_none bound_falls;
            above_each = λ cut fits before. less_of (is.above_reached.above_each cut fits (before_more cut before)) bound_falls;
          };
        }
      where
        less_of : {a b c : ℤ} → a <ℤ b → b ≤ℤ c → a <ℤ c
        less_of h k = omega (arith, ints)

  -- ---- what comes before a prefix, by its newest choice

  -- a prefix with the next node in comes after the same sets
  pub before_in : (cut : ℕ → Bool) → IsBefore graph cut (true ∷ prefix) → IsBefore graph cut prefix
  before_in cut before = elim (decided_cases graph not true prefix before.node before.out_of_prefix) [
    | inl newest ↦ absurd (cc newest.1)
    | inr earlier ↦ record {
      node = before.node;
      in_cut = before.in_cut;
      out_of_prefix = earlier;
      same_above = λ k above. before.same_above k above ∙ taken_above true before.node k earlier above;
    }
  ]

  -- one with the next node out comes also after the sets that go on with the node in
  pub before_out : (cut : ℕ → Bool) → ((k : ℕ) → IsTrue (cut k) → IsTrue (is_eligible graph k))
      → IsBefore graph cut (false ∷ prefix) → IsBefore graph cut prefix ⊎ Completes graph (true ∷ prefix) cut
  before_out cut eligible before = elim (decided_cases graph not false prefix before.node before.out_of_prefix) [
    | inr earlier ↦ inl (record {
      node = before.node;
      in_cut = before.in_cut;
      out_of_prefix = earlier;
      same_above = λ k above. before.same_above k above ∙ taken_above false before.node k earlier above;
    })
    | inl newest ↦
        let earlier : (k : ℕ) → before.node < k → cut k ≡ taken graph prefix k = λ k above. before.same_above k above ∙ out_changes_nothing k in
        inr (record {
          has = λ k in_. elim (decided_cases graph (λ b. b) true prefix k in_) [
            | inl next ↦ ap cut (next_unique graph prefix k before.node next.0 newest.0) ∙ before.in_cut
            | inr sooner ↦ earlier k (next_below graph (λ b. b) prefix before.node k newest.0 sooner) ∙ sooner
          ];
          within = λ k here. possible_from graph (true ∷ prefix) k (eligible k here) (λ out. elim (decided_cases graph not true prefix k out) [
            | inl next ↦ absurd (cc next.1)
            | inr sooner ↦ not_both graph prefix k (sym (earlier k (next_below graph not prefix before.node k newest.0 sooner)) ∙ here) sooner
          ]);
        })
  ]
    where
      out_changes_nothing : (k : ℕ) → taken graph (false ∷ prefix) k ≡ taken graph prefix k
      out_changes_nothing k =
          same_test (taken graph (false ∷ prefix) k) (taken graph prefix k)
          (λ in_. elim (decided_cases graph (λ b. b) false prefix k in_) [ inl newest ↦ absurd (cc newest.1) | inr earlier ↦ earlier ])
          (decided_earlier graph (λ b. b) false prefix k)

  pub before_by_next : (cut : ℕ → Bool) (node : ℕ) → IsTrue (is_next graph prefix node)
      → Completes graph (true ∷ prefix) cut → IsBefore graph cut (false ∷ prefix)
  before_by_next cut node next goes = record {
    node = node;
    in_cut = goes.has node (decided_newest graph (λ b. b) true prefix node next refl);
    out_of_prefix = decided_newest graph not false prefix node next refl;
    same_above = λ k above. same_test (cut k) (taken graph (false ∷ prefix) k)
        (λ here.
        let parts = possible_parts graph (true ∷ prefix) k (goes.within k here) in
        elim (above_next graph prefix node k next above parts.0) [
          | inl in_ ↦ decided_earlier graph (λ b. b) false prefix k in_
          | inr out ↦ absurd (parts.1 (decided_earlier graph not true prefix k out))
        ])
        (λ in_. elim (decided_cases graph (λ b. b) false prefix k in_) [
          | inl newest ↦ absurd (cc newest.1)
          | inr earlier ↦ goes.has k (decided_earlier graph (λ b. b) true prefix k earlier)
        ]);
  }
