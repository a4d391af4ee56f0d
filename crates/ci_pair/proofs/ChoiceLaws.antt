-- How the sets so far lie beside another pair, where their terms represent a prefix.
use Rattle.std.proofs.Common.{◌≡◌, ℕ, ◌<◌, ◌≤◌, Bool, true, false, ◌⊎◌, inl, inr, IsTrue, length, refl, sym, ap, ◌∙◌, subst, arith, true≢false, ℤ, pos, ◌+ℤ◌, ◌-ℤ◌}
use Rattle.std.proofs.lemmas.Int.{ints}
use Rattle.ci_cut.specs.FlowGraph.{FlowGraph}
use Rattle.ci_cut.specs.Prefixes as cuts
use Rattle.ci_cut.proofs.Represented.{decided_from_place, place_below, whole_gain}
use Rattle.ci_pair.specs.declared.terms.PairTerms.{PairTerms}
use Rattle.ci_pair.specs.declared.terms.PairDelays.{PairDelays}
use Rattle.ci_pair.specs.Pairs.{NodePair, pair_gain, First, Second, Out, label_of, label, rank}
use Rattle.ci_pair.specs.Prefixes.{PairPrefix, choices, labelled, chosen, bound, IsBefore}
use Rattle.ci_pair.specs.PairSets.{ComesBeforeFrom}
use Rattle.ci_pair.specs.private.States.{Represents}
use Rattle.ci_pair.proofs.PrefixLaws.{cases_label, length-choices, out_by_both, decided_by, has_that, chosen_completes}
use Rattle.ci_pair.proofs.BoundSums.{bound_by_sets, shared_none}

in_first : (a b : Bool) → label_of a b ≡ First → a ≡ true
in_first true b is = refl
in_first false true is = absurd (omega (arith, ap rank is))
in_first false false is = absurd (omega (arith, ap rank is))

in_second : (a b : Bool) → label_of a b ≡ Second → b ≡ true
in_second true b is = absurd (omega (arith, ap rank is))
in_second false true is = refl
in_second false false is = absurd (omega (arith, ap rank is))

in_none : (a b : Bool) → label_of a b ≡ Out → (a ≡ false) × (b ≡ false)
in_none true b is = absurd (omega (arith, ap rank is))
in_none false true is = absurd (omega (arith, ap rank is))
in_none false false is = (refl, refl)

in_one : (a b : Bool) → rank (label_of a b) < 2 → (a ≡ true) ⊎ (b ≡ true)
in_one true b less = inl refl
in_one false true less = inr refl
in_one false false less = absurd (omega (arith, less))

module _ (graph : FlowGraph) (prefix : PairPrefix) (terms : PairTerms) (delays : PairDelays) (represents : Represents graph prefix terms delays) where
  -- a pair of eligible nodes comes before the sets so far, at a labelled node, where it comes before the prefix
  module _ (pair : NodePair) (first : (k : ℕ) → IsTrue (pair.first k) → IsTrue (cuts.is_eligible graph k))
      (second : (k : ℕ) → IsTrue (pair.second k) → IsTrue (cuts.is_eligible graph k)) where
    labelled_out : (k : ℕ) → terms.first.place ≤ k → rank (label pair k) < 2 → label (chosen graph prefix) k ≡ Out → IsTrue (labelled graph Out prefix k)
    labelled_out k from less none =
        let neither = in_none (labelled graph First prefix k) (labelled graph Second prefix k) none in
        let eligible : IsTrue (cuts.is_eligible graph k) = elim (in_one (pair.first k) (pair.second k) less) [ inl is ↦ first k is | inr is ↦ second k is ] in
        out_by_both graph prefix k
        (elim (decided_from_place graph (choices First prefix) terms.first delays.first represents.first k eligible from) [
          | inl in_ ↦ absurd (true≢false (sym in_ ∙ neither.0))
          | inr out ↦ out
        ])
        (elim (decided_from_place graph (choices Second prefix) terms.second delays.second represents.second k eligible (omega (arith, from, represents.same_place))) [
          | inl in_ ↦ absurd (true≢false (sym in_ ∙ neither.1))
          | inr out ↦ out
        ])

    pub before_prefix : ComesBeforeFrom terms.first.place pair (chosen graph prefix) → IsBefore graph pair prefix
    before_prefix (before, from) = elim (cases_label (label (chosen graph prefix) before.place)) [
      | inl is ↦ record {
        node = before.place;
        there = First;
        has_label = in_first (labelled graph First prefix before.place) (labelled graph Second prefix before.place) is;
        earlier = subst (λ l. rank (label pair before.place) < rank l) is before.earlier;
        same_above = before.same_above;
      }
      | inr (inl is) ↦ record {
        node = before.place;
        there = Second;
        has_label = in_second (labelled graph First prefix before.place) (labelled graph Second prefix before.place) is;
        earlier = subst (λ l. rank (label pair before.place) < rank l) is before.earlier;
        same_above = before.same_above;
      }
      | inr (inr is) ↦ record {
        node = before.place;
        there = Out;
        has_label = labelled_out before.place from (omega (arith, before.earlier, ap rank is)) is;
        earlier = subst (λ l. rank (label pair before.place) < rank l) is before.earlier;
        same_above = before.same_above;
      }
    ]

    pub before_chosen : IsBefore graph pair prefix → ComesBeforeFrom terms.first.place pair (chosen graph prefix)
    before_chosen before = (
      record {
        place = before.node;
        earlier = subst (λ l. rank (label pair before.node) < rank l)
            (sym (has_that graph prefix (chosen graph prefix) (chosen_completes graph prefix) before.there before.node before.has_label)) before.earlier;
        same_above = before.same_above;
      },
      place_below graph (choices First prefix) terms.first delays.first represents.first (λ _. true) before.node
          (decided_by graph First before.there prefix before.node before.has_label),
    )

-- the bound of a whole choice is its gain
pub whole_pair_gain : (graph : FlowGraph) (prefix : PairPrefix) → cuts.eligible_nodes graph ≤ length prefix → bound graph prefix ≡ pair_gain graph (chosen graph prefix)
whole_pair_gain graph prefix whole =
    sym (bound_by_sets graph prefix)
    ∙ (λ i. (whole_gain graph (choices First prefix) first i +ℤ whole_gain graph (choices Second prefix) second i) -ℤ shared_none graph prefix whole i)
    ∙ less_none (pair_gain graph (chosen graph prefix))
  where
    first : cuts.eligible_nodes graph ≤ length (choices First prefix)
    first = omega (arith, whole, length-choices First prefix)

    second : cuts.eligible_nodes graph ≤ length (choices Second prefix)
    second = omega (arith, whole, length-choices Second prefix)

    less_none : (z : ℤ) → z -ℤ pos 0 ≡ z
    less_none z = omega (arith, ints)

-- one choice that the terms represent is whole where another is
pub also_whole : (graph : FlowGraph) (terms : PairTerms) (one prefix : PairPrefix) (held delays : PairDelays) → Represents graph one terms held
    → Represents graph prefix terms delays → cuts.eligible_nodes graph ≤ length one → cuts.eligible_nodes graph ≤ length prefix
also_whole graph terms one prefix held delays first second whole =
    omega (arith, whole, first.first.decided, second.first.decided, length-choices First one, length-choices First prefix)
