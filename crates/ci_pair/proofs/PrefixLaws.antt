-- What labels decide, and which pairs go on from a prefix.
use Rattle.std.proofs.Common.{◌≡◌, ℕ, ◌<◌, ◌≤◌, Bool, true, false, not, ◌⊎◌, inl, inr, IsTrue, [], ◌∷◌}
use Rattle.std.proofs.Common.{length, refl, sym, ap, ◌∙◌, subst, arith, true≢false}
use Rattle.std.proofs.lemmas.Bool.{cases_lt, false_from_ne_true, and_parts, and_from, not_from_false, not-true}
use Rattle.std.proofs.lemmas.List.{length-map}
use Rattle.ci_cut.specs.FlowGraph.{FlowGraph}
use Rattle.ci_cut.specs.Prefixes as cuts
use Rattle.ci_cut.specs.private.Reached as reached
use Rattle.ci_cut.proofs.PrefixLaws.{same_test, decided_cases, decided_newest, decided_earlier, decided_above, is_decided-none, next_not_decided, next_below}
use Rattle.ci_cut.proofs.PrefixLaws.{not_both, possible_parts, next_exists, whole_choice}
use Rattle.ci_cut.proofs.PrefixLaws as single
use Rattle.ci_pair.specs.private.Reached.{Completes}
use Rattle.ci_pair.specs.Pairs.{NodePair, Leads, Cross, HasGreatest, Label, First, Second, Out, label_of, label, rank, ComesBefore}
use Rattle.ci_pair.specs.Prefixes.{PairPrefix, is_label, choices, labelled, chosen, possible, IsMirrored, IsCrossing, IsBefore}

-- ---- labels

pub cases_label : (l : Label) → (l ≡ First) ⊎ ((l ≡ Second) ⊎ (l ≡ Out))
cases_label First = inl refl
cases_label Second = inr (inl refl)
cases_label Out = inr (inr refl)

pub first_is : (a b : Bool) → is_label First (label_of a b) ≡ a
first_is true b = refl
first_is false true = refl
first_is false false = refl

pub second_is : (a b : Bool) → (IsTrue a → ¬ IsTrue b) → is_label Second (label_of a b) ≡ b
second_is true true apart = absurd (apart refl refl)
second_is true false apart = refl
second_is false true apart = refl
second_is false false apart = refl

-- a node with one label hasn't the other
pub first_not_second : (l : Label) → IsTrue (is_label First l) → IsTrue (not (is_label Second l))
first_not_second First is = refl
first_not_second Second is = absurd (true≢false (sym is))
first_not_second Out is = absurd (true≢false (sym is))

pub second_not_first : (l : Label) → IsTrue (is_label Second l) → IsTrue (not (is_label First l))
second_not_first First is = absurd (true≢false (sym is))
second_not_first Second is = refl
second_not_first Out is = absurd (true≢false (sym is))

pub out_not_first : (l : Label) → IsTrue (is_label Out l) → IsTrue (not (is_label First l))
out_not_first First is = absurd (true≢false (sym is))
out_not_first Second is = absurd (true≢false (sym is))
out_not_first Out is = refl

pub out_not_second : (l : Label) → IsTrue (is_label Out l) → IsTrue (not (is_label Second l))
out_not_second First is = absurd (true≢false (sym is))
out_not_second Second is = absurd (true≢false (sym is))
out_not_second Out is = refl

-- a node that isn't in the first or the second set is in none
neither : (l : Label) → IsTrue (not (is_label First l)) → IsTrue (not (is_label Second l)) → IsTrue (is_label Out l)
neither First first second = absurd (true≢false (sym first))
neither Second first second = absurd (true≢false (sym second))
neither Out first second = refl

-- of two sets one has the greatest node
pub not_both_greatest : (s t : ℕ → Bool) → HasGreatest s t → HasGreatest t s → ⊥
not_both_greatest s t (k, in_, above) (m, there, greatest) = omega (arith, above m there, greatest k in_)

-- ---- prefixes of both sets

pub length-choices : (which : Label) (prefix : PairPrefix) → length (choices which prefix) ≡ length prefix
length-choices which prefix = length-map prefix (is_label which)

module _ (graph : FlowGraph) where
  -- both sets decide the same node next
  pub same_next : (which other : Label) (prefix : PairPrefix) (k : ℕ) → IsTrue (cuts.is_next graph (choices which prefix) k)
      → IsTrue (cuts.is_next graph (choices other prefix) k)
  same_next which other prefix k next =
      let parts = single.next_parts graph (choices which prefix) k next in
      single.next_from graph (choices other prefix) k parts.0 (omega (arith, parts.1, length-choices which prefix, length-choices other prefix))

  -- what one label says of a node in the choices of another
  pub carries : (which other : Label) (test : Bool → Bool)
      → ((l : Label) → IsTrue (is_label other l) → IsTrue (test (is_label which l))) → (prefix : PairPrefix) (k : ℕ)
      → IsTrue (labelled graph other prefix k) → IsTrue (cuts.is_decided graph test (choices which prefix) k)
  carries which other test says [] k has = absurd (true≢false (sym has ∙ is_decided-none graph (λ b. b) k))
  carries which other test says (l ∷ prefix) k has = elim (decided_cases graph (λ b. b) (is_label other l) (choices other prefix) k has) [
    | inl newest ↦ decided_newest graph test (is_label which l) (choices which prefix) k (same_next other which prefix k newest.0) (says l newest.1)
    | inr earlier ↦ decided_earlier graph test (is_label which l) (choices which prefix) k (carries which other test says prefix k earlier)
  ]

  -- a node that both sets leave out is labelled so
  pub out_by_both : (prefix : PairPrefix) (k : ℕ) → IsTrue (cuts.left_out graph (choices First prefix) k)
      → IsTrue (cuts.left_out graph (choices Second prefix) k) → IsTrue (labelled graph Out prefix k)
  out_by_both [] k first second = absurd (true≢false (sym first ∙ is_decided-none graph not k))
  out_by_both (l ∷ prefix) k first second = elim (decided_cases graph not (is_label First l) (choices First prefix) k first) [
    | inl newest ↦ elim (decided_cases graph not (is_label Second l) (choices Second prefix) k second) [
      | inl also ↦ decided_newest graph (λ b. b) (is_label Out l) (choices Out prefix) k (same_next First Out prefix k newest.0) (neither l newest.1 also.1)
      | inr earlier ↦ absurd (next_not_decided graph not (choices Second prefix) k (same_next First Second prefix k newest.0) earlier)
    ]
    | inr before ↦ elim (decided_cases graph not (is_label Second l) (choices Second prefix) k second) [
      | inl newest ↦ absurd (next_not_decided graph not (choices First prefix) k (same_next Second First prefix k newest.0) before)
      | inr earlier ↦ decided_earlier graph (λ b. b) (is_label Out l) (choices Out prefix) k (out_by_both prefix k before earlier)
    ]
  ]

  pub decided_by : (which other : Label) (prefix : PairPrefix) (k : ℕ) → IsTrue (labelled graph other prefix k)
      → IsTrue (cuts.is_decided graph (λ _. true) (choices which prefix) k)
  decided_by which other = carries which other (λ _. true) (λ l _. refl)

-- ---- pairs that go on from a prefix

module _ (graph : FlowGraph) where
  pub completes_none : (pair : NodePair) → ((k : ℕ) → IsTrue (pair.first k) → IsTrue (cuts.is_eligible graph k))
      → ((k : ℕ) → IsTrue (pair.second k) → IsTrue (cuts.is_eligible graph k))
      → ((k : ℕ) → IsTrue (pair.first k) → ¬ IsTrue (pair.second k)) → Completes graph [] pair
  completes_none pair first second apart = record {
    first = single.completes_none graph pair.first first;
    second = single.completes_none graph pair.second second;
    disjoint = apart;
  }

  -- with the label that the pair has at the next node
  pub completes_more : (prefix : PairPrefix) (pair : NodePair) (k : ℕ) (l : Label) → Completes graph prefix pair
      → IsTrue (cuts.is_next graph (choices First prefix) k) → label pair k ≡ l → Completes graph (l ∷ prefix) pair
  completes_more prefix pair k l goes next is = record {
    first = single.completes_more graph (choices First prefix) pair.first k (is_label First l) goes.first next
        (sym (first_is (pair.first k) (pair.second k)) ∙ ap (is_label First) is);
    second = single.completes_more graph (choices Second prefix) pair.second k (is_label Second l) goes.second
        (same_next graph First Second prefix k next)
        (sym (second_is (pair.first k) (pair.second k) (goes.disjoint k)) ∙ ap (is_label Second) is);
    disjoint = goes.disjoint;
  }

  pub completes_earlier : (prefix : PairPrefix) (pair : NodePair) (l : Label) → Completes graph (l ∷ prefix) pair → Completes graph prefix pair
  completes_earlier prefix pair l goes = record {
    first = single.completes_earlier graph (choices First prefix) pair.first (is_label First l) goes.first;
    second = single.completes_earlier graph (choices Second prefix) pair.second (is_label Second l) goes.second;
    disjoint = goes.disjoint;
  }

  -- what is labelled goes on from its prefix
  pub chosen_completes : (prefix : PairPrefix) → Completes graph prefix (chosen graph prefix)
  chosen_completes prefix = record {
    first = single.taken_completes graph (choices First prefix);
    second = single.taken_completes graph (choices Second prefix);
    disjoint = λ k first second. not_both graph (choices First prefix) k first (carries graph First Second not second_not_first prefix k second);
  }

  -- from a whole choice only the pair that is labelled goes on
  pub whole_pair : (prefix : PairPrefix) (pair : NodePair) → cuts.eligible_nodes graph ≤ length prefix → Completes graph prefix pair
      → pair ≡ chosen graph prefix
  whole_pair prefix pair whole goes = λ i. record {
    first = λ k. first k i;
    second = λ k. second k i;
  }
    where
      first : (k : ℕ) → pair.first k ≡ labelled graph First prefix k
      first = whole_choice graph (choices First prefix) pair.first (omega (arith, length-choices First prefix)) goes.first

      second : (k : ℕ) → pair.second k ≡ labelled graph Second prefix k
      second = whole_choice graph (choices Second prefix) pair.second (omega (arith, length-choices Second prefix)) goes.second

  pub next_there : (prefix : PairPrefix) → length prefix < cuts.eligible_nodes graph → (k : ℕ) × IsTrue (cuts.is_next graph (choices First prefix) k)
  next_there prefix undecided = next_exists graph (choices First prefix) (omega (arith, length-choices First prefix))

  module _ (prefix : PairPrefix) (pair : NodePair) (goes : Completes graph prefix pair) where
    -- a member is eligible and isn't labelled out
    not_out : (which : Label) → ((l : Label) → IsTrue (is_label Out l) → IsTrue (not (is_label which l))) → (k : ℕ)
        → IsTrue (cuts.possible graph (choices which prefix) k) → IsTrue (possible graph prefix k)
    not_out which other k here =
        let parts = possible_parts graph (choices which prefix) k here in
        and_from _ _ parts.0 (not_from_false _ (false_from_ne_true _ (λ out. parts.1 (carries graph which Out not other prefix k out))))

    pub first_possible : (k : ℕ) → IsTrue (pair.first k) → IsTrue (possible graph prefix k)
    first_possible k here = not_out First out_not_first k (goes.first.within k here)

    pub second_possible : (k : ℕ) → IsTrue (pair.second k) → IsTrue (possible graph prefix k)
    second_possible k here = not_out Second out_not_second k (goes.second.within k here)

    -- a member from a labelled node on is labelled
    labelled_above : (which : Label) (cut : ℕ → Bool) → reached.Completes graph (choices which prefix) cut → (there : Label) (k j : ℕ)
        → IsTrue (labelled graph there prefix k) → k ≤ j → IsTrue (cut j) → IsTrue (labelled graph which prefix j)
    labelled_above which cut own there k j has above here =
        let parts = possible_parts graph (choices which prefix) j (own.within j here) in
        elim (decided_above graph (λ _. true) (choices which prefix) k j (decided_by graph which there prefix k has) above parts.0) [
          | inl in_ ↦ in_
          | inr out ↦ absurd (parts.1 out)
        ]

    -- where the prefix is mirrored, so is the pair
    pub stays_mirrored : IsMirrored graph prefix → HasGreatest pair.second pair.first
    stays_mirrored (k, has, above) = (
      k,
      goes.second.has k has,
      λ j here. elim (cases_lt j k) [
        | inl below ↦ below
        | inr from ↦ above j (labelled_above First pair.first goes.first Second k j has from here)
      ],
    )

    -- walks lead between the sets where they lead between what is labelled
    leads_on : (which other : Label) (from to : ℕ → Bool) → reached.Completes graph (choices which prefix) from
        → reached.Completes graph (choices other prefix) to → Leads graph (labelled graph which prefix) (labelled graph other prefix)
        → Leads graph from to
    leads_on which other from to first second (a, b, in_, there, walk) = (a, b, first.has a in_, second.has b there, walk)

    pub stays_crossing : IsCrossing graph prefix → Cross graph pair.first pair.second
    stays_crossing (there, back) = (
      leads_on First Second pair.first pair.second goes.first goes.second there,
      leads_on Second First pair.second pair.first goes.second goes.first back,
    )

    -- the label that a node has
    pub has_that : (there : Label) (k : ℕ) → IsTrue (labelled graph there prefix k) → label pair k ≡ there
    has_that First k has = ap (λ a. label_of a (pair.second k)) (goes.first.has k has)
    has_that Second k has =
        let in_ : pair.second k ≡ true = goes.second.has k has in
        let out : pair.first k ≡ false = false_from_ne_true _ (λ here. goes.disjoint k here in_) in
        λ i. label_of (out i) (in_ i)
    has_that Out k has =
        let first : pair.first k ≡ false = false_from_ne_true _
        (λ here. (possible_parts graph (choices First prefix) k (goes.first.within k here)).1 (carries graph First Out not out_not_first prefix k has)) in
        let second : pair.second k ≡ false = false_from_ne_true _
        (λ here. (possible_parts graph (choices Second prefix) k (goes.second.within k here)).1 (carries graph Second Out not out_not_second prefix k has)) in
        λ i. label_of (first i) (second i)

    -- a pair that comes before a prefix comes before each pair that goes on from it
    pub before_completions : (other : NodePair) → IsBefore graph other prefix → ComesBefore other pair
    before_completions other before = record {
      place = before.node;
      earlier = subst (λ l. rank (label other before.node) < rank l) (sym (has_that before.there before.node before.has_label)) before.earlier;
      same_above = λ k above. before.same_above k above ∙ same k above;
    }
      where
        same_set : (which : Label) (cut : ℕ → Bool) → reached.Completes graph (choices which prefix) cut → (k : ℕ) → before.node < k
            → labelled graph which prefix k ≡ cut k
        same_set which cut own k above = same_test (labelled graph which prefix k) (cut k) (own.has k)
            (labelled_above which cut own before.there before.node k before.has_label (omega arith))

        same : (k : ℕ) → before.node < k → label (chosen graph prefix) k ≡ label pair k
        same k above = λ i. label_of (same_set First pair.first goes.first k above i) (same_set Second pair.second goes.second k above i)

  -- ---- one label more

  module _ (prefix : PairPrefix) (l : Label) where
    pub next_completes : Completes graph prefix (chosen graph (l ∷ prefix))
    next_completes = completes_earlier prefix (chosen graph (l ∷ prefix)) l (chosen_completes (l ∷ prefix))

    -- above a labelled node the newest label changes nothing
    pub labelled_as : (which there : Label) (node k : ℕ) → IsTrue (labelled graph there prefix node) → node < k
        → labelled graph which (l ∷ prefix) k ≡ labelled graph which prefix k
    labelled_as which there node k has above =
        same_test (labelled graph which (l ∷ prefix) k) (labelled graph which prefix k)
        (λ in_. elim (decided_cases graph (λ b. b) (is_label which l) (choices which prefix) k in_) [
          | inl newest ↦ absurd (omega (arith, next_below graph (λ _. true) (choices which prefix) k node newest.0 (decided_by graph which there prefix node has)))
          | inr earlier ↦ earlier
        ])
        (decided_earlier graph (λ b. b) (is_label which l) (choices which prefix) k)

    -- what comes before the prefix comes before it with one label more
    pub before_more : (pair : NodePair) → IsBefore graph pair prefix → IsBefore graph pair (l ∷ prefix)
    before_more pair before = record {
      node = before.node;
      there = before.there;
      has_label = decided_earlier graph (λ b. b) (is_label before.there l) (choices before.there prefix) before.node before.has_label;
      earlier = before.earlier;
      same_above = λ k above. before.same_above k above ∙ sym (λ i. label_of
          (labelled_as First before.there before.node k before.has_label above i)
          (labelled_as Second before.there before.node k before.has_label above i));
    }

    -- an undecided node that may be in a set may be so before
    pub possible_earlier : (k : ℕ) → IsTrue (possible graph (l ∷ prefix) k) → IsTrue (possible graph prefix k)
    possible_earlier k here =
        let parts = and_parts _ _ here in
        and_from _ _ parts.0 (not_from_false _ (false_from_ne_true _ (λ out. true≢false (sym (decided_earlier graph (λ b. b) (is_label Out l) (choices Out prefix) k out)
        ∙ not-true _ parts.1))))
