-- The bound of a pair by those of its sets.
use Rattle.std.proofs.Common.{◌≡◌, ◌≢◌, ℕ, zero, suc, ◌+◌, ◌*◌, ◌<◌, ◌≤◌, Bool, true, false, not, ◌&&◌, ◌||◌, nat_eq, cond, IsTrue, inl, inr}
use Rattle.std.proofs.Common.{◌∷◌, length, refl, sym, ap, ◌∙◌, arith, true≢false, ℤ, pos, ◌+ℤ◌, ◌-ℤ◌, ◌*ℤ◌, eq-eqb}
use Rattle.std.proofs.lemmas.Bool.{and_parts, and_from, or_cases, or_left, or_right, not-true, not_from_false, false_from_ne_true, cases_Bool, ne_eqb}
use Rattle.std.proofs.lemmas.Int.{ints}
use lib.IntN.{pos-*ℤ-pos}
use Rattle.ci_word.specs.Numbers.{count_below, sum_below}
use Rattle.ci_word.proofs.NumberLaws.{count_below-zero, count_below-suc, sum_below-zero, sum_below-suc, count_below-same, sum_below-same, count_below-none, sum_below-none}
use Rattle.ci_cut.specs.FlowGraph.{FlowGraph, node_at}
use Rattle.ci_cut.specs.Ports.{size}
use Rattle.ci_cut.specs.Hardware.{hardware}
use Rattle.ci_cut.specs.Gain.{software}
use Rattle.ci_cut.specs.Prefixes as cuts
use Rattle.ci_cut.proofs.PrefixLaws.{same_test, possible_parts, in_or_out, not_both}
use Rattle.ci_cut.proofs.Decisions.{node_below, possible_in, possible_out, possible_node}
use Rattle.ci_cut.proofs.OneMore.{sum_one_more, count_one_more}
use Rattle.ci_pair.specs.Pairs.{Label, First, Second, Out}
use Rattle.ci_pair.specs.Prefixes.{PairPrefix, choices, labelled, possible, further_words, saved_cycles, bound}
use Rattle.ci_pair.specs.private.States.{undecided, shared}
use Rattle.ci_pair.proofs.PrefixLaws.{length-choices, carries, out_by_both, out_not_first, out_not_second, second_not_first, same_next}
use Rattle.ci_pair.proofs.BoundLaws.{in_sum, sum_times}

-- ---- counts of two sets

either : (a b : Bool) (x : ℕ) → cond a x 0 + cond b x 0 ≡ cond (a || b) x 0 + cond (a && b) x 0
either true true x = refl
either true false x = refl
either false b x = omega arith

module _ (p q : ℕ → Bool) where
  sums_of_both : (n : ℕ) (f : ℕ → ℕ) → sum_below n p f + sum_below n q f ≡ sum_below n (λ k. p k || q k) f + sum_below n (λ k. p k && q k) f
  sums_of_both zero f =
      omega (arith, sum_below-zero p f, sum_below-zero q f, sum_below-zero (λ k. p k || q k) f, sum_below-zero (λ k. p k && q k) f)
  sums_of_both (suc n) f =
      omega (
        arith,
        sums_of_both n f,
        either (p n) (q n) (f n),
        sum_below-suc n p f,
        sum_below-suc n q f,
        sum_below-suc n (λ k. p k || q k) f,
        sum_below-suc n (λ k. p k && q k) f,
      )

  counts_of_both : (n : ℕ) → count_below n p + count_below n q ≡ count_below n (λ k. p k || q k) + count_below n (λ k. p k && q k)
  counts_of_both zero =
      omega (arith, count_below-zero p, count_below-zero q, count_below-zero (λ k. p k || q k), count_below-zero (λ k. p k && q k))
  counts_of_both (suc n) =
      omega (
        arith,
        counts_of_both n,
        either (p n) (q n) 1,
        count_below-suc n p,
        count_below-suc n q,
        count_below-suc n (λ k. p k || q k),
        count_below-suc n (λ k. p k && q k),
      )

-- ---- members that are counted twice

moved : (s u h r : ℕ) (a b : ℤ) (e : ℕ) → b ≡ a +ℤ pos e
    → ((((pos (s + u) -ℤ pos h) -ℤ pos r) -ℤ b) -ℤ (pos u -ℤ pos e)) ≡ (((pos s -ℤ pos h) -ℤ pos r) -ℤ a)
moved s u h r a b e same = omega (arith, ints)

without : (read pad s u h x c d : ℕ)
    → (saved_cycles read pad (s + u) h x (c + d) -ℤ (pos u -ℤ pos (d * pad))) ≡ saved_cycles read pad s h x c
without read pad s u h x c d =
    let places : ((pos (c + d) -ℤ pos 2) -ℤ pos x) ≡ (((pos c -ℤ pos 2) -ℤ pos x) +ℤ pos d) = omega (arith, ints) in
    moved s u h (x * read) (((pos c -ℤ pos 2) -ℤ pos x) *ℤ pos pad) (((pos (c + d) -ℤ pos 2) -ℤ pos x) *ℤ pos pad) (d * pad)
    (ap (λ z. z *ℤ pos pad) places ∙ sum_times pad ((pos c -ℤ pos 2) -ℤ pos x) (pos d)
    ∙ ap (λ z. (((pos c -ℤ pos 2) -ℤ pos x) *ℤ pos pad) +ℤ z) (pos-*ℤ-pos d pad))

module _ (graph : FlowGraph) (prefix : PairPrefix) where
  -- the nodes that may be in one of the sets
  pub possible_is : (k : ℕ) → possible graph prefix k
      ≡ (cuts.possible graph (choices First prefix) k || cuts.possible graph (choices Second prefix) k)
  possible_is k = same_test _ _ there back
    where
      there : IsTrue (possible graph prefix k) → IsTrue (cuts.possible graph (choices First prefix) k || cuts.possible graph (choices Second prefix) k)
      there here =
          let parts = and_parts _ _ here in
          elim (cases_Bool (cuts.left_out graph (choices First prefix) k)) [
            | inr in_ ↦ or_left _ _ (and_from _ _ parts.0 (not_from_false _ in_))
            | inl first ↦ elim (cases_Bool (cuts.left_out graph (choices Second prefix) k)) [
              | inr in_ ↦ or_right _ _ (and_from _ _ parts.0 (not_from_false _ in_))
              | inl second ↦ absurd (true≢false (sym (out_by_both graph prefix k first second) ∙ not-true _ parts.1))
            ]
          ]

      in_one : (which : Label) → (IsTrue (labelled graph Out prefix k) → IsTrue (cuts.left_out graph (choices which prefix) k))
          → IsTrue (cuts.possible graph (choices which prefix) k) → IsTrue (possible graph prefix k)
      in_one which out here =
          let parts = possible_parts graph (choices which prefix) k here in
          and_from _ _ parts.0 (not_from_false _ (false_from_ne_true _ (λ is. parts.1 (out is))))

      back : IsTrue (cuts.possible graph (choices First prefix) k || cuts.possible graph (choices Second prefix) k) → IsTrue (possible graph prefix k)
      back here = elim (or_cases _ _ here) [
        | inl first ↦ in_one First (carries graph First Out not out_not_first prefix k) first
        | inr second ↦ in_one Second (carries graph Second Out not out_not_second prefix k) second
      ]

  both_software : software graph (cuts.possible graph (choices First prefix)) + software graph (cuts.possible graph (choices Second prefix))
      ≡ software graph (possible graph prefix) + software graph (undecided graph prefix)
  both_software =
      let n = length graph.nodes in
      let f : ℕ → ℕ = λ k. (node_at graph k).latency in
      omega (
        arith,
        sums_of_both (cuts.possible graph (choices First prefix)) (cuts.possible graph (choices Second prefix)) n f,
        sum_below-same n (possible graph prefix) (λ k. cuts.possible graph (choices First prefix) k || cuts.possible graph (choices Second prefix) k) f f
            (λ k _. possible_is k) (λ k _ _. refl),
      )

  both_sizes : size graph (cuts.possible graph (choices First prefix)) + size graph (cuts.possible graph (choices Second prefix))
      ≡ size graph (possible graph prefix) + size graph (undecided graph prefix)
  both_sizes =
      let n = length graph.nodes in
      omega (
        arith,
        counts_of_both (cuts.possible graph (choices First prefix)) (cuts.possible graph (choices Second prefix)) n,
        count_below-same n (possible graph prefix) (λ k. cuts.possible graph (choices First prefix) k || cuts.possible graph (choices Second prefix) k)
            (λ k _. possible_is k),
      )

  -- the bound of the pair is that of both sets, less what is counted twice
  pub bound_by_sets : ((cuts.bound graph (choices First prefix) +ℤ cuts.bound graph (choices Second prefix)) -ℤ shared graph prefix) ≡ bound graph prefix
  bound_by_sets =
      let h : ℕ = hardware graph (labelled graph First prefix) + hardware graph (labelled graph Second prefix) in
      let x : ℕ = further_words graph prefix First + further_words graph prefix Second in
      ap (λ z. z -ℤ shared graph prefix) (in_sum graph.read graph.pad
      (software graph (cuts.possible graph (choices First prefix))) (software graph (cuts.possible graph (choices Second prefix)))
      (hardware graph (labelled graph First prefix)) (hardware graph (labelled graph Second prefix))
      (further_words graph prefix First) (further_words graph prefix Second)
      (size graph (cuts.possible graph (choices First prefix))) (size graph (cuts.possible graph (choices Second prefix))))
      ∙ (λ i. saved_cycles graph.read graph.pad (both_software i) h x (both_sizes i) -ℤ shared graph prefix)
      ∙ without graph.read graph.pad (software graph (possible graph prefix)) (software graph (undecided graph prefix)) h x
      (size graph (possible graph prefix)) (size graph (undecided graph prefix))

-- ---- one label more

module _ (graph : FlowGraph) (prefix : PairPrefix) (node : ℕ) (next : IsTrue (cuts.is_next graph (choices First prefix) node)) where
  next_second : IsTrue (cuts.is_next graph (choices Second prefix) node)
  next_second = same_next graph First Second prefix node next

  -- the other nodes stay undecided
  first_out : (k : ℕ) → undecided graph (First ∷ prefix) k ≡ (not (nat_eq k node) && undecided graph prefix k)
  first_out k =
      (λ i. possible_in graph (choices First prefix) node next i k && possible_out graph (choices Second prefix) node next_second k i)
      ∙ swap (not (nat_eq k node)) (cuts.possible graph (choices First prefix) k) (cuts.possible graph (choices Second prefix) k)
    where
      swap : (n a b : Bool) → (a && (n && b)) ≡ (n && (a && b))
      swap true a b = refl
      swap false true b = refl
      swap false false b = refl

  second_out : (k : ℕ) → undecided graph (Second ∷ prefix) k ≡ (not (nat_eq k node) && undecided graph prefix k)
  second_out k =
      (λ i. possible_out graph (choices First prefix) node next k i && possible_in graph (choices Second prefix) node next_second i k)
      ∙ front (not (nat_eq k node)) (cuts.possible graph (choices First prefix) k) (cuts.possible graph (choices Second prefix) k)
    where
      front : (n a b : Bool) → ((n && a) && b) ≡ (n && (a && b))
      front true a b = refl
      front false a b = refl

  both_out : (k : ℕ) → undecided graph (Out ∷ prefix) k ≡ (not (nat_eq k node) && undecided graph prefix k)
  both_out k =
      (λ i. possible_out graph (choices First prefix) node next k i && possible_out graph (choices Second prefix) node next_second k i)
      ∙ once (not (nat_eq k node)) (cuts.possible graph (choices First prefix) k) (cuts.possible graph (choices Second prefix) k)
    where
      once : (n a b : Bool) → ((n && a) && (n && b)) ≡ (n && (a && b))
      once true a b = refl
      once false a b = refl

  undecided_more : (l : Label) (k : ℕ) → undecided graph (l ∷ prefix) k ≡ (not (nat_eq k node) && undecided graph prefix k)
  undecided_more First = first_out
  undecided_more Second = second_out
  undecided_more Out = both_out

  module _ (l : Label) where
    at_node : undecided graph (l ∷ prefix) node ≡ false
    at_node = undecided_more l node ∙ ap (λ b. not b && undecided graph prefix node) (eq-eqb node node refl)

    was_there : undecided graph prefix node ≡ true
    was_there = and_from _ _ (possible_node graph (choices First prefix) node next) (possible_node graph (choices Second prefix) node next_second)

    elsewhere : (k : ℕ) → k ≢ node → undecided graph prefix k ≡ undecided graph (l ∷ prefix) k
    elsewhere k other = sym (undecided_more l k ∙ ap (λ b. not b && undecided graph prefix k) (ne_eqb k node other))

    pub shared_software : software graph (undecided graph prefix) ≡ software graph (undecided graph (l ∷ prefix)) + (node_at graph node).latency
    shared_software = sum_one_more (undecided graph (l ∷ prefix)) (undecided graph prefix) node at_node was_there elsewhere
        (length graph.nodes) (λ k. (node_at graph k).latency) (node_below graph (choices First prefix) node next)

    pub shared_size : size graph (undecided graph prefix) ≡ suc (size graph (undecided graph (l ∷ prefix)))
    shared_size = count_one_more (undecided graph (l ∷ prefix)) (undecided graph prefix) node at_node was_there elsewhere
        (length graph.nodes) (node_below graph (choices First prefix) node next)

    -- a label takes what its node adds beyond a no-op
    pub shared_more : shared graph (l ∷ prefix) ≡ shared graph prefix -ℤ (pos (node_at graph node).latency -ℤ pos graph.pad)
    shared_more = less (software graph (undecided graph prefix)) (software graph (undecided graph (l ∷ prefix)))
        (size graph (undecided graph prefix) * graph.pad) (size graph (undecided graph (l ∷ prefix)) * graph.pad)
        shared_software (ap (λ (n : ℕ). n * graph.pad) shared_size ∙ one_more (size graph (undecided graph (l ∷ prefix))))
      where
        one_more : (n : ℕ) → suc n * graph.pad ≡ graph.pad + n * graph.pad
        one_more n = omega arith

        less : (s t c d : ℕ) → s ≡ t + (node_at graph node).latency → c ≡ graph.pad + d
            → pos t -ℤ pos d ≡ (pos s -ℤ pos c) -ℤ (pos (node_at graph node).latency -ℤ pos graph.pad)
        less s t c d first second = omega (arith, ints)

-- where all are decided, nothing is shared
pub shared_none : (graph : FlowGraph) (prefix : PairPrefix) → cuts.eligible_nodes graph ≤ length prefix → shared graph prefix ≡ pos 0
shared_none graph prefix whole =
    let nobody : (k : ℕ) → k < length graph.nodes → undecided graph prefix k ≡ false = λ k _. false_from_ne_true _ (λ here.
    let both = and_parts _ _ here in
    let first = possible_parts graph (choices First prefix) k both.0 in
    let second = possible_parts graph (choices Second prefix) k both.1 in
    elim (in_or_out graph (choices First prefix) k first.0 (omega (arith, length-choices First prefix))) [
      | inr out ↦ first.1 out
      | inl in_ ↦ elim (in_or_out graph (choices Second prefix) k first.0 (omega (arith, length-choices Second prefix))) [
        | inr out ↦ second.1 out
        | inl also ↦ not_both graph (choices First prefix) k in_ (carries graph First Second not second_not_first prefix k also)
      ]
    ]) in
    let no_sum : software graph (undecided graph prefix) ≡ 0 = sum_below-none (length graph.nodes) (undecided graph prefix) (λ k. (node_at graph k).latency) nobody in
    let no_count : size graph (undecided graph prefix) ≡ 0 = count_below-none (length graph.nodes) (undecided graph prefix) nobody in
    empty (software graph (undecided graph prefix)) (size graph (undecided graph prefix) * graph.pad) no_sum (ap (λ (n : ℕ). n * graph.pad) no_count ∙ omega arith)
  where
    empty : (s c : ℕ) → s ≡ 0 → c ≡ 0 → pos s -ℤ pos c ≡ pos 0
    empty s c first second = omega (arith, ints)
