-- The bound of a prefix of pairs: each pair that goes on from it gains no more, and it never rises.
use Rattle.std.proofs.Common.{◌≡◌, ℕ, zero, suc, ◌+◌, ◌-◌, ◌*◌, ◌<◌, ◌≤◌, Bool, true, false, IsTrue, ◌∷◌}
use Rattle.std.proofs.Common.{length, cond, refl, sym, ap, ◌∙◌, arith, true≢false, ℤ, pos, ◌+ℤ◌, ◌-ℤ◌, ◌*ℤ◌, ◌≤ℤ◌, ◌<ℤ◌}
use Rattle.std.proofs.lemmas.Bool.{and_parts}
use Rattle.std.proofs.lemmas.Int.{ints}
use Rattle.std.proofs.lemmas.Bool.Decides.{nat_tests}
use lib.IntN.{suc_ℤ-*ℤ, zero-*ℤ, *ℤ_comm}
use Rattle.ci_word.specs.Numbers.{count_below, sum_below}
use Rattle.ci_word.proofs.NumberLaws.{count_below-zero, count_below-suc, sum_below-zero, sum_below-suc, count_below-none, sum_below-none}
use Rattle.ci_cut.specs.declared.graph.Limits.{Limits}
use Rattle.ci_cut.specs.FlowGraph.{FlowGraph, node_at}
use Rattle.ci_cut.specs.GraphRules.{IsFlowGraph}
use Rattle.ci_cut.specs.Ports.{size}
use Rattle.ci_cut.specs.Hardware.{hardware}
use Rattle.ci_cut.specs.Gain.{software, gain, further_words_of}
use Rattle.ci_cut.specs.Gain as one
use Rattle.ci_cut.specs.Prefixes as cuts
use Rattle.ci_cut.specs.private.Reached as reached
use Rattle.ci_cut.proofs.SavedCycles.{saved_cycles-antitone, saved_cycles-members}
use Rattle.ci_cut.proofs.PrefixLaws.{eligible_below, possible_parts, completion_extends}
use Rattle.ci_cut.proofs.PrefixLaws as single
use Rattle.ci_cut.proofs.Extensions.{hardware_rises, outputs_rise, settled_rise}
use Rattle.ci_cut.proofs.BoundLaws.{completion_bounded, bounded_earlier}
use Rattle.ci_pair.specs.Pairs.{NodePair, FitTogether, pair_gain, Label, First, Second}
use Rattle.ci_pair.specs.Prefixes.{PairPrefix, is_label, choices, labelled, chosen, possible, further_words, saved_cycles, bound, IsOpen, IsBounded}
use Rattle.ci_pair.specs.private.Reached.{Completes}
use Rattle.ci_pair.proofs.PrefixLaws.{first_possible, second_possible, stays_mirrored, stays_crossing}
use Rattle.ci_pair.proofs.PrefixLaws.{next_completes, before_more, possible_earlier}

-- ---- integers

along : {a b c : ℤ} → a ≤ℤ b → b ≤ℤ c → a ≤ℤ c
along h k = omega (arith, ints)

same_le : {a b : ℤ} → a ≡ b → a ≤ℤ b
same_le e = omega (arith, ints)

both_le : {a b c d : ℤ} → a ≤ℤ c → b ≤ℤ d → (a +ℤ b) ≤ℤ (c +ℤ d)
both_le h k = omega (arith, ints)

times_sum : (n : ℕ) (a b : ℤ) → pos n *ℤ (a +ℤ b) ≡ (pos n *ℤ a) +ℤ (pos n *ℤ b)
times_sum zero a b = zero-*ℤ (a +ℤ b) ∙ none ∙ sym (λ i. zero-*ℤ a i +ℤ zero-*ℤ b i)
  where
    none : pos 0 ≡ pos 0 +ℤ pos 0
    none = omega (arith, ints)
times_sum (suc n) a b =
    suc_ℤ-*ℤ (pos n) (a +ℤ b) ∙ ap (λ z. z +ℤ (a +ℤ b)) (times_sum n a b) ∙ apart (pos n *ℤ a) (pos n *ℤ b)
    ∙ sym (λ i. suc_ℤ-*ℤ (pos n) a i +ℤ suc_ℤ-*ℤ (pos n) b i)
  where
    apart : (x y : ℤ) → (x +ℤ y) +ℤ (a +ℤ b) ≡ (x +ℤ a) +ℤ (y +ℤ b)
    apart x y = omega (arith, ints)

pub sum_times : (n : ℕ) (a b : ℤ) → (a +ℤ b) *ℤ pos n ≡ (a *ℤ pos n) +ℤ (b *ℤ pos n)
sum_times n a b = *ℤ_comm (a +ℤ b) (pos n) ∙ times_sum n a b ∙ (λ i. *ℤ_comm (pos n) a i +ℤ *ℤ_comm (pos n) b i)

-- ---- the limits of one of both sets are those of a cut

module _ (graph : FlowGraph) (limits : Limits) (prefix : PairPrefix) (which : Label) where
  of_cut : reached.IsBounded graph limits (choices which prefix) → IsBounded graph limits prefix which
  of_cut is = record { convex = is.convex; outputs_within = is.outputs_within; inputs_within = is.inputs_within }

  to_cut : IsBounded graph limits prefix which → reached.IsBounded graph limits (choices which prefix)
  to_cut is = record { convex = is.convex; outputs_within = is.outputs_within; inputs_within = is.inputs_within }

-- ---- what two uses save together

-- by numbers alone, it is what one use with one further word saves, and a read
pub as_one : (read pad software hardware further size : ℕ)
    → saved_cycles read pad software hardware further size
    ≡ (one.saved_cycles read pad software hardware (suc further) size +ℤ pos read)
as_one read pad software hardware further size =
    let places : (pos size -ℤ pos 2) -ℤ pos further ≡ (pos size -ℤ pos 1) -ℤ pos (suc further) = omega (arith, ints) in
    ap (λ z. ((pos software -ℤ pos hardware) -ℤ pos (further * read)) -ℤ (z *ℤ pos pad)) places
    ∙ moved (((pos size -ℤ pos 1) -ℤ pos (suc further)) *ℤ pos pad)
  where
    moved : (z : ℤ) → ((pos software -ℤ pos hardware) -ℤ pos (further * read)) -ℤ z
        ≡ (((pos software -ℤ pos hardware) -ℤ pos (suc further * read)) -ℤ z) +ℤ pos read
    moved z = omega (arith, ints)

-- what each of two saves is in sum what both save
module _ (read pad : ℕ) where
  joined : (s t h k : ℕ) (m n : ℕ) (a b c : ℤ) → c ≡ a +ℤ b
      → ((((pos s -ℤ pos h) -ℤ pos m) -ℤ a) +ℤ (((pos t -ℤ pos k) -ℤ pos n) -ℤ b))
      ≡ (((pos (s + t) -ℤ pos (h + k)) -ℤ pos (m + n)) -ℤ c)
  joined s t h k m n a b c sums = omega (arith, ints)

  both_reads : (m n : ℕ) → (m + n) * read ≡ m * read + n * read
  both_reads m n = omega arith

  pub in_sum : (s t h k m n c d : ℕ)
      → one.saved_cycles read pad s h m c +ℤ one.saved_cycles read pad t k n d
      ≡ saved_cycles read pad (s + t) (h + k) (m + n) (c + d)
  in_sum s t h k m n c d =
      let places : ((pos (c + d) -ℤ pos 2) -ℤ pos (m + n)) ≡ ((pos c -ℤ pos 1) -ℤ pos m) +ℤ ((pos d -ℤ pos 1) -ℤ pos n) = omega (arith, ints) in
      joined s t h k (m * read) (n * read) (((pos c -ℤ pos 1) -ℤ pos m) *ℤ pos pad) (((pos d -ℤ pos 1) -ℤ pos n) *ℤ pos pad)
      (((pos (c + d) -ℤ pos 2) -ℤ pos (m + n)) *ℤ pos pad)
      (ap (λ z. z *ℤ pos pad) places ∙ sum_times pad ((pos c -ℤ pos 1) -ℤ pos m) ((pos d -ℤ pos 1) -ℤ pos n))
      ∙ ap (λ (r : ℕ). ((pos (s + t) -ℤ pos (h + k)) -ℤ pos r) -ℤ (((pos (c + d) -ℤ pos 2) -ℤ pos (m + n)) *ℤ pos pad)) (sym (both_reads m n))

-- the saved cycles of two uses fall in the hardware time, and in the further words where a no-op costs no more than a read
pub both_antitone : (read pad latency less more fewer further members : ℕ) → pad ≤ read → less ≤ more → fewer ≤ further
    → saved_cycles read pad latency more further members ≤ℤ saved_cycles read pad latency less fewer members
both_antitone read pad latency less more fewer further members cheap slower words =
    along (same_le (as_one read pad latency more further members))
    (along (with_read (saved_cycles-antitone read pad latency less more (suc fewer) (suc further) members cheap slower (omega arith)))
    (same_le (sym (as_one read pad latency less fewer members))))
  where
    with_read : {a b : ℤ} → a ≤ℤ b → (a +ℤ pos read) ≤ℤ (b +ℤ pos read)
    with_read h = omega (arith, ints)

-- more members with latencies of at least a no-op each save no less, also of two uses
pub both_members : (read pad latency more_latency hardware further members more : ℕ) → members ≤ more
    → latency + (more - members) * pad ≤ more_latency
    → saved_cycles read pad latency hardware further members ≤ℤ saved_cycles read pad more_latency hardware further more
both_members read pad latency more_latency hardware further members more grows enough =
    along (same_le (as_one read pad latency hardware further members))
    (along (with_read (saved_cycles-members read pad latency more_latency hardware (suc further) members more grows enough))
    (same_le (sym (as_one read pad more_latency hardware further more))))
  where
    with_read : {a b : ℤ} → a ≤ℤ b → (a +ℤ pos read) ≤ℤ (b +ℤ pos read)
    with_read h = omega (arith, ints)

-- ---- two sets without a node in common, among more nodes

module _ (pad : ℕ) where
  step : (s t u c d e s' t' u' c' d' e' xs xt xu yc yd ye : ℕ) → s + t + e * pad ≤ u + (c + d) * pad
      → xs + xt + ye * pad ≤ xu + (yc + yd) * pad → s' ≡ s + xs → t' ≡ t + xt → u' ≡ u + xu → c' ≡ c + yc → d' ≡ d + yd
      → e' ≡ e + ye → s' + t' + e' * pad ≤ u' + (c' + d') * pad
  step s t u c d e s' t' u' c' d' e' xs xt xu yc yd ye before here es et eu ec ed ee =
      omega (arith, ap (λ (n : ℕ). n * pad) ec, ap (λ (n : ℕ). n * pad) ed, ap (λ (n : ℕ). n * pad) ee)

  here : (a b m : Bool) (x : ℕ) → (IsTrue a → ¬ IsTrue b) → (IsTrue a → IsTrue m) → (IsTrue b → IsTrue m) → (IsTrue m → pad ≤ x)
      → cond a x 0 + cond b x 0 + cond m 1 0 * pad ≤ cond m x 0 + (cond a 1 0 + cond b 1 0) * pad
  here true true m x apart first second enough = absurd (apart refl refl)
  here true false true x apart first second enough = omega arith
  here true false false x apart first second enough = absurd (true≢false (sym (first refl)))
  here false true true x apart first second enough = omega arith
  here false true false x apart first second enough = absurd (true≢false (sym (second refl)))
  here false false true x apart first second enough = omega (arith, enough refl)
  here false false false x apart first second enough = omega arith

  fewer : (a b m : Bool) → (IsTrue a → ¬ IsTrue b) → (IsTrue a → IsTrue m) → (IsTrue b → IsTrue m)
      → cond a 1 0 + cond b 1 0 ≤ cond m 1 0
  fewer true true m apart first second = absurd (apart refl refl)
  fewer true false true apart first second = omega arith
  fewer true false false apart first second = absurd (true≢false (sym (first refl)))
  fewer false true true apart first second = omega arith
  fewer false true false apart first second = absurd (true≢false (sym (second refl)))
  fewer false false m apart first second = omega arith

  module _ (s t more : ℕ → Bool) (apart : (k : ℕ) → IsTrue (s k) → ¬ IsTrue (t k)) (first : (k : ℕ) → IsTrue (s k) → IsTrue (more k))
      (second : (k : ℕ) → IsTrue (t k) → IsTrue (more k)) where
    pub sizes_within : (n : ℕ) → count_below n s + count_below n t ≤ count_below n more
    sizes_within zero = omega (arith, count_below-zero s, count_below-zero t)
    sizes_within (suc n) =
        omega (
          arith,
          sizes_within n,
          fewer (s n) (t n) (more n) (apart n) (first n) (second n),
          count_below-suc n s,
          count_below-suc n t,
          count_below-suc n more,
        )

    pub latencies_within : (f : ℕ → ℕ) → ((k : ℕ) → IsTrue (more k) → pad ≤ f k) → (n : ℕ)
        → sum_below n s f + sum_below n t f + count_below n more * pad ≤ sum_below n more f + (count_below n s + count_below n t) * pad
    latencies_within f least zero =
        omega (arith, sum_below-zero s f, sum_below-zero t f, ap (λ (n : ℕ). n * pad) (count_below-zero more))
    latencies_within f least (suc n) =
        step (sum_below n s f) (sum_below n t f) (sum_below n more f) (count_below n s) (count_below n t) (count_below n more) _ _ _ _ _ _
        (cond (s n) (f n) 0) (cond (t n) (f n) 0) (cond (more n) (f n) 0) (cond (s n) 1 0) (cond (t n) 1 0) (cond (more n) 1 0)
        (latencies_within f least n)
        (here (s n) (t n) (more n) (f n) (apart n) (first n) (second n) (least n))
        (sum_below-suc n s f) (sum_below-suc n t f) (sum_below-suc n more f) (count_below-suc n s) (count_below-suc n t) (count_below-suc n more)

  enough : (s t c d : ℕ) → s + d * pad ≤ t + c * pad → c ≤ d → s + (d - c) * pad ≤ t
  enough s t c d h grows =
      let parts : d ≡ (d - c) + c = omega arith in
      omega (arith, ap (λ (n : ℕ). n * pad) parts)

-- ---- pairs that go on from a prefix

further_rise : (ins more_ins outs more_outs : ℕ) → ins ≤ more_ins → outs ≤ more_outs → further_words_of ins outs ≤ further_words_of more_ins more_outs
further_rise ins more_ins outs more_outs a b = grind (arith, nat_tests)

module _ (graph : FlowGraph) (flows : IsFlowGraph graph) (prefix : PairPrefix) where
  -- one set by its own latencies and size, and by the hardware time, the outputs and the settled inputs of what is
  -- labelled
  abbrev held : Label → (ℕ → Bool) → ℤ
  held which cut =
      one.saved_cycles graph.read graph.pad (software graph cut) (hardware graph (labelled graph which prefix))
      (further_words graph prefix which) (size graph cut)

  own_bound : (which : Label) (cut : ℕ → Bool) → reached.Completes graph (choices which prefix) cut → gain graph cut ≤ℤ held which cut
  own_bound which cut goes =
      let small : ℕ → Bool = labelled graph which prefix in
      let extends = completion_extends graph (choices which prefix) cut goes in
      let eligible : (k : ℕ) → IsTrue (cuts.possible graph (choices which prefix) k) → IsTrue (node_at graph k).eligible =
      λ k here. (possible_parts graph (choices which prefix) k here).0 in
      let nodes : (k : ℕ) → IsTrue (cut k) → k < length graph.nodes = λ k here. eligible_below graph k (eligible k (goes.within k here)) in
      saved_cycles-antitone graph.read graph.pad (software graph cut) (hardware graph small) (hardware graph cut) (further_words graph prefix which)
      (one.further_words graph cut) (size graph cut) flows.pad_read (hardware_rises graph flows small cut extends nodes)
      (further_rise _ _ _ _ (settled_rise graph flows small cut extends nodes cut (cuts.possible graph (choices which prefix)) goes.within eligible)
      (outputs_rise graph flows small cut extends))

  module _ (pair : NodePair) (goes : Completes graph prefix pair) where
    -- both sets among the nodes that may be in one
    held_bound : (held First pair.first +ℤ held Second pair.second) ≤ℤ bound graph prefix
    held_bound =
        let n = length graph.nodes in
        let latency : ℕ → ℕ = λ k. (node_at graph k).latency in
        let least : (k : ℕ) → IsTrue (possible graph prefix k) → graph.pad ≤ latency k = λ k here. flows.pad_least k (and_parts _ _ here).0 in
        let sizes = sizes_within graph.pad pair.first pair.second (possible graph prefix) goes.disjoint
        (first_possible graph prefix pair goes) (second_possible graph prefix pair goes) n in
        let latencies = latencies_within graph.pad pair.first pair.second (possible graph prefix) goes.disjoint
        (first_possible graph prefix pair goes) (second_possible graph prefix pair goes) latency least n in
        along (same_le (in_sum graph.read graph.pad (software graph pair.first) (software graph pair.second)
        (hardware graph (labelled graph First prefix)) (hardware graph (labelled graph Second prefix))
        (further_words graph prefix First) (further_words graph prefix Second) (size graph pair.first) (size graph pair.second)))
        (both_members graph.read graph.pad (software graph pair.first + software graph pair.second) (software graph (possible graph prefix))
        (hardware graph (labelled graph First prefix) + hardware graph (labelled graph Second prefix))
        (further_words graph prefix First + further_words graph prefix Second) (size graph pair.first + size graph pair.second)
        (size graph (possible graph prefix)) sizes
        (enough graph.pad (software graph pair.first + software graph pair.second) (software graph (possible graph prefix))
        (size graph pair.first + size graph pair.second) (size graph (possible graph prefix)) latencies sizes))

    -- a pair that goes on from the prefix gains no more than the bound
    pub pair_bound : pair_gain graph pair ≤ℤ bound graph prefix
    pair_bound = along (both_le (own_bound First pair.first goes.first) (own_bound Second pair.second goes.second)) held_bound

    -- and where both sets fit, what is labelled is convex and within the limits
    pub first_bounded : (limits : Limits) → FitTogether graph limits pair → IsBounded graph limits prefix First
    first_bounded limits fit = of_cut graph limits prefix First (completion_bounded graph flows (choices First prefix) pair.first goes.first limits fit.first_fits)

    pub second_bounded : (limits : Limits) → FitTogether graph limits pair → IsBounded graph limits prefix Second
    second_bounded limits fit = of_cut graph limits prefix Second (completion_bounded graph flows (choices Second prefix) pair.second goes.second limits fit.second_fits)

  -- ---- one label more

  module _ (l : Label) where
    module _ (which : Label) (own : reached.Completes graph (choices which prefix) (labelled graph which (l ∷ prefix))) where
      -- what is labelled in time and words
      time_rises : hardware graph (labelled graph which prefix) ≤ hardware graph (labelled graph which (l ∷ prefix))
      time_rises = hardware_rises graph flows (labelled graph which prefix) (labelled graph which (l ∷ prefix))
          (completion_extends graph (choices which prefix) _ own) (λ k here. eligible_below graph k (possible_parts graph (choices which prefix) k (own.within k here)).0)

      words_rise : further_words graph prefix which ≤ further_words graph (l ∷ prefix) which
      words_rise =
          let extends = completion_extends graph (choices which prefix) _ own in
          further_rise _ _ _ _
          (settled_rise graph flows (labelled graph which prefix) (labelled graph which (l ∷ prefix)) extends
          (λ k here. eligible_below graph k (possible_parts graph (choices which prefix) k (own.within k here)).0)
          (cuts.possible graph (choices which (l ∷ prefix))) (cuts.possible graph (choices which prefix))
          (single.possible_earlier graph (choices which prefix) (is_label which l)) (λ k here. (possible_parts graph (choices which prefix) k here).0))
          (outputs_rise graph flows (labelled graph which prefix) (labelled graph which (l ∷ prefix)) extends)

    -- the bound never rises
    pub bound_falls : bound graph (l ∷ prefix) ≤ℤ bound graph prefix
    bound_falls =
        let own = next_completes graph prefix l in
        let n = length graph.nodes in
        let latency : ℕ → ℕ = λ k. (node_at graph k).latency in
        let few = possible graph (l ∷ prefix) in
        let nobody : ℕ → Bool = λ _. false in
        let none_out : (k : ℕ) → IsTrue (nobody k) → IsTrue (possible graph prefix k) = λ k is. absurd (true≢false (sym is)) in
        let apart : (k : ℕ) → IsTrue (few k) → ¬ IsTrue (nobody k) = λ k _ is. true≢false (sym is) in
        let least : (k : ℕ) → IsTrue (possible graph prefix k) → graph.pad ≤ latency k = λ k here. flows.pad_least k (and_parts _ _ here).0 in
        let sizes = sizes_within graph.pad few nobody (possible graph prefix) apart (possible_earlier graph prefix l) none_out n in
        let latencies = latencies_within graph.pad few nobody (possible graph prefix) apart (possible_earlier graph prefix l) none_out latency least n in
        let no_count : count_below n nobody ≡ 0 = count_below-none n nobody (λ k _. refl) in
        let no_sum : sum_below n nobody latency ≡ 0 = sum_below-none n nobody latency (λ k _. refl) in
        let counts : count_below n few + count_below n nobody ≡ count_below n few = omega (arith, no_count) in
        along
        (both_antitone graph.read graph.pad (software graph few)
        (hardware graph (labelled graph First prefix) + hardware graph (labelled graph Second prefix))
        (hardware graph (labelled graph First (l ∷ prefix)) + hardware graph (labelled graph Second (l ∷ prefix)))
        (further_words graph prefix First + further_words graph prefix Second)
        (further_words graph (l ∷ prefix) First + further_words graph (l ∷ prefix) Second) (size graph few)
        flows.pad_read (omega (arith, time_rises First own.first, time_rises Second own.second))
        (omega (arith, words_rise First own.first, words_rise Second own.second)))
        (both_members graph.read graph.pad (software graph few) (software graph (possible graph prefix))
        (hardware graph (labelled graph First prefix) + hardware graph (labelled graph Second prefix))
        (further_words graph prefix First + further_words graph prefix Second) (size graph few) (size graph (possible graph prefix))
        (omega (arith, sizes, no_count))
        (enough graph.pad (software graph few) (software graph (possible graph prefix)) (size graph few) (size graph (possible graph prefix))
        (omega (arith, latencies, no_sum, ap (λ (m : ℕ). m * graph.pad) counts)) (omega (arith, sizes, no_count))))

    -- a prefix above an open one is open
    pub open_earlier : (limits : Limits) → IsOpen graph limits (l ∷ prefix) → IsOpen graph limits prefix
    open_earlier limits is = record {
      not_mirrored = λ mirrored. is.not_mirrored (stays_mirrored graph prefix (chosen graph (l ∷ prefix)) (next_completes graph prefix l) mirrored);
      not_crossing = λ crossing. is.not_crossing (stays_crossing graph prefix (chosen graph (l ∷ prefix)) (next_completes graph prefix l) crossing);
      first = of_cut graph limits prefix First (bounded_earlier graph flows (choices First prefix) (is_label First l) limits
          (to_cut graph limits (l ∷ prefix) First is.first));
      second = of_cut graph limits prefix Second (bounded_earlier graph flows (choices Second prefix) (is_label Second l) limits
          (to_cut graph limits (l ∷ prefix) Second is.second));
      above_none = less_of is.above_none bound_falls;
      above_each = λ pair fit before. less_of (is.above_each pair fit (before_more graph prefix l pair before)) bound_falls;
    }
      where
        less_of : {a b c : ℤ} → a <ℤ b → b ≤ℤ c → a <ℤ c
        less_of h k = omega (arith, ints)
