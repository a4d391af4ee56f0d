-- The terms of a set of nodes never fall below those of a set that it extends.
use Rattle.std.proofs.Common.{◌≡◌, ℕ, zero, suc, ◌+◌, ◌-◌, ◌*◌, ◌<◌, ◌≤◌, max, ◌/◌, Bool, true, false, not, ◌&&◌, inl}
use Rattle.std.proofs.Common.{inr, IsTrue, List, [], ◌∷◌, length, cond, refl, sym, ap, ◌∙◌, arith, true≢false, ℤ, ◌≤ℤ◌}
use Rattle.std.proofs.lemmas.Bool.{and_parts, and_from, or_cases, or_left, or_right, not_from_false, false_from_ne_true}
use Rattle.std.proofs.lemmas.Int.{ints}
use Rattle.std.proofs.lemmas.Bool.Decides.{nat_tests}
use Rattle.ci_word.specs.Numbers.{count_below, sum_below}
use Rattle.ci_word.proofs.NumberLaws.{some_below_iff, count_below-mono, count_below-zero, count_below-suc, sum_below-zero, sum_below-suc}
use Rattle.ci_cut.specs.declared.graph.Source.{Source}
use Rattle.ci_cut.specs.declared.graph.Source.TheVariants.{Entry, Made}
use Rattle.ci_cut.specs.FlowGraph.{FlowGraph, HasArc, node_at, reads}
use Rattle.ci_cut.specs.GraphRules.{IsFlowGraph}
use Rattle.ci_cut.specs.Walks.{Walk, arc, onward, IsConvex}
use Rattle.ci_cut.specs.Ports.{is_outside, inputs_from, is_output, outputs, size}
use Rattle.ci_cut.specs.Hardware.{is_chain, critical_path_delay, hardware}
use Rattle.ci_cut.specs.Gain.{saved_by, further_words_of, software}
use Rattle.ci_cut.proofs.PortLaws.{inputs_from-mono}
use Rattle.ci_cut.proofs.SavedCycles.{saved_cycles-antitone, saved_cycles-members}
use Rattle.ci_cut.proofs.CriticalPath.{delay_along-le, critical_path_delay-reached}
use Rattle.ci_cut.proofs.PrefixLaws.{Extends}

-- where arcs lead to later nodes, walks do
pub walk_rises : {graph : FlowGraph} → ((a b : ℕ) → HasArc graph a b → a < b) → {a b : ℕ} → Walk graph a b → a < b
walk_rises rises (arc {a = a} {b = b} last) = rises a b last
walk_rises rises (onward {b = b} {c = c} walk last) = omega (arith, walk_rises rises walk, rises b c last)

module _ (graph : FlowGraph) (flows : IsFlowGraph graph) (small big : ℕ → Bool) (extends : Extends small big) where
  -- a violation of convexity stays one
  pub convex_within : IsConvex graph big → IsConvex graph small
  convex_within convex a b c member there outside back =
      λ last. convex a b c (extends.within a member) there
      (λ here. outside (extends.above a b member (omega (arith, walk_rises flows.arcs_rise there)) here)) back
      (extends.within c last)

  -- an output stays one, since all that reads it is later
  pub output_stays : (k : ℕ) → IsTrue (is_output graph small k) → IsTrue (is_output graph big k)
  output_stays k output =
      let parts = and_parts (small k) _ output in
      and_from (big k) _ (extends.within k parts.0) (elim (or_cases (node_at graph k).live _ parts.1) [
        | inl live ↦ or_left _ _ live
        | inr read ↦
            let found = (some_below_iff (length graph.nodes) (λ j. not (small j) && reads graph j (Made k))).0 read in
            let reader = and_parts _ _ found.2 in
            or_right (node_at graph k).live _ ((some_below_iff (length graph.nodes) (λ j. not (big j) && reads graph j (Made k))).1 (
              found.0,
              found.1,
              and_from _ _ (not_from_false (big found.0)
                  (false_from_ne_true (big found.0) (λ here. outside (small found.0) reader.0
                  (extends.above k found.0 parts.0 (omega (arith, flows.sources_rise k found.0 reader.1))
                  here)))) reader.1,
            ))
      ])
    where
      outside : (b : Bool) → IsTrue (not b) → IsTrue b → ⊥
      outside true out in_ = true≢false (sym out)
      outside false out in_ = true≢false (sym in_)

  pub outputs_rise : outputs graph small ≤ outputs graph big
  outputs_rise = count_below-mono (length graph.nodes) (is_output graph small) (is_output graph big) (λ k _. output_stays k)

  chain_stays : (chain : List ℕ) → IsTrue (is_chain graph small chain) → IsTrue (is_chain graph big chain)
  chain_stays [] is = is
  chain_stays (a ∷ []) is = extends.within a is
  chain_stays (a ∷ b ∷ chain) is =
      let parts = and_parts (small a && reads graph a (Made b)) (is_chain graph small (b ∷ chain)) is in
      let head = and_parts (small a) (reads graph a (Made b)) parts.0 in
      and_from (big a && reads graph a (Made b)) (is_chain graph big (b ∷ chain))
      (and_from (big a) (reads graph a (Made b)) (extends.within a head.0) head.1)
      (chain_stays (b ∷ chain) parts.1)

  pub hardware_rises : ((k : ℕ) → IsTrue (big k) → k < length graph.nodes) → hardware graph small ≤ hardware graph big
  hardware_rises nodes =
      let longest = critical_path_delay-reached graph small in
      let bound = delay_along-le graph big flows nodes longest.0 (chain_stays longest.0 longest.1) in
      rounded (critical_path_delay graph small) (critical_path_delay graph big) (omega (arith, longest.2, bound))
    where
      rounded : (a b : ℕ) → a ≤ b → max 1 ((a + 999) / 1000) ≤ max 1 ((b + 999) / 1000)
      rounded a b h = omega arith

further_rise : (ins more_ins outs more_outs : ℕ) → ins ≤ more_ins → outs ≤ more_outs → further_words_of ins outs ≤ further_words_of more_ins more_outs
further_rise ins more_ins outs more_outs a b = grind (arith, nat_tests)

-- the latencies of further members are at least a no-op each
module _ (pad : ℕ) where
  step : (s t c d s' t' c' d' xa xb ya yb : ℕ) → s + d * pad ≤ t + c * pad → xa + yb * pad ≤ xb + ya * pad
      → s' ≡ s + xa → t' ≡ t + xb → c' ≡ c + ya → d' ≡ d + yb → s' + d' * pad ≤ t' + c' * pad
  step s t c d s' t' c' d' xa xb ya yb before here es et ec ed = omega (arith, ap (λ (n : ℕ). n * pad) ec, ap (λ (n : ℕ). n * pad) ed)

  here : (a b : Bool) (x : ℕ) → (IsTrue a → IsTrue b) → (IsTrue b → pad ≤ x) → cond a x 0 + cond b 1 0 * pad ≤ cond b x 0 + cond a 1 0 * pad
  here true true x both enough = omega arith
  here true false x both enough = absurd (true≢false (sym (both refl)))
  here false true x both enough = omega (arith, enough refl)
  here false false x both enough = omega arith

  latencies_rise : (n : ℕ) (few more : ℕ → Bool) (f : ℕ → ℕ) → ((k : ℕ) → IsTrue (few k) → IsTrue (more k)) → ((k : ℕ) → IsTrue (more k) → pad ≤ f k)
      → sum_below n few f + count_below n more * pad ≤ sum_below n more f + count_below n few * pad
  latencies_rise zero few more f within least =
      omega (arith, sum_below-zero few f, ap (λ (n : ℕ). n * pad) (count_below-zero more))
  latencies_rise (suc n) few more f within least =
      step (sum_below n few f) (sum_below n more f) (count_below n few) (count_below n more) _ _ _ _
      (cond (few n) (f n) 0) (cond (more n) (f n) 0) (cond (few n) 1 0) (cond (more n) 1 0)
      (latencies_rise n few more f within least)
      (here (few n) (more n) (f n) (within n) (least n))
      (sum_below-suc n few f) (sum_below-suc n more f) (count_below-suc n few) (count_below-suc n more)

  enough : (s t c d : ℕ) → s + d * pad ≤ t + c * pad → c ≤ d → s + (d - c) * pad ≤ t
  enough s t c d h grows =
      let parts : d ≡ (d - c) + c = omega arith in
      omega (arith, ap (λ (n : ℕ). n * pad) parts)

-- what the saved cycles are by a set of members and a core are no more by more members, and a core that this one extends
module _ (graph : FlowGraph) (flows : IsFlowGraph graph) (small big : ℕ → Bool) (extends : Extends small big)
    (nodes : (k : ℕ) → IsTrue (big k) → k < length graph.nodes)
    (few more : ℕ → Bool) (within : (k : ℕ) → IsTrue (few k) → IsTrue (more k)) (eligible : (k : ℕ) → IsTrue (more k) → IsTrue (node_at graph k).eligible) where
  outside_rises : (source : Source) → IsTrue (is_outside more source) → IsTrue (is_outside few source)
  outside_rises (Entry r) out = out
  outside_rises (Made k) out = not_from_false (few k) (false_from_ne_true (few k) (λ member. true≢false (sym out ∙ ap not (within k member))))

  pub settled_rise : inputs_from graph (is_outside more) small ≤ inputs_from graph (is_outside few) big
  settled_rise = inputs_from-mono graph small big extends.within (is_outside more) (is_outside few) outside_rises

  pub saved_by_falls : saved_by graph few big ≤ℤ saved_by graph more small
  saved_by_falls =
      let words_small : ℕ = further_words_of (inputs_from graph (is_outside more) small) (outputs graph small) in
      let words_big : ℕ = further_words_of (inputs_from graph (is_outside few) big) (outputs graph big) in
      let sizes = count_below-mono (length graph.nodes) few more (λ k _. within k) in
      let latencies = latencies_rise graph.pad (length graph.nodes) few more (λ k. (node_at graph k).latency) within
      (λ k here. flows.pad_least k (eligible k here)) in
      let first = saved_cycles-antitone graph.read graph.pad (software graph few) (hardware graph small)
      (hardware graph big) words_small words_big (size graph few)
      flows.pad_read (hardware_rises graph flows small big extends nodes) (further_rise _ _ _ _ settled_rise (outputs_rise graph flows small big extends)) in
      let second = saved_cycles-members graph.read graph.pad (software graph few) (software graph more)
      (hardware graph small) words_small (size graph few) (size graph more)
      sizes (enough graph.pad _ _ _ _ latencies sizes) in
      along first second
    where
      along : {a b c : ℤ} → a ≤ℤ b → b ≤ℤ c → a ≤ℤ c
      along h k = omega (arith, ints)
