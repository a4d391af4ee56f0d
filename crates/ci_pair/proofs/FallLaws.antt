-- What one more label takes off a bound at least.
use Rattle.std.proofs.Common.{◌≡◌, ℕ, suc, ◌+◌, ◌-◌, ◌*◌, ◌^◌, ◌<◌, ◌≤◌, Bool, true, false, ◌⊎◌, inl, inr, IsTrue, ◌∷◌, length, refl, sym, ap, ◌∙◌, arith}
use Rattle.std.proofs.Common.{None, Some, ℤ, pos, ◌+ℤ◌, ◌-ℤ◌, ◌*ℤ◌, ◌≤ℤ◌, ◌<ℤ◌, FitsSigned, to_z, of_z, w64}
use Rattle.std.proofs.lemmas.Int.{ints}
use Rattle.std.proofs.lemmas.Bool.Decides.{nat_tests}
use lib.IntN.{pred_ℤ-*ℤ, -ℤ_one}
use Rattle.ci_cut.specs.FlowGraph.{FlowGraph, node_at}
use Rattle.ci_cut.specs.GraphRules.{IsFlowGraph}
use Rattle.ci_cut.specs.Ports.{size, outputs}
use Rattle.ci_cut.specs.Hardware.{hardware}
use Rattle.ci_cut.specs.Gain.{software, saved_cycles, further_words_of}
use Rattle.ci_cut.specs.Ports.{is_read_by}
use Rattle.ci_cut.specs.declared.graph.Source.TheVariants.{Made}
use Rattle.ci_cut.specs.Prefixes as cuts
use Rattle.ci_cut.proofs.SavedCycles.{saved_cycles-antitone, saved_one_less}
use Rattle.ci_cut.proofs.PrefixLaws.{eligible_below, possible_parts, possible_earlier, completes_earlier, taken_completes, completion_extends, next_parts}
use Rattle.ci_cut.proofs.Extensions.{hardware_rises, settled_rise}
use Rattle.ci_cut.proofs.Decisions as more
use Rattle.ci_cut.proofs.NeedLaws.{compare_gains}
use Rattle.ci_pair.specs.Pairs.{Label, First, Second, Out}
use Rattle.ci_pair.specs.Rules.{Given, IsAfterBest}
use Rattle.ci_pair.specs.Prefixes.{PairPrefix, choices, bound}
use Rattle.ci_pair.specs.private.States.{shared}
use Rattle.ci_pair.proofs.PrefixLaws.{same_next, before_more}
use Rattle.ci_pair.proofs.BoundSums.{bound_by_sets, shared_more}
use Rattle.ci_pair.proofs.SetTests.{IsSmall}

-- ---- integers

along : {a b c : ℤ} → a ≤ℤ b → b ≤ℤ c → a ≤ℤ c
along h k = omega (arith, ints)

same_le : {a b : ℤ} → a ≡ b → a ≤ℤ b
same_le e = omega (arith, ints)

pub no_cost : {a b : ℤ} → a ≤ℤ b → a ≤ℤ (b -ℤ pos 0)
no_cost h = omega (arith, ints)

-- a bound of at most the best gain closes where the best comes before
pub too_little : {P : Type 0} (a b : ℤ) → a ≤ℤ b → P → (a <ℤ b) ⊎ ((a ≡ b) × P)
too_little a b most after = elim (compare_gains a b) [
  | inl less ↦ inl less
  | inr (inl same) ↦ inr (same, after)
  | inr (inr greater) ↦ absurd (omega (arith, ints))
]

-- the same by a greater one that is told
pub too_little_by : {P : Type 0} {a b c d e : ℤ} → a ≤ℤ b → c ≡ b → c ≤ℤ d → d ≡ e → P → (a <ℤ e) ⊎ ((a ≡ e) × P)
too_little_by {a = a} {e = e} falls is most gain after = too_little a e (omega (arith, ints)) after

-- the same where a greater bound is told to be too small
pub too_little_more : {P Q : Type 0} {a b c g : ℤ} → a ≤ℤ b → c ≡ b → (P → Q) → (c <ℤ g) ⊎ ((c ≡ g) × P) → (a <ℤ g) ⊎ ((a ≡ g) × Q)
too_little_more falls is more (inl less) = inl (omega (arith, ints))
too_little_more {a = a} {g = g} falls is more (inr (same, after)) = too_little a g (omega (arith, ints)) (more after)

-- with one label more a prefix still comes after the best
pub after_more : (graph : FlowGraph) (prefix : PairPrefix) (l : Label) (best : Given) → IsAfterBest graph best prefix → IsAfterBest graph best (l ∷ prefix)
after_more graph prefix l None after = tt
after_more graph prefix l (Some best) after = before_more graph prefix l best after

-- ---- one set

-- a further word costs a read, and takes the place of a no-op
word_costs : (read pad latencies time further members : ℕ)
    → saved_cycles read pad latencies time (suc further) members
    ≡ saved_cycles read pad latencies time further members -ℤ (pos read -ℤ pos pad)
word_costs read pad latencies time further members =
    let left : ℤ = (pos members -ℤ pos 1) -ℤ pos further in
    let places : (pos members -ℤ pos 1) -ℤ pos (suc further) ≡ left -ℤ pos 1 = omega (arith, ints) in
    costs latencies time (further * read) (suc further * read) (left *ℤ pos pad) (((pos members -ℤ pos 1) -ℤ pos (suc further)) *ℤ pos pad)
    (ap (λ z. z *ℤ pos pad) (places ∙ -ℤ_one left) ∙ pred_ℤ-*ℤ left (pos pad)) (one_more further)
  where
    one_more : (n : ℕ) → suc n * read ≡ read + n * read
    one_more n = omega arith

    costs : (s h reads reads' : ℕ) (a b : ℤ) → b ≡ a -ℤ pos pad → reads' ≡ read + reads
        → ((pos s -ℤ pos h) -ℤ pos reads') -ℤ b ≡ (((pos s -ℤ pos h) -ℤ pos reads) -ℤ a) -ℤ (pos read -ℤ pos pad)
    costs s h reads reads' a b first second = omega (arith, ints)

word_more : (ins more_ins outs more_outs : ℕ) → ins ≤ more_ins → 1 ≤ outs → outs < more_outs
    → suc (further_words_of ins outs) ≤ further_words_of more_ins more_outs
word_more ins more_ins outs more_outs a b c = grind (arith, nat_tests)

words_rise : (ins more_ins outs more_outs : ℕ) → ins ≤ more_ins → outs ≤ more_outs
    → further_words_of ins outs ≤ further_words_of more_ins more_outs
words_rise ins more_ins outs more_outs a b = grind (arith, nat_tests)

less_cost : (a : ℤ) (read pad cost : ℕ) → cost + pad ≡ read → a -ℤ (pos read -ℤ pos pad) ≡ a -ℤ pos cost
less_cost a read pad cost e = omega (arith, ints)

module _ (graph : FlowGraph) (flows : IsFlowGraph graph) (prefix : cuts.Prefix) (node : ℕ) (next : IsTrue (cuts.is_next graph prefix node)) where
  abbrev latencies : ℕ
  latencies = software graph (cuts.possible graph prefix)

  abbrev members : ℕ
  members = size graph (cuts.possible graph prefix)

  abbrev time : ℕ
  time = hardware graph (cuts.taken graph prefix)

  abbrev further : ℕ
  further = further_words_of (cuts.settled_inputs graph prefix) (outputs graph (cuts.taken graph prefix))

  -- a member that is one more output beside others costs at least a read less a no-op
  pub output_falls : (cost : ℕ) → cost + graph.pad ≡ graph.read → 1 ≤ outputs graph (cuts.taken graph prefix)
      → outputs graph (cuts.taken graph prefix) < outputs graph (cuts.taken graph (true ∷ prefix))
      → cuts.bound graph (true ∷ prefix) ≤ℤ (cuts.bound graph prefix -ℤ pos cost)
  output_falls cost is some one_more =
      let big : ℕ → Bool = cuts.taken graph (true ∷ prefix) in
      let goes = completes_earlier graph prefix big true (taken_completes graph (true ∷ prefix)) in
      let extends = completion_extends graph prefix big goes in
      let nodes : (k : ℕ) → IsTrue (big k) → k < length graph.nodes =
      λ k here. eligible_below graph k (possible_parts graph prefix k (goes.within k here)).0 in
      let words : ℕ = further_words_of (cuts.settled_inputs graph (true ∷ prefix)) (outputs graph big) in
      let settled = settled_rise graph flows (cuts.taken graph prefix) big extends nodes (cuts.possible graph (true ∷ prefix))
      (cuts.possible graph prefix) (possible_earlier graph prefix true) (λ k here. (possible_parts graph prefix k here).0) in
      along (same_le (λ i. saved_cycles graph.read graph.pad (software graph (more.possible_in graph prefix node next i)) (hardware graph big) words
      (size graph (more.possible_in graph prefix node next i))))
      (along (saved_cycles-antitone graph.read graph.pad latencies time (hardware graph big) (suc further) words members flows.pad_read
      (hardware_rises graph flows (cuts.taken graph prefix) big extends nodes) (word_more _ _ _ _ settled some one_more))
      (same_le (word_costs graph.read graph.pad latencies time further members ∙ less_cost (cuts.bound graph prefix) graph.read graph.pad cost is)))

  -- a node left out costs at least its latency less a no-op
  pub latency_falls : (cost : ℕ) → cost + graph.pad ≡ (node_at graph node).latency
      → cuts.bound graph (false ∷ prefix) ≤ℤ (cuts.bound graph prefix -ℤ pos cost)
  latency_falls cost is =
      let same : cuts.taken graph (false ∷ prefix) ≡ cuts.taken graph prefix = more.taken_out graph prefix node next in
      let read : Bool = is_read_by graph (cuts.taken graph prefix) (Made node) in
      let fewer : ℕ = software graph (cuts.possible graph (false ∷ prefix)) in
      let left : ℕ = size graph (cuts.possible graph (false ∷ prefix)) in
      let words : ℕ = further_words_of (cuts.settled_inputs graph (false ∷ prefix)) (outputs graph (cuts.taken graph (false ∷ prefix))) in
      let settled : cuts.settled_inputs graph prefix ≤ cuts.settled_inputs graph (false ∷ prefix) = omega (arith, more.settled_out graph prefix node next read refl) in
      let all : latencies ≡ fewer + (node_at graph node).latency = more.software_out graph prefix node next in
      let count : members ≡ left + 1 = omega (arith, more.size_out graph prefix node next) in
      along (saved_cycles-antitone graph.read graph.pad fewer time (hardware graph (cuts.taken graph (false ∷ prefix))) further words left flows.pad_read
      (omega (arith, ap (hardware graph) same)) (words_rise _ _ _ _ settled (omega (arith, ap (outputs graph) same))))
      (same_le (sym (saved_one_less graph.read graph.pad fewer (node_at graph node).latency time further left)
      ∙ (λ i. saved_cycles graph.read graph.pad (sym all i) time further (sym count i) -ℤ (pos (node_at graph node).latency -ℤ pos graph.pad))
      ∙ less_cost (cuts.bound graph prefix) (node_at graph node).latency graph.pad cost is))

-- ---- both sets

-- the bound of both by that of each and what they share, where one falls by a cost, and the other and what is shared by
-- what the node's latency is beyond a no-op
sum_falls : (a b s a' b' s' z z' : ℤ) (latency pad other cost : ℕ) → other + pad ≡ latency → (a +ℤ b) -ℤ s ≡ z → (a' +ℤ b') -ℤ s' ≡ z'
    → s' ≡ s -ℤ (pos latency -ℤ pos pad) → a' ≤ℤ (a -ℤ pos cost) → b' ≤ℤ (b -ℤ pos other) → z' ≤ℤ (z -ℤ pos cost)
sum_falls a b s a' b' s' z z' latency pad other cost is e f g h k = omega (arith, ints)

swapped : (a b s z : ℤ) → (a +ℤ b) -ℤ s ≡ z → (b +ℤ a) -ℤ s ≡ z
swapped a b s z e = omega (arith, ints)

module _ (graph : FlowGraph) (flows : IsFlowGraph graph) (prefix : PairPrefix) (node : ℕ) (next : IsTrue (cuts.is_next graph (choices First prefix) node))
    (cost : ℕ) where
  abbrev latency : ℕ
  latency = (node_at graph node).latency

  abbrev one : ℤ
  one = cuts.bound graph (choices First prefix)

  abbrev two : ℤ
  two = cuts.bound graph (choices Second prefix)

  one_without : (other : ℕ) → other + graph.pad ≡ latency → cuts.bound graph (false ∷ choices First prefix) ≤ℤ (one -ℤ pos other)
  one_without = latency_falls graph flows (choices First prefix) node next

  two_without : (other : ℕ) → other + graph.pad ≡ latency → cuts.bound graph (false ∷ choices Second prefix) ≤ℤ (two -ℤ pos other)
  two_without = latency_falls graph flows (choices Second prefix) node (same_next graph First Second prefix node next)

  module _ (other : ℕ) (is_other : other + graph.pad ≡ latency) where
    pub first_falls : cuts.bound graph (true ∷ choices First prefix) ≤ℤ (one -ℤ pos cost)
        → bound graph (First ∷ prefix) ≤ℤ (bound graph prefix -ℤ pos cost)
    first_falls falls =
        sum_falls one two (shared graph prefix) (cuts.bound graph (true ∷ choices First prefix)) (cuts.bound graph (false ∷ choices Second prefix))
        (shared graph (First ∷ prefix)) (bound graph prefix) (bound graph (First ∷ prefix)) latency graph.pad other cost is_other
        (bound_by_sets graph prefix) (bound_by_sets graph (First ∷ prefix)) (shared_more graph prefix node next First) falls (two_without other is_other)

    pub second_falls : cuts.bound graph (true ∷ choices Second prefix) ≤ℤ (two -ℤ pos cost)
        → bound graph (Second ∷ prefix) ≤ℤ (bound graph prefix -ℤ pos cost)
    second_falls falls =
        sum_falls two one (shared graph prefix) (cuts.bound graph (true ∷ choices Second prefix)) (cuts.bound graph (false ∷ choices First prefix))
        (shared graph (Second ∷ prefix)) (bound graph prefix) (bound graph (Second ∷ prefix)) latency graph.pad other cost is_other
        (swapped one two (shared graph prefix) (bound graph prefix) (bound_by_sets graph prefix))
        (swapped (cuts.bound graph (false ∷ choices First prefix)) (cuts.bound graph (true ∷ choices Second prefix)) (shared graph (Second ∷ prefix))
        (bound graph (Second ∷ prefix)) (bound_by_sets graph (Second ∷ prefix)))
        (shared_more graph prefix node next Second) falls (one_without other is_other)

  pub out_falls : cost + graph.pad ≡ latency → bound graph (Out ∷ prefix) ≤ℤ (bound graph prefix -ℤ pos cost)
  out_falls is =
      sum_falls one two (shared graph prefix) (cuts.bound graph (false ∷ choices First prefix)) (cuts.bound graph (false ∷ choices Second prefix))
      (shared graph (Out ∷ prefix)) (bound graph prefix) (bound graph (Out ∷ prefix)) latency graph.pad cost cost is
      (bound_by_sets graph prefix) (bound_by_sets graph (Out ∷ prefix)) (shared_more graph prefix node next Out) (one_without cost is) (two_without cost is)

-- what a latency is beyond a no-op
pub over_pad : (graph : FlowGraph) (flows : IsFlowGraph graph) (prefix : cuts.Prefix) (node : ℕ) → IsTrue (cuts.is_next graph prefix node)
    → (other : ℕ) × (other + graph.pad ≡ (node_at graph node).latency)
over_pad graph flows prefix node next =
    ((node_at graph node).latency - graph.pad, omega (arith, flows.pad_least node (next_parts graph prefix node next).0))

-- a pair's bound is far from the ends of 64 bits, and so is less a cost
pub less_fits : (a b s z : ℤ) (software_of pads cost : ℕ) (held : ℤ) → IsSmall a → IsSmall b → s ≡ pos software_of -ℤ pos pads
    → software_of ≤ 256000 → pads ≤ 256 * 2 ^ 32 → (a +ℤ b) -ℤ s ≡ z → cost < 2 ^ 32 → held ≡ pos cost
    → FitsSigned w64 (to_z w64 (of_z w64 z) -ℤ to_z w64 (of_z w64 held))
    × (to_z w64 (of_z w64 (to_z w64 (of_z w64 z) -ℤ to_z w64 (of_z w64 held))) ≡ z -ℤ pos cost)
less_fits a b s z software_of pads cost held first second is few small is_z fits is_held = (omega (arith, ints), omega (arith, ints))
