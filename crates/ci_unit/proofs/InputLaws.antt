-- The inputs of a cut, as a list, are no more than are counted, and have each source outside that a member reads.
use Rattle.std.proofs.Common.{◌≡◌, ℕ, zero, suc, ◌+◌, ◌<◌, ◌≤◌, Bool, true, false, not, ◌&&◌, IsTrue, List, [], ◌∷◌, length, filter, All}
use Rattle.std.proofs.Common.{sym, ap, ◌∙◌, inl, inr, arith}
use Rattle.std.specs.List.{list_any, flat_map, AllByRecursion, IsDistinct}
use Rattle.std.proofs.lemmas.Bool.{and_parts, and_from, and_right, cases_eq, cases_Bool, not_from_true, not_from_false}
use Rattle.std.proofs.lemmas.List.Elements.{recursion_from_All}
use Rattle.ci_word.specs.Numbers.{numbers_below, count_below}
use Rattle.ci_word.proofs.NumberLaws.{count_below-mono, some_below_iff, Contains-numbers_below_iff}
use Rattle.ci_isa.specs.declared.instruction.Insn.{Insn}
use Rattle.ci_cut.specs.declared.graph.Source.{Source}
use Rattle.ci_cut.specs.declared.graph.Source.TheVariants.{Entry, Made}
use Rattle.ci_cut.specs.FlowGraph.{FlowGraph, node_at, is_source, reads}
use Rattle.ci_cut.specs.Ports.{count_sources, is_outside, is_read_by, inputs}
use Rattle.ci_cut.proofs.RisingCounts.{count_below-one, count_below-skip, count_below-rises}
use Rattle.ci_unit.specs.Units.{inputs_of}
use Rattle.ci_unit.specs.private.Reading.{IsSmall}
use Rattle.ci_unit.proofs.SourceLaws.{is_source-itself, each_weaker, each_both, each_among, each_filter, filter_each, each_flat, flat_finds}
use Rattle.ci_unit.proofs.SourceLaws.{once_distinct, once_each, filter_finds, once_finds, own_sources}

-- ---- counts

-- where one number fewer passes, one fewer is counted
count_fewer : (p q : ℕ → Bool) (k : ℕ) → p k ≡ true → q k ≡ false → ((j : ℕ) → IsTrue (q j) → IsTrue (p j))
    → (n : ℕ) → k < n → count_below n q + 1 ≤ count_below n p
count_fewer p q k passes fails implies zero below = absurd (omega arith)
count_fewer p q k passes fails implies (suc n) below = elim (cases_eq k n) [
  | inl same ↦
      let less = count_below-mono n q p (λ j _. implies j) in
      omega (arith, count_below-one p n (ap p (sym same) ∙ passes), count_below-skip q n (ap q (sym same) ∙ fails))
  | inr other ↦
      let before = count_fewer p q k passes fails implies n (omega arith) in
      elim (cases_Bool (q n)) [
        | inl here ↦ omega (arith, count_below-one p n (implies n here), count_below-one q n here)
        | inr none ↦ omega (arith, count_below-rises p n (suc n) (omega arith), count_below-skip q n none)
      ]
]

module _ (graph : FlowGraph) where
  -- a source that is counted where it passes
  abbrev IsCounted : Source → Type 0
  IsCounted (Entry r) = r < 256
  IsCounted (Made k) = k < length graph.nodes

  abbrev without : (Source → Bool) → Source → Source → Bool
  without test x y = test y && not (is_source x y)

  one_fewer : (test : Source → Bool) (x : Source) → IsCounted x → test x ≡ true → count_sources graph (without test x) + 1 ≤ count_sources graph test
  one_fewer test (Entry r) counted passes =
      omega (
        arith,
        count_fewer (λ q. test (Entry q)) (λ q. without test (Entry r) (Entry q)) r passes
            (and_right (test (Entry r)) (not (is_source (Entry r) (Entry r))) (not_from_true (is_source (Entry r) (Entry r)) (is_source-itself (Entry r))))
            (λ q e. (and_parts (test (Entry q)) (not (is_source (Entry r) (Entry q))) e).0) 256 counted,
        count_below-mono (length graph.nodes) (λ k. without test (Entry r) (Made k)) (λ k. test (Made k))
            (λ k _ e. (and_parts (test (Made k)) (not (is_source (Entry r) (Made k))) e).0),
      )
  one_fewer test (Made j) counted passes =
      omega (
        arith,
        count_fewer (λ k. test (Made k)) (λ k. without test (Made j) (Made k)) j passes
            (and_right (test (Made j)) (not (is_source (Made j) (Made j))) (not_from_true (is_source (Made j) (Made j)) (is_source-itself (Made j))))
            (λ k e. (and_parts (test (Made k)) (not (is_source (Made j) (Made k))) e).0) (length graph.nodes) counted,
        count_below-mono 256 (λ r. without test (Made j) (Entry r)) (λ r. test (Entry r))
            (λ r _ e. (and_parts (test (Entry r)) (not (is_source (Made j) (Entry r))) e).0),
      )

  -- distinct sources that pass are no more than are counted
  distinct_few : (test : Source → Bool) (xs : List Source) → IsDistinct is_source xs → AllByRecursion (λ s. IsCounted s × (test s ≡ true)) xs
      → length xs ≤ count_sources graph test
  unfolding IsDistinct
  distinct_few test [] distinct all = omega arith
  distinct_few test (x ∷ xs) distinct all =
      let rest =
      each_weaker (λ y. (is_source x y ≡ false) × (IsCounted y × (test y ≡ true))) (λ y. IsCounted y × (without test x y ≡ true))
      (λ y both. (both.1.0, and_from (test y) (not (is_source x y)) both.1.1 (not_from_false (is_source x y) both.0)))
      xs (each_both (λ y. is_source x y ≡ false) (λ y. IsCounted y × (test y ≡ true)) xs distinct.0 all.1) in
      omega (arith, distinct_few (without test x) xs distinct.1 rest, one_fewer test x all.0.0 all.0.1)

-- ---- the inputs of a cut

module _ (insns : List Insn) (graph : FlowGraph) (cut : ℕ → Bool) where
  -- a member reads the source
  abbrev pub IsReadByMember : Source → Type 0
  IsReadByMember s = (k : ℕ) × (k < length insns) × IsTrue (cut k) × (reads graph k s ≡ true)

  abbrev sources_read : List Source
  sources_read = flat_map (λ k. (node_at graph k).sources) (numbers_below (length insns) cut)

  -- each input is a source outside that a member reads
  inputs_read : AllByRecursion (λ s. (is_outside cut s ≡ true) × IsReadByMember s) (inputs_of insns graph cut)
  inputs_read =
      each_both (λ s. is_outside cut s ≡ true) IsReadByMember (inputs_of insns graph cut)
      (once_each (λ s. is_outside cut s ≡ true) (filter (is_outside cut) sources_read) (filter_each (is_outside cut) sources_read))
      (once_each IsReadByMember (filter (is_outside cut) sources_read)
      (each_filter IsReadByMember (is_outside cut) sources_read
      (each_flat IsReadByMember (λ k. (node_at graph k).sources) (numbers_below (length insns) cut) (λ k there.
      let member = (Contains-numbers_below_iff (length insns) cut k).0 there in
      each_weaker (λ s. reads graph k s ≡ true) IsReadByMember (λ s reading. (k, member.0, member.1, reading))
      (node_at graph k).sources (own_sources (node_at graph k).sources)))))

  pub input_read : (s : Source) → list_any (is_source s) (inputs_of insns graph cut) ≡ true → (is_outside cut s ≡ true) × IsReadByMember s
  input_read s = each_among (λ t. (is_outside cut t ≡ true) × IsReadByMember t) s (inputs_of insns graph cut) inputs_read

  -- a source outside that a member reads is among them
  pub has_input : (k : ℕ) (s : Source) → k < length insns → IsTrue (cut k) → reads graph k s ≡ true → is_outside cut s ≡ true
      → list_any (is_source s) (inputs_of insns graph cut) ≡ true
  has_input k s below member reading outside =
      once_finds s (filter (is_outside cut) sources_read)
      (filter_finds s (is_outside cut) outside sources_read
      (flat_finds (is_source s) (λ j. (node_at graph j).sources) (numbers_below (length insns) cut) k
      ((Contains-numbers_below_iff (length insns) cut k).1 (below, member)) reading))

  module _ (rises : (j k : ℕ) → reads graph k (Made j) ≡ true → j < k) (same_length : length graph.nodes ≡ length insns) where
    counted : (s : Source) → IsSmall s → IsReadByMember s → IsCounted graph s
    counted (Entry r) small read = small
    counted (Made j) small (k, below, member, reading) = omega (arith, rises j k reading)

    pub few_inputs : All IsSmall (inputs_of insns graph cut) → length (inputs_of insns graph cut) ≤ inputs graph cut
    few_inputs small =
        let list : List Source = inputs_of insns graph cut in
        distinct_few graph (λ s. is_outside cut s && is_read_by graph cut s) list (once_distinct (filter (is_outside cut) sources_read))
        (each_weaker (λ s. IsSmall s × ((is_outside cut s ≡ true) × IsReadByMember s))
        (λ s. IsCounted graph s × ((is_outside cut s && is_read_by graph cut s) ≡ true))
        (λ s (is_small, (is_out, (k, below, member, reading))). (
          counted s is_small (k, below, member, reading),
          and_from (is_outside cut s) (is_read_by graph cut s) is_out
              ((some_below_iff (length graph.nodes) (λ j. cut j && reads graph j s)).1
              (k, omega arith, and_from (cut k) (reads graph k s) member reading)),
        ))
        list
        (each_both IsSmall (λ s. (is_outside cut s ≡ true) × IsReadByMember s) list (recursion_from_All IsSmall list small) inputs_read))
