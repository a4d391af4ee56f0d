-- Where the words of a block's bundles stand in its folded block.
use Rattle.std.proofs.Common.{◌≡◌, ℕ, zero, suc, ◌+◌, ◌<◌, Bool, true, false, not, ◌&&◌, List, ◌++◌, length, replicate}
use Rattle.std.proofs.Common.{refl, sym, ap, ◌∙◌, arith, if◌then◌else◌, append_assoc, inl, inr, true≢false}
use Rattle.std.proofs.lemmas.List.{get_or-map, get_or_append_left, get_or-append-add, length-append, length-map}
use Rattle.std.specs.FinSet as finite
use Rattle.std.specs.Ordering.{nat_cmp}
use Rattle.ci_word.specs.Numbers.{numbers_below, count_below}
use Rattle.ci_word.proofs.NumberLaws.{length-numbers_below}
use Rattle.ci_isa.specs.declared.instruction.Insn.{Insn}
use Rattle.ci_isa.specs.declared.instruction.Insn.TheVariants.{Ebreak}
use Rattle.ci_isa.specs.Sequences.{nth_insn}
use Rattle.ci_lat.specs.Latencies.{Latencies}
use Rattle.ci_machine.proofs.TestLaws.{by_test}
use Rattle.ci_cut.proofs.RisingCounts.{count_below-one, count_below-more}
use Rattle.ci_dfg.specs.BlockGraph.{graph_of, is_joined, stay_together}
use Rattle.ci_unit.specs.Uses.{use_of}
use Rattle.ci_unit.proofs.CountLaws.{number_there, same_count}
use Rattle.ci_rewrite.specs.FoldedBlock.{no_op, places_left, those, IsFolded}
use Rattle.ci_rewrite.specs.SameEffect.{KeepsBundles, StandsInBundle}
use Rattle.ci_rewrite.proofs.CutNodes.{IsFolding, late, late_from, joined_within, first_outside, second_outside, same_side}

-- ---- several folds

pub bundles_stay : (insns : List Insn) → KeepsBundles insns insns
bundles_stay insns =
    record { place = λ u. u; first = λ u is. refl; second = λ u is. refl; behind = λ u is. refl; apart = λ u v is other same. same }

pub bundles_join : (insns folded last : List Insn) → KeepsBundles insns folded → KeepsBundles folded last → KeepsBundles insns last
bundles_join insns folded last first second = record {
  place = λ u. second.place (first.place u);
  first = λ u is. second.first (first.place u) (kept u is) ∙ first.first u is;
  second = λ u is.
      ap (λ k. nth_insn last (second.place k)) (first.behind u is) ∙ second.second (first.place u) (kept u is)
      ∙ ap (nth_insn folded) (sym (first.behind u is)) ∙ first.second u is;
  behind = λ u is. ap second.place (first.behind u is) ∙ second.behind (first.place u) (kept u is);
  apart = λ u v is other same. first.apart u v is other (second.apart (first.place u) (first.place v) (in_bundle u is) (in_bundle v other) same);
}
  where
    kept : (u : ℕ) → is_joined insns (suc u) ≡ true → is_joined folded (suc (first.place u)) ≡ true
    kept u is =
        (λ i. stay_together (first.first u is i) ((ap (nth_insn folded) (sym (first.behind u is)) ∙ first.second u is) i)) ∙ is

    in_bundle : (u : ℕ) → StandsInBundle insns u → StandsInBundle folded (first.place u)
    in_bundle zero (inl never) = absurd (true≢false (sym never))
    in_bundle (suc u) (inl is) = inl (ap (is_joined folded) (first.behind u is) ∙ kept u is)
    in_bundle u (inr is) = inr (kept u is)

-- ---- places of those that pass a test

module _ (insns : List Insn) (test : ℕ → Bool) where
  within_numbers : (k : ℕ) → k < length insns → test k ≡ true → count_below k test < length (numbers_below (length insns) test)
  within_numbers k below passes = omega (arith, count_below-more test k (length insns) passes below, length-numbers_below (length insns) test)

  within_those : (k : ℕ) → k < length insns → test k ≡ true → count_below k test < length (those insns test)
  within_those k below passes = omega (arith, within_numbers k below passes, length-map (numbers_below (length insns) test) (nth_insn insns))

  -- each stands behind those before it
  nth_those : (k : ℕ) → k < length insns → test k ≡ true → nth_insn (those insns test) (count_below k test) ≡ nth_insn insns k
  nth_those k below passes =
      get_or-map (nth_insn insns) (numbers_below (length insns) test) (count_below k test) 0 Ebreak (within_numbers k below passes)
      ∙ ap (nth_insn insns) (number_there test (length insns) k 0 below passes)

-- ---- those outside a cut

module _ {insns : List Insn} {live_out : finite.FinSet nat_cmp} {table : Latencies} {cut early : ℕ → Bool} {n : ℕ}
    (known : IsFolding insns live_out table cut early n) (middle folded : List Insn)
    (folded_is : folded ≡ those insns early ++ middle ++ those insns (late known)) where
  -- where the late ones begin
  abbrev start : ℕ
  start = length (those insns early ++ middle)

  abbrev place : ℕ → ℕ
  place k = if early k then count_below k early else start + count_below k (late known)

  early_place : (k : ℕ) → early k ≡ true → place k ≡ count_below k early
  early_place k is = ap (λ t. if t then count_below k early else start + count_below k (late known)) is

  late_place : (k : ℕ) → early k ≡ false → place k ≡ start + count_below k (late known)
  late_place k is = ap (λ t. if t then count_below k early else start + count_below k (late known)) is

  stands : (k : ℕ) → k < length insns → cut k ≡ false → nth_insn folded (place k) ≡ nth_insn insns k
  stands k there outside = by_test (early k)
      (λ is.
      ap (nth_insn folded) (early_place k is)
      ∙ ap (λ l. nth_insn l (count_below k early)) (folded_is ∙ append_assoc (those insns early) middle (those insns (late known)))
      ∙ get_or_append_left (those insns early) (middle ++ those insns (late known)) Ebreak (count_below k early) (within_those insns early k there is)
      ∙ nth_those insns early k there is)
      (λ none.
      ap (nth_insn folded) (late_place k none)
      ∙ ap (λ l. nth_insn l (start + count_below k (late known))) folded_is
      ∙ get_or-append-add (those insns early ++ middle) (those insns (late known)) (count_below k (late known)) Ebreak
      ∙ nth_those insns (late known) k there (late_from known k outside none))

  place_behind : (u : ℕ) → is_joined insns (suc u) ≡ true → place (suc u) ≡ suc (place u)
  place_behind u joined = by_test (early u)
      (λ is. omega (arith, early_place u is, early_place (suc u) (sym (same_side known u joined) ∙ is), count_below-one early u is))
      (λ none.
      omega (
        arith,
        late_place u none,
        late_place (suc u) (sym (same_side known u joined) ∙ none),
        count_below-one (late known) u (late_from known u (first_outside known u joined) none),
      ))

  early_before : (j k : ℕ) → j < length insns → early j ≡ true → early k ≡ false → place j < place k
  early_before j k there is none =
      omega (arith, early_place j is, late_place k none, within_those insns early j there is, length-append (those insns early) middle)

  places_differ : (j k : ℕ) → j < length insns → k < length insns → cut j ≡ false → cut k ≡ false → place j ≡ place k → j ≡ k
  places_differ j k j_there k_there j_outside k_outside same = by_test (early j)
      (λ j_early. by_test (early k)
      (λ k_early. same_count early j k j_early k_early (sym (early_place j j_early) ∙ same ∙ early_place k k_early))
      (λ k_late. absurd (let less = early_before j k j_there j_early k_late in omega (arith, less, same))))
      (λ j_late. by_test (early k)
      (λ k_early. absurd (let less = early_before k j k_there k_early j_late in omega (arith, less, same)))
      (λ k_late. same_count (late known) j k (late_from known j j_outside j_late) (late_from known k k_outside k_late)
      (omega (arith, same, late_place j j_late, late_place k k_late))))

  bundles_kept : KeepsBundles insns folded
  bundles_kept = record {
    place = place;
    first = λ u is. stands u (first_within u is) (first_outside known u is);
    second = λ u is. stands (suc u) (joined_within known u is) (second_outside known u is);
    behind = place_behind;
    apart = λ u v is other. places_differ u v (in_bundle_within u is) (in_bundle_within v other) (in_bundle_outside u is) (in_bundle_outside v other);
  }
    where
      first_within : (u : ℕ) → is_joined insns (suc u) ≡ true → u < length insns
      first_within u is = let within = joined_within known u is in omega arith

      in_bundle_within : (u : ℕ) → StandsInBundle insns u → u < length insns
      in_bundle_within zero (inl never) = absurd (true≢false (sym never))
      in_bundle_within (suc u) (inl is) = joined_within known u is
      in_bundle_within u (inr is) = first_within u is

      in_bundle_outside : (u : ℕ) → StandsInBundle insns u → cut u ≡ false
      in_bundle_outside zero (inl never) = absurd (true≢false (sym never))
      in_bundle_outside (suc u) (inl is) = second_outside known u is
      in_bundle_outside u (inr is) = first_outside known u is

pub keeps_bundles : {insns : List Insn} {live_out : finite.FinSet nat_cmp} {table : Latencies} {cut early : ℕ → Bool} {n : ℕ}
    (known : IsFolding insns live_out table cut early n) (number : ℕ) (folded : List Insn)
    (is : IsFolded insns (graph_of insns live_out table) cut number folded) → is.early ≡ early → KeepsBundles insns folded
keeps_bundles {insns} {live_out} {table} {cut} {early} known number folded is same_early =
    bundles_kept known (words ++ no_ops) folded
    (is.is_list ∙ ap (λ e. those insns e ++ words ++ no_ops ++ those insns (λ k. not (cut k) && not (e k))) same_early
    ∙ ap (λ l. l ++ those insns (late known)) (append_assoc (those insns early) words no_ops))
  where
    words : List Insn
    words = use_of insns (graph_of insns live_out table) cut number

    no_ops : List Insn
    no_ops = replicate (places_left (graph_of insns live_out table) cut) no_op
